-- An index of the subscriptions of a map, as subscriptions are added and removed.
use Rattle.std.specs.Prelude.{◌≡◌, ℕ, Bool, true, false, cond, List, [], ◌∷◌, map, Option, Some, None, is_some, refl}
use Rattle.std.proofs.Common.{sym, ap, ◌∙◌, subst}
use Rattle.std.proofs.lemmas.Option.{same_Some}
use Rattle.std.proofs.lemmas.List.Elements.{All-head, All-tail, All-weaker}
use Rattle.std.proofs.lemmas.Cmp.{eq_by_cmp_equiv, nat_cmp_total}
use Rattle.std.specs.Ordering.{eq_by_cmp, nat_cmp}
use Rattle.std.specs.BTreeSet.{BTreeSet}
use Rattle.std.specs.FinMap as maps
use Rattle.std.specs.FinMap.{entries, get, insert, remove, get-empty, get-from_entries, get-insert, get-remove, same_map, nat_cmp-IsAntisymmetric}
use Rattle.std.specs.List.{All}
use Rattle.entity_core.specs.Airspace.{Subscriptions, is_one_of, notified_again, notified_where}
use Rattle.entity_core.specs.declared.subscription.Sub.{Sub}
use Rattle.entity_core.proofs.Changes.{one_id, told_was}
use Rattle.entity_maps.specs.Sorted.{keyed}
use Rattle.entity_maps.specs.Subscriptions.{InOrder, pair_of, subscription_map}
use Rattle.entity_maps.proofs.Maps.{entries_of, map_of_none}
use Rattle.space_memory.specs.CellIndex.{Grows, IsMarked, KeepsOthers, Mark, mark_of}
use Rattle.space_memory.specs.IndexedSubscriptions.{AllMarked, IsIndexBut, IsIndexIfAny, IsIndexOf, holder_of}
use Rattle.space_memory.specs.Proper.{own_id}
use Rattle.space_memory.proofs.CellMeetings.{marked_more}

pub own : (ss : List Sub) (id : ℕ) (s : Sub) → get (subscription_map ss) id ≡ Some s → s.id ≡ id
own ss id s h = own_id ss id s (sym (get-from_entries nat_cmp_total (keyed pair_of ss) id) ∙ h)

same_id : (id other : ℕ) → eq_by_cmp nat_cmp id other ≡ false → id ≡ other → ⊥
same_id id other apart e =
    let bad : true ≡ false = sym (subst (λ (k : ℕ). eq_by_cmp nat_cmp id k ≡ true) e ((eq_by_cmp_equiv nat_cmp_total).refl id)) ∙ apart in cc

pub grown : (old new : BTreeSet Mark) → Grows old new → (s : Sub) → AllMarked old s → AllMarked new s
grown old new g s h = All-weaker (IsMarked old (holder_of s) 0) (IsMarked new (holder_of s) 0) (marked_more (holder_of s) old new g 0) s.volume.cells h

-- The marks of other holders belong to other subscriptions.
other_marks : (g s : Sub) (old new : BTreeSet Mark) → KeepsOthers (holder_of g) old new → (s.id ≡ g.id → ⊥) → AllMarked old s → AllMarked new s
other_marks g s old new keeps other h =
    All-weaker (IsMarked old (holder_of s) 0) (IsMarked new (holder_of s) 0) (λ c m. record { cell = m.cell; narrow = m.narrow; mark = keeps (mark_of (holder_of s) 0 c) (λ put id. other id) m.mark }) s.volume.cells h

-- ---- the whole index

module _ (ss : List Sub) (id : ℕ) (old new : BTreeSet Mark) where
  pub grown_but : Grows old new → IsIndexBut id (subscription_map ss) (Some old) → IsIndexBut id (subscription_map ss) (Some new)
  grown_but g h = λ k s at other. grown old new g s (h k s at other)

  -- Adding the marks of the missing subscription completes the index.
  pub grown_whole : (x : Sub) → get (subscription_map ss) id ≡ Some x → Grows old new → AllMarked new x → IsIndexBut id (subscription_map ss) (Some old) → IsIndexOf (subscription_map ss) new
  grown_whole x there g marked h = λ k s at.
      elim (eq_by_cmp nat_cmp k id) as (λ b. eq_by_cmp nat_cmp k id ≡ b → AllMarked new s) [
        | true ↦ λ is. subst (AllMarked new) (same_Some x s (sym there ∙ (ap (λ (q : ℕ). get (subscription_map ss) q) (sym (one_id k id is)) ∙ at))) marked
        | false ↦ λ is. grown old new g s (h k s at (same_id k id is))
      ] refl

  pub forgotten_but : (g : Sub) → get (subscription_map ss) id ≡ Some g → KeepsOthers (holder_of g) old new → IsIndexBut id (subscription_map ss) (Some old) → IsIndexBut id (subscription_map ss) (Some new)
  forgotten_but g there keeps h = λ k s at other.
      other_marks g s old new keeps (λ same. other (sym (own ss k s at) ∙ (same ∙ own ss id g there))) (h k s at other)

pub but_one : (m : Subscriptions) (id : ℕ) (index : Option (BTreeSet Mark)) → IsIndexIfAny m index → IsIndexBut id m index
but_one m id None h = tt
but_one m id (Some marks) h = λ k s at other. h k s at

pub nothing_there : (m : Subscriptions) (id : ℕ) → is_some (get m id) ≡ false → get m id ≡ None
nothing_there m id h = elim (get m id) as (λ o. is_some o ≡ false → o ≡ None) [ None ↦ λ e. refl | Some x ↦ λ e. cc ] h

-- ---- puts and removals

pub put_but : (m n : Subscriptions) (id : ℕ) (x : Sub) (index : Option (BTreeSet Mark)) → n ≡ insert m id x → IsIndexBut id m index → IsIndexBut id n index
put_but m n id x None is h = tt
put_but m n id x (Some marks) is h = λ k s at other.
    let now : cond (eq_by_cmp nat_cmp k id) (Some x) (get m k) ≡ Some s = sym (ap (λ (l : Subscriptions). get l k) is ∙ get-insert nat_cmp_total m id x k) ∙ at in
    elim (eq_by_cmp nat_cmp k id) as (λ b. eq_by_cmp nat_cmp k id ≡ b → cond b (Some x) (get m k) ≡ Some s → AllMarked marks s) [
      | true ↦ λ t g. absurd (other (one_id k id t))
      | false ↦ λ t g. h k s g other
    ] refl now

pub removed_whole : (m n : Subscriptions) (id : ℕ) (index : Option (BTreeSet Mark)) → n ≡ remove m id → IsIndexBut id m index → IsIndexIfAny n index
removed_whole m n id None is h = tt
removed_whole m n id (Some marks) is h = λ k s at.
    let now : cond (eq_by_cmp nat_cmp k id) None (get m k) ≡ Some s = sym (ap (λ (l : Subscriptions). get l k) is ∙ get-remove nat_cmp_total m id k) ∙ at in
    elim (eq_by_cmp nat_cmp k id) as (λ b. eq_by_cmp nat_cmp k id ≡ b → cond b None (get m k) ≡ Some s → AllMarked marks s) [
      | true ↦ λ t g. cc
      | false ↦ λ t g. h k s g (same_id k id t)
    ] refl now

-- A notification changes no cell.
told_marked : (marks : BTreeSet Mark) (b : Bool) (s : Sub) → AllMarked marks s → AllMarked marks (cond b (notified_again s) s)
told_marked marks true s h = h
told_marked marks false s h = h

pub told_whole : (m n : Subscriptions) (ids : List ℕ) (index : Option (BTreeSet Mark)) → n ≡ notified_where (is_one_of ids) m → IsIndexIfAny m index → IsIndexIfAny n index
told_whole m n ids None is h = tt
told_whole m n ids (Some marks) is h = λ k s at.
    let was = told_was (is_one_of ids) m k s (sym (ap (λ (l : Subscriptions). get l k) is) ∙ at) in
    subst (AllMarked marks) was.2 (told_marked marks (is_one_of ids (k, was.0)) was.0 (h k was.0 was.1))

pub none_indexed : (ss : List Sub) (marks : BTreeSet Mark) → ss ≡ [] → IsIndexOf (subscription_map ss) marks
none_indexed ss marks e = λ k s at.
    let bad : None ≡ Some s = sym (get-empty nat_cmp k) ∙ (ap (λ (m : Subscriptions). get m k) (sym (ap subscription_map e ∙ map_of_none nat_cmp pair_of)) ∙ at) in cc

-- If all subscriptions of a list are marked, each one found is marked.
listed : (marks : BTreeSet Mark) (ss : List Sub) (id : ℕ) (s : Sub) → maps.find nat_cmp id (keyed pair_of ss) ≡ Some s → All (AllMarked marks) ss → AllMarked marks s
listed marks [] id s e h = cc
listed marks (x ∷ ss) id s e h =
    elim (eq_by_cmp nat_cmp id x.id) as (λ b. cond b (Some x) (maps.find nat_cmp id (keyed pair_of ss)) ≡ Some s → AllMarked marks s) [
      | true ↦ λ g. subst (AllMarked marks) (same_Some x s g) (All-head (AllMarked marks) x ss h)
      | false ↦ λ g. listed marks ss id s g (All-tail (AllMarked marks) x ss h)
    ] e

pub all_indexed : (ss : List Sub) (marks : BTreeSet Mark) → All (AllMarked marks) ss → IsIndexOf (subscription_map ss) marks
all_indexed ss marks h = λ id s at. listed marks ss id s (sym (get-from_entries nat_cmp_total (keyed pair_of ss) id) ∙ at) h

-- ---- a put that is undone

values_of : (ss : List Sub) → map (λ (s : ℕ × Sub). s.1) (keyed pair_of ss) ≡ ss
values_of [] = refl
values_of (s ∷ ss) = ap (λ (l : List Sub). s ∷ l) (values_of ss)

-- Sorted lists with the same map are equal.
same_list : (ss ts : List Sub) → InOrder ss → InOrder ts → subscription_map ss ≡ subscription_map ts → ss ≡ ts
same_list ss ts s t e =
    sym (values_of ss)
    ∙ (ap (map (λ (p : ℕ × Sub). p.1)) (sym (entries_of nat_cmp pair_of nat_cmp_total ss s) ∙ (ap (λ (m : Subscriptions). entries m) e ∙ entries_of nat_cmp pair_of nat_cmp_total ts t))
    ∙ values_of ts)

undone_map : (m : Subscriptions) (id : ℕ) (x : Sub) → get m id ≡ None → remove (insert m id x) id ≡ m
undone_map m id x none = same_map nat_cmp_total nat_cmp-IsAntisymmetric (remove (insert m id x) id) m (λ q.
    get-remove nat_cmp_total (insert m id x) id q
    ∙ (ap (cond (eq_by_cmp nat_cmp q id) None) (get-insert nat_cmp_total m id x q)
    ∙ elim (eq_by_cmp nat_cmp q id) as (λ b. eq_by_cmp nat_cmp q id ≡ b → cond b None (cond b (Some x) (get m q)) ≡ get m q) [
      | true ↦ λ is. sym (ap (λ (k : ℕ). get m k) (one_id q id is) ∙ none)
      | false ↦ λ is. refl
    ] refl))

-- Putting a new subscription and removing it again restores the list.
pub undone : (old mid new : List Sub) (id : ℕ) (x : Sub) → InOrder old → InOrder new → get (subscription_map old) id ≡ None
    → subscription_map mid ≡ insert (subscription_map old) id x → subscription_map new ≡ remove (subscription_map mid) id → new ≡ old
undone old mid new id x s t none put gone = same_list new old t s (gone ∙ (ap (λ (m : Subscriptions). remove m id) put ∙ undone_map (subscription_map old) id x none))
