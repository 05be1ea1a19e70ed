-- An index of the entities of a map, as entities are added and removed.
use Rattle.std.specs.Prelude.{◌≡◌, ℕ, ◌+◌, ◌*◌, ◌≤◌, true, false, cond, List, [], ◌∷◌, Option, Some, None, nat_eq, refl}
use Rattle.std.proofs.Common.{arith, sym, ap, ◌∙◌, subst, get_or}
use Rattle.std.proofs.lemmas.Bool.Decides.{nat_tests}
use Rattle.std.proofs.lemmas.Option.{same_Some}
use Rattle.std.proofs.lemmas.List.Elements.{All-head, All-tail, All-weaker}
use Rattle.std.specs.List.{All}
use Rattle.std.specs.Ordering.{eq_by_cmp}
use Rattle.std.specs.BTreeSet.{BTreeSet}
use Rattle.std.specs.FinMap as maps
use Rattle.std.specs.FinMap.{get, insert, remove, get-insert, get-remove, get-from_entries}
use Rattle.grid_core.specs.Cell.{Cell}
use Rattle.entity_core.specs.declared.entity.Entity.{Entity}
use Rattle.entity_core.specs.declared.nature.Kind.{Kind}
use Rattle.entity_core.specs.declared.nature.Kind.TheVariants.{Intent, Constraint}
use Rattle.entity_core.specs.Entity.{kind_index, kind_of}
use Rattle.entity_core.specs.Airspace.{Entities, EntityKey, key_cmp, key_of}
use Rattle.space_memory.specs.CellIndex.{AllMarked, Grows, IsIndexOf, IsMarked, KeepsOthers, Mark, holder_of, mark_of}
use Rattle.entity_maps.specs.Entities.{entity_map, pair_of}
use Rattle.entity_maps.specs.Entities.{was_put_at}
use Rattle.entity_maps.specs.OwnKeys.{own_key}
use Rattle.entity_maps.specs.Sorted.{keyed}
use Rattle.space_memory.proofs.CellMeetings.{marked_more}
use Rattle.entity_core.proofs.Keys.{key_total}

all_marked : (marks marks' : BTreeSet Mark) (e : Entity) → ((i : ℕ) (c : Cell) → IsMarked marks (holder_of e) i c → IsMarked marks' (holder_of e) i c) → AllMarked marks e → AllMarked marks' e
all_marked marks marks' e f h = record {
  few = h.few;
  cells = λ i d l. All-weaker (IsMarked marks (holder_of e) i) (IsMarked marks' (holder_of e) i) (f i) (get_or e.volumes i d).cells (h.cells i d l);
}

pub grown_marked : (old new : BTreeSet Mark) → Grows old new → (e : Entity) → AllMarked old e → AllMarked new e
grown_marked old new g e h = all_marked old new e (marked_more (holder_of e) old new g) h

pub grown_index : (m : Entities) (old new : BTreeSet Mark) → Grows old new → IsIndexOf m old → IsIndexOf m new
grown_index m old new g h = λ k x at. grown_marked old new g x (h k x at)

pub none_there : (es : List Entity) → es ≡ [] → (k : EntityKey) (x : Entity) → get (entity_map es) k ≡ Some x → ⊥
none_there es e k x at = let bad : None ≡ Some x = sym (ap (λ (l : List Entity). get (entity_map l) k) e ∙ get-from_entries key_total (keyed pair_of []) k) ∙ at in cc

-- ---- what holds for each entity of a map, as entities are added and removed

module _ (P : Entity → Type 0) where
  abbrev pub Each : Entities → Type 0
  Each m = (k : EntityKey) (x : Entity) → get m k ≡ Some x → P x

  pub none_each : (es : List Entity) → es ≡ [] → Each (entity_map es)
  none_each es e = λ k x at. absurd (none_there es e k x at)

  pub put_each : (m n : Entities) (e : Entity) → n ≡ insert m (key_of e) e → Each m → P e → Each n
  put_each m n e is h own = λ k x at.
      let now : cond (eq_by_cmp key_cmp k (key_of e)) (Some e) (get m k) ≡ Some x = sym (ap (λ (l : Entities). get l k) is ∙ get-insert key_total m (key_of e) e k) ∙ at in
      elim (eq_by_cmp key_cmp k (key_of e)) as (λ b. cond b (Some e) (get m k) ≡ Some x → P x) [
        | true ↦ λ g. subst P (same_Some e x g) own
        | false ↦ λ g. h k x g
      ] now

  pub removed_each : (m n : Entities) (k : EntityKey) → n ≡ remove m k → Each m → Each n
  removed_each m n gone is h = λ k x at.
      let now : cond (eq_by_cmp key_cmp k gone) None (get m k) ≡ Some x = sym (ap (λ (l : Entities). get l k) is ∙ get-remove key_total m gone k) ∙ at in
      elim (eq_by_cmp key_cmp k gone) as (λ b. cond b None (get m k) ≡ Some x → P x) [
        | true ↦ λ g. cc
        | false ↦ λ g. h k x g
      ] now

  -- What holds for all entities of a list holds for each one found.
  listed : (es : List Entity) (k : EntityKey) (x : Entity) → maps.find key_cmp k (keyed pair_of es) ≡ Some x → All P es → P x
  listed [] k x at h = cc
  listed (e ∷ es) k x at h =
      elim (eq_by_cmp key_cmp k (key_of e)) as (λ b. cond b (Some e) (maps.find key_cmp k (keyed pair_of es)) ≡ Some x → P x) [
        | true ↦ λ g. subst P (same_Some e x g) (All-head P e es h)
        | false ↦ λ g. listed es k x g (All-tail P e es h)
      ] at

  pub all_each : (es : List Entity) → All P es → Each (entity_map es)
  all_each es h = λ k x at. listed es k x (sym (get-from_entries key_total (keyed pair_of es) k) ∙ at) h

-- ---- removals from the index

small_kind : (k : Kind) → kind_index k ≤ 1
small_kind Intent = omega arith
small_kind Constraint = omega arith

pub same_kind : (a b : Kind) → kind_index a ≡ kind_index b → a ≡ b
same_kind Intent Intent e = refl
same_kind Intent Constraint e = cc
same_kind Constraint Intent e = cc
same_kind Constraint Constraint e = refl

-- The tag distinguishes serials and kinds.
same_tag : (s t i j : ℕ) → i ≤ 1 → j ≤ 1 → 2 * s + i ≡ 2 * t + j → (s ≡ t) × (i ≡ j)
same_tag s t i j a b e = (omega (arith, e), omega (arith, e))

same_number : (a b : ℕ) → a ≡ b → nat_eq a b ≡ true
same_number a b e = grind (arith, nat_tests, e)

-- If the entity found was not put at a serial, it does not have that serial.
not_put : (x : Entity) (serial : ℕ) (there : Option Entity) → was_put_at serial there ≡ false → there ≡ Some x → x.serial ≡ serial → ⊥
not_put x serial there other at same =
    let put : was_put_at serial (Some x) ≡ true = same_number x.serial serial same in
    let not : was_put_at serial (Some x) ≡ false = ap (was_put_at serial) (sym at) ∙ other in
    let bad : true ≡ false = sym put ∙ not in cc

-- Removing the marks of an entity that is not stored leaves the index complete.
pub forgotten_indexed : (es : List Entity) (g : Entity) (old new : BTreeSet Mark) → KeepsOthers (holder_of g) old new
    → was_put_at g.serial (get (entity_map es) (key_of g)) ≡ false → IsIndexOf (entity_map es) old → IsIndexOf (entity_map es) new
forgotten_indexed es g old new keeps gone h = λ k x at.
    let other : (holder_of x).0 ≡ (holder_of g).0 → x.id ≡ g.id → ⊥ = λ tag id.
    let same = same_tag x.serial g.serial (kind_index (kind_of x.nature)) (kind_index (kind_of g.nature)) (small_kind (kind_of x.nature)) (small_kind (kind_of g.nature)) tag in
    let kind : kind_of x.nature ≡ kind_of g.nature = same_kind (kind_of x.nature) (kind_of g.nature) same.1 in
    let keys : key_of x ≡ key_of g = λ i. (kind i, id i) in
    let own : key_of x ≡ k = own_key es k x (sym (get-from_entries key_total (keyed pair_of es) k) ∙ at) in
    not_put x g.serial (get (entity_map es) (key_of g)) gone (ap (λ (q : EntityKey). get (entity_map es) q) (sym keys ∙ own) ∙ at) same.0 in
    all_marked old new x (λ i c m. record { cell = m.cell; narrow = m.narrow; mark = keeps (mark_of (holder_of x) i c) other m.mark }) (h k x at)
