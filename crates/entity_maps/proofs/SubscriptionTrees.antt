-- Trees of subscriptions, and the maps of their lists.
use Rattle.std.specs.Prelude.{◌≡◌, ℕ, Bool, true, false, cond, List, [], ◌∷◌, filter, Some, None, Result, OnOk, OnErr, refl}
use Rattle.std.proofs.Common.{sym, ap, ◌∙◌}
use Rattle.std.proofs.lemmas.Cmp.{nat_cmp_total}
use Rattle.std.proofs.lemmas.Map.Lookups.{exact_unsigned}
use Rattle.std.proofs.lemmas.Option.{same_Some}
use Rattle.std.specs.BTreeMap as tree
use Rattle.std.specs.BTreeMap.{BTreeMap, insert_entry, is_at}
use Rattle.std.specs.BTreeMap.Range.{entries_between}
use Rattle.std.specs.FinMap.{get, insert, nat_cmp-IsAntisymmetric, remove, same_map}
use Rattle.std.specs.Map.{values_of, lookup, remove_entry, set_value}
use Rattle.std.specs.Option.{option_map}
use Rattle.std.specs.Ordering.{eq_by_cmp, nat_cmp}
use Rattle.std.specs.declared.ops.Bound.TheVariants.{Included, Unbounded}
use Rattle.grid_core.specs.Extent.{Region}
use Rattle.entity_core.specs.Airspace.{is_one_of, notified_where}
use Rattle.entity_core.specs.Search.{is_for_near, is_own_near, subscribers_in, subscriptions_in}
use Rattle.entity_core.specs.declared.nature.Kind.{Kind}
use Rattle.entity_core.specs.declared.subscription.Sub.{Sub}
use Rattle.entity_core.proofs.Changes.{one_id, told_once}
use Rattle.entity_maps.specs.Subscriptions.{AreKeyed, CanNotify, InOrder, Notifies, TreeCanNotify, comes_from, pair_of, subscription_map}
use Rattle.entity_maps.proofs.EntityLists.{own_answer, wanted_answer}
use Rattle.entity_maps.proofs.Trees as trees

abbrev Entries : Type 0
Entries = List (ℕ × Sub)

abbrev own_number : ℕ → ℕ
own_number id = id

abbrev id_of : Sub → ℕ
id_of s = s.id

pub get_in : (m : BTreeMap ℕ Sub) (ss : List Sub) (id : ℕ) → tree.values m ≡ ss → AreKeyed m.entries → tree.get nat_cmp m id ≡ get (subscription_map ss) id
get_in = trees.get_in nat_cmp own_number id_of nat_cmp_total

pub keyed_without : (test : ℕ → Bool) (es : Entries) → AreKeyed es → AreKeyed (remove_entry test es)
keyed_without = trees.keyed_without nat_cmp own_number id_of

pub keyed_after : {R E : Type 0} (r : Result R E) (old new : Entries) (v : Sub) (k : ℕ) → k ≡ v.id → AreKeyed old → OnOk r (new ≡ insert_entry nat_cmp old k v) → OnErr r (new ≡ old) → AreKeyed new
keyed_after = trees.keyed_after nat_cmp own_number id_of exact_unsigned

module _ (m n : BTreeMap ℕ Sub) (old : List Sub) (e : tree.values m ≡ old) (a : AreKeyed m.entries) (b : AreKeyed n.entries) where
  pub put_map : (v : Sub) → ((q : ℕ) → tree.get nat_cmp n q ≡ cond (is_at (nat_cmp v.id) q) (Some v) (tree.get nat_cmp m q)) → subscription_map (tree.values n) ≡ insert (subscription_map old) v.id v
  put_map = trees.put_map nat_cmp own_number id_of nat_cmp_total nat_cmp-IsAntisymmetric m n old e a b

  pub without_map : (gone : ℕ) → ((q : ℕ) → tree.get nat_cmp n q ≡ cond (is_at (nat_cmp gone) q) None (tree.get nat_cmp m q)) → subscription_map (tree.values n) ≡ remove (subscription_map old) gone
  without_map = trees.without_map nat_cmp own_number id_of nat_cmp_total nat_cmp-IsAntisymmetric m n old e a b

  -- Notifying subscriptions of a tree notifies them in its map.
  pub told_map : (ids : List ℕ) → Notifies ids m n → subscription_map (tree.values n) ≡ notified_where (is_one_of ids) (subscription_map old)
  told_map ids told = same_map nat_cmp_total nat_cmp-IsAntisymmetric (subscription_map (tree.values n)) (notified_where (is_one_of ids) (subscription_map old)) (λ id.
      sym (get_in n (tree.values n) id refl b) ∙ (told id
      ∙ (ap (option_map _) (get_in m old id e a)
      ∙ sym (told_once (subscription_map old) (is_one_of ids) id))))

pub can_rise : (m : BTreeMap ℕ Sub) (ss : List Sub) → tree.values m ≡ ss → AreKeyed m.entries → CanNotify ss → TreeCanNotify m
can_rise m ss e a can = λ id s found. can id s (sym (get_in m ss id e a) ∙ found)

module _ (m : BTreeMap ℕ Sub) (ss : List Sub) (e : tree.values m ≡ ss) (a : AreKeyed m.entries) (s : tree.IsOrdered nat_cmp m) where
  pub order_kept : InOrder ss
  order_kept = trees.order_kept nat_cmp own_number id_of m ss e a s

  pub found_from : (id : ℕ) (es : Entries) → es ≡ entries_between nat_cmp (Included id) Unbounded m.entries → values_of es ≡ filter (comes_from id) ss
  found_from = trees.found_from nat_cmp own_number id_of m ss e a s

  pub found_whole : (es : Entries) → es ≡ entries_between nat_cmp Unbounded Unbounded m.entries → values_of es ≡ ss
  found_whole = trees.found_whole nat_cmp own_number id_of m ss e a s

  pub own_found : (uss : List ℕ) (area : Region) (xs : List Sub) → xs ≡ filter (λ x. is_own_near uss area (pair_of x)) (tree.values m) → xs ≡ subscriptions_in (subscription_map ss) uss area
  own_found uss area xs h = own_answer xs (tree.values m) ss uss area e order_kept h

  pub wanted_found : (kind : Kind) (areas : List Region) (xs : List Sub) → xs ≡ filter (λ x. is_for_near kind areas (pair_of x)) (tree.values m) → xs ≡ subscribers_in (subscription_map ss) kind areas
  wanted_found kind areas xs h = wanted_answer xs (tree.values m) ss kind areas e order_kept h

abbrev pub own_near : List ℕ → Region → List Sub → List Sub
own_near uss area ss = filter (λ s. is_own_near uss area (pair_of s)) ss

abbrev pub for_near : Kind → List Region → List Sub → List Sub
for_near kind areas ss = filter (λ s. is_for_near kind areas (pair_of s)) ss

-- ---- one subscription is replaced

-- The subscription found under an id has that id.
pub own_id : (id : ℕ) (es : Entries) (s : Sub) → AreKeyed es → lookup (is_at (nat_cmp id)) es ≡ Some s → s.id ≡ id
own_id id [] s a h = cc
own_id id (e ∷ es) s a h = elim (eq_by_cmp nat_cmp id e.0) as (λ b. eq_by_cmp nat_cmp id e.0 ≡ b → cond b (Some e.1) (lookup (is_at (nat_cmp id)) es) ≡ Some s → s.id ≡ id) [
  | true ↦ λ t found. ap id_of (sym (same_Some e.1 s found)) ∙ (sym a.0 ∙ sym (one_id id e.0 t))
  | false ↦ λ t found. own_id id es s a.1 found
] refl h

pub keyed_set : (id : ℕ) (es : Entries) (s : Sub) → s.id ≡ id → AreKeyed es → AreKeyed (set_value (is_at (nat_cmp id)) es s)
keyed_set id [] s own a = a
keyed_set id (e ∷ es) s own a = elim (eq_by_cmp nat_cmp id e.0) as (λ b. eq_by_cmp nat_cmp id e.0 ≡ b → AreKeyed (cond b ((e.0, s) ∷ es) (e ∷ set_value (is_at (nat_cmp id)) es s))) [
  | true ↦ λ t. (sym (own ∙ one_id id e.0 t), a.1)
  | false ↦ λ t. (a.0, keyed_set id es s own a.1)
] refl
