-- Trees of entities, and the maps of their lists.
use Rattle.std.specs.Prelude.{◌≡◌, ℕ, ◌+◌, Bool, true, cond, not, ◌&&◌, List, map, filter, nat_eq, Option, Some, None, Result, OnOk, OnErr, refl}
use Rattle.std.proofs.Common.{arith, ap, ◌∙◌}
use Rattle.std.proofs.lemmas.Bool.Decides.{nat_tests}
use Rattle.std.proofs.lemmas.Map.Lookups.{CmpEqualImpliesEq, exact_pairs, exact_unsigned}
use Rattle.std.specs.BTreeMap as tree
use Rattle.std.specs.BTreeMap.{BTreeMap, insert_entry, is_at}
use Rattle.std.specs.BTreeMap.Range.{entries_between, range_contains}
use Rattle.std.specs.FinMap.{get, insert, remove}
use Rattle.std.specs.Map.{values_of, remove_entry}
use Rattle.std.specs.Ordering.{is_le, nat_cmp, ordering_then}
use Rattle.std.specs.declared.cmp.Ordering.{Ordering}
use Rattle.std.specs.declared.ops.Bound.TheVariants.{Included, Excluded, Unbounded}
use Rattle.grid_core.specs.Extent.{Region}
use Rattle.entity_core.specs.Airspace.{EntityKey, key_of}
use Rattle.entity_core.specs.Entity.{kind_index}
use Rattle.entity_core.specs.Search.{all_in, dependents_in, has_kind, is_naming, is_sought, meeting_in}
use Rattle.entity_core.specs.declared.entity.Entity.{Entity}
use Rattle.entity_core.specs.declared.nature.Kind.{Kind}
use Rattle.entity_core.specs.declared.nature.Kind.TheVariants.{Intent, Constraint}
use Rattle.entity_core.proofs.Keys.{key_exact, key_total}
use Rattle.entity_maps.specs.Entities.{AreKeyed, InOrder, comes_from, entity_map, numbers_of, pair_of}
use Rattle.entity_maps.proofs.EntityLists.{all_answer, dependents_answer, meeting_answer}
use Rattle.entity_maps.proofs.Trees as trees

abbrev Entries : Type 0
Entries = List ((ℕ × ℕ) × Entity)

abbrev pub number_cmp : ℕ × ℕ → ℕ × ℕ → Ordering
number_cmp a b = ordering_then (nat_cmp a.0 b.0) (nat_cmp a.1 b.1)

number_exact : CmpEqualImpliesEq number_cmp
number_exact = exact_pairs nat_cmp nat_cmp exact_unsigned exact_unsigned

pub get_in : (m : BTreeMap (ℕ × ℕ) Entity) (es : List Entity) (k : EntityKey) → tree.values m ≡ es → AreKeyed m.entries → tree.get number_cmp m (numbers_of k) ≡ get (entity_map es) k
get_in = trees.get_in number_cmp numbers_of key_of key_total

pub keyed_without : (test : ℕ × ℕ → Bool) (es : Entries) → AreKeyed es → AreKeyed (remove_entry test es)
keyed_without = trees.keyed_without number_cmp numbers_of key_of

pub keyed_after : {R E : Type 0} (r : Result R E) (old new : Entries) (v : Entity) (k : ℕ × ℕ) → k ≡ numbers_of (key_of v) → AreKeyed old → OnOk r (new ≡ insert_entry number_cmp old k v) → OnErr r (new ≡ old) → AreKeyed new
keyed_after = trees.keyed_after number_cmp numbers_of key_of number_exact

module _ (m n : BTreeMap (ℕ × ℕ) Entity) (old : List Entity) (e : tree.values m ≡ old) (a : AreKeyed m.entries) (b : AreKeyed n.entries) where
  pub put_map : (v : Entity) → ((q : ℕ × ℕ) → tree.get number_cmp n q ≡ cond (is_at (number_cmp (numbers_of (key_of v))) q) (Some v) (tree.get number_cmp m q))
      → entity_map (tree.values n) ≡ insert (entity_map old) (key_of v) v
  put_map = trees.put_map number_cmp numbers_of key_of key_total key_exact m n old e a b

  pub without_map : (gone : EntityKey) → ((q : ℕ × ℕ) → tree.get number_cmp n q ≡ cond (is_at (number_cmp (numbers_of gone)) q) None (tree.get number_cmp m q))
      → entity_map (tree.values n) ≡ remove (entity_map old) gone
  without_map = trees.without_map number_cmp numbers_of key_of key_total key_exact m n old e a b

-- ---- the entities of a kind

zero_first : (n : ℕ) → is_le (nat_cmp 0 n) ≡ true
zero_first n = grind (arith, nat_tests)

in_kind : (kind own : Kind) (n : ℕ) → range_contains number_cmp (Included (kind_index kind, 0)) (Excluded (kind_index kind + 1, 0)) (kind_index own, n) ≡ nat_eq (kind_index own) (kind_index kind)
in_kind Intent Intent n = ap (λ b. b && true) (zero_first n)
in_kind Intent Constraint n = ap not (zero_first n)
in_kind Constraint Intent n = refl
in_kind Constraint Constraint n = ap (λ b. b && true) (zero_first n)

of_kind : (kind : Kind) (es : Entries) → AreKeyed es → values_of (entries_between number_cmp (Included (kind_index kind, 0)) (Excluded (kind_index kind + 1, 0)) es) ≡ filter (λ x. has_kind kind (key_of x)) (values_of es)
of_kind kind es a = trees.kept_values number_cmp numbers_of key_of (range_contains number_cmp (Included (kind_index kind, 0)) (Excluded (kind_index kind + 1, 0))) (λ x. has_kind kind (key_of x)) (λ x. in_kind kind (key_of x).0 x.id) es a

module _ (m : BTreeMap (ℕ × ℕ) Entity) (es : List Entity) (e : tree.values m ≡ es) (a : AreKeyed m.entries) (s : tree.IsOrdered number_cmp m) where
  pub order_kept : InOrder es
  order_kept = trees.order_kept number_cmp numbers_of key_of m es e a s

  pub all_found : (kind : Kind) (xs : List Entity) → xs ≡ values_of (entries_between number_cmp (Included (kind_index kind, 0)) (Excluded (kind_index kind + 1, 0)) m.entries) → xs ≡ all_in (entity_map es) kind
  all_found kind xs h = all_answer xs (tree.values m) es kind e order_kept (h ∙ of_kind kind m.entries a)

  pub found_from : (k : EntityKey) (xs : Entries) → xs ≡ entries_between number_cmp (Included (numbers_of k)) Unbounded m.entries → values_of xs ≡ filter (comes_from k) es
  found_from = trees.found_from number_cmp numbers_of key_of m es e a s

  pub found_whole : (xs : Entries) → xs ≡ entries_between number_cmp Unbounded Unbounded m.entries → values_of xs ≡ es
  found_whole = trees.found_whole number_cmp numbers_of key_of m es e a s

  pub dependents_found : (id : ℕ) (ids : List ℕ) → ids ≡ map (λ x. x.id) (filter (λ x. is_naming id (pair_of x)) (tree.values m)) → ids ≡ dependents_in (entity_map es) id
  dependents_found id ids h = dependents_answer ids (tree.values m) es id e order_kept h

  pub meeting_found : (kind : Kind) (areas : List Region) (except : Option ℕ) (xs : List Entity) → xs ≡ filter (λ x. is_sought kind areas except (pair_of x)) (tree.values m) → xs ≡ meeting_in (entity_map es) kind areas except
  meeting_found kind areas except xs h = meeting_answer xs (tree.values m) es kind areas except e order_kept h

abbrev pub naming : ℕ → List Entity → List ℕ
naming id es = map (λ e. e.id) (filter (λ e. is_naming id (pair_of e)) es)

abbrev pub wanted : Kind → List Region → Option ℕ → List Entity → List Entity
wanted kind areas except es = filter (λ e. is_sought kind areas except (pair_of e)) es
