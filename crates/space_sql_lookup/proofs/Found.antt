-- Proofs about the result of a SELECT by a key.
use Rattle.std.proofs.Common.{◌≡◌, ℕ, List, [], ◌∷◌, map, filter, Bool, false, cond, codes, Option, Some, None, Ok, Err, Result, IfOk, refl, sym, ap, subst, ◌∙◌, Ordering, Less, Equal, Greater, is_eq}
use Rattle.std.specs.Prelude.{IsPermutation}
use Rattle.std.specs.List.{list_all}
use Rattle.std.specs.Cmp.{IsTotalOrder}
use Rattle.std.specs.FinMap.{FinMap, IsAntisymmetric, get, entries, entries_sorted, get-entries, find}
use Rattle.std.proofs.lemmas.Cmp.{nat_list_cmp_total}
use Rattle.std.proofs.lemmas.List.Sorted.{IsPermutation-trans, length_permutation}
use Rattle.sqlite_keyed.proofs.ListLemmas.{filter-map, filter_none, filter_same, IsPermutation-filter}
use Rattle.sqlite_trees.specs.Tree.{IsAscending}
use Rattle.sqlite_typed.proofs.TestLemmas.{at_texts, last_term, turn_eq, same_bytes}
use Rattle.sqlite_sql.specs.declared.ops.BinaryOp.TheVariants.{Compare}
use Rattle.sqlite_sql.specs.declared.ops.CompareOp.TheVariants.{Eq}
use Rattle.sqlite_tied.specs.Compute.{everything}
use Rattle.sqlite_schema.specs.declared.command.Command.TheVariants.{Select}
use Rattle.sqlite.specs.Collation.TheVariants.{Binary}
use Rattle.sqlite.specs.declared.types.Value.TheVariants.{Null, Text}
use Rattle.sqlite.specs.Order.{Row}
use Rattle.sqlite.specs.Term.{Term, col, op2, holds}
use Rattle.sqlite.specs.Effect.{Database, Reads}
use Rattle.sqlite.specs.Listing.{understood}
use Rattle.sqlite.specs.declared.error.Error.{Error}
use Rattle.sqlite.proofs.Callers.{one_permutation}
use Rattle.entity_core.specs.Airspace.{Airspace, VersionedAvailability, text_cmp}
use Rattle.space_sql_schema.specs.Tables.{dss_schema}
use Rattle.space_sql_schema.specs.Spelling.{Spells, availability_values, three_columns}
use Rattle.space_sql_schema.proofs.OneAirspace.{entries_rise, EntryLess}
use Rattle.space_sql_select.specs.Selecting.{IsSelect, Answers, command_of}
use Rattle.space_sql_lookup.specs.Availability.{rows_of_setting}
use Rattle.space_sql_lookup.specs.Texts.{availability_read}
use Rattle.space_sql_select.proofs.Means.{listing}
use Rattle.space_sql_select.proofs.MapEntries.{hits, below_misses}
use Rattle.space_sql_select.proofs.Selected.{selects_all}

abbrev pub same : Term → Term → Term
same a b = op2 (Compare Eq Binary) a b

-- ---- entries with a key

module _ {K X : Type 0} (R : K → K → Ordering) (o : IsTotalOrder R) (exact : IsAntisymmetric R) where
  abbrev pub entry_of : K → Option X → List (K × X)
  entry_of k None = []
  entry_of k (Some v) = (k, v) ∷ []

  found_entries : (k : K) (es : List (K × X)) → IsAscending (EntryLess R) es → filter (hits R o k) es ≡ entry_of k (find R k es)
  found_entries k [] up = refl
  found_entries k (e ∷ es) up = go (R k e.0) refl (found_entries k es up.1)
    where
      go : (c : Ordering) → R k e.0 ≡ c → filter (hits R o k) es ≡ entry_of k (find R k es) → cond (is_eq c) (e ∷ filter (hits R o k) es) (filter (hits R o k) es) ≡ entry_of k (cond (is_eq c) (Some e.1) (find R k es))
      go Less p more = more
      go Greater p more = more
      go Equal p more = (λ i. e ∷ filter_none (hits R o k) es (below_misses R o k e.0 es p up.0) i) ∙ ap (λ l. (l, e.1) ∷ []) (sym (exact k e.0 p))

  pub found_in : (m : FinMap R X) (k : K) → filter (hits R o k) (entries m) ≡ entry_of k (get m k)
  found_in m k = found_entries k (entries m) (entries_rise R (entries m) (entries_sorted m)) ∙ ap (entry_of k) (sym (get-entries m k))

-- ---- availabilities

text_exact : IsAntisymmetric text_cmp
text_exact a b e = same_bytes a b (ap is_eq e)

pub availability_select : IsSelect availability_read
unfolding understood everything
availability_select = record { plain = (refl, refl); unlisted = refl }

availability_is : command_of availability_read ≡ Select (record { lets = []; body = listing 7 (same (col 1 1) (col 0 0) ∷ []) (1 ∷ 2 ∷ 3 ∷ []) [] }) (codes "uss" ∷ codes "state" ∷ codes "version" ∷ [])
unfolding understood everything
availability_is = refl

-- Returns true if the columns are those of the USS.
abbrev is_of : List ℕ → Row → Bool
is_of uss c = list_all (holds ((Text uss ∷ []) ∷ (Null ∷ c) ∷ [])) (same (col 1 1) (col 0 0) ∷ [])

is_of_same : (uss : List ℕ) (s : List ℕ × VersionedAvailability) → is_of uss (availability_values s) ≡ hits text_cmp nat_list_cmp_total uss s
is_of_same uss s = last_term (at_texts false Eq s.0 uss) ∙ turn_eq text_cmp nat_list_cmp_total s.0 uss

rows_of_entry : (uss : List ℕ) (o : Option VersionedAvailability) (rows : List Row) → IsPermutation (map availability_values (entry_of text_cmp nat_list_cmp_total text_exact uss o)) rows → rows ≡ rows_of_setting uss o
rows_of_entry uss None [] p = refl
rows_of_entry uss None (r ∷ rows) p = absurd (let e = length_permutation _ _ p in cc)
rows_of_entry uss (Some s) rows p = one_permutation (availability_values (uss, s)) rows p

pub availability_shown : (db : Database) (a : Airspace) (uss : List ℕ) (rows : List Row) → Spells db a → Answers availability_read (Text uss ∷ []) db rows → rows ≡ rows_of_setting uss (get a.availabilities uss)
availability_shown db a uss rows s h =
    let read = subst (λ k. Reads k db (Text uss ∷ []) rows) availability_is h in
    let tests = same (col 1 1) (col 0 0) ∷ [] in
    let all = selects_all 7 tests (1 ∷ 2 ∷ 3 ∷ []) [] db.trees (Text uss ∷ []) rows refl (read.answer Null) in
    let mine = sym (filter-map (is_of uss) three_columns (db.trees 7)) in
    let stored = IsPermutation-filter (is_of uss) _ _ s.availabilities in
    let theirs = filter-map (is_of uss) availability_values (entries a.availabilities) ∙ ap (map availability_values) (filter_same (λ e. is_of uss (availability_values e)) (hits text_cmp nat_list_cmp_total uss) (is_of_same uss) (entries a.availabilities) ∙ found_in text_cmp nat_list_cmp_total text_exact a.availabilities uss) in
    rows_of_entry uss (get a.availabilities uss) rows (IsPermutation-trans _ _ _ (subst (λ l. IsPermutation l (filter (is_of uss) (map three_columns (db.trees 7)))) theirs stored) (subst (λ l. IsPermutation l rows) mine all))

pub availability_told : (db : Database) (uss text : List ℕ) (p : Row) (r : Result (Option VersionedAvailability) Error) (rows sliced : List Row) → p ≡ Text text ∷ [] → text ≡ uss → sliced ≡ rows → IfOk r (λ o. (stated : Option VersionedAvailability) → sliced ≡ rows_of_setting uss stated → o ≡ stated)
    → (db.schema ≡ dss_schema → Answers availability_read p db rows) → IfOk r (λ o. (a : Airspace) → Spells db a → o ≡ get a.availabilities uss)
availability_told db uss text p (Ok n) rows sliced is t e told h = λ a s.
    told (get a.availabilities uss) (e ∙ (availability_shown db a text rows s (subst (λ (l : Row). Answers availability_read l db rows) is (h s.schema)) ∙ ap (λ (u : List ℕ). rows_of_setting u (get a.availabilities u)) t))
availability_told db uss text p (Err x) rows sliced is t e told h = tt
