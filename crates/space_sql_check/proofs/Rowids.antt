-- Proofs that the rowids of a table are apart if those of each range rise.
use Rattle.std.proofs.Common.{◌≡◌, ◌≤ℤ◌, ◌↔◌, ℤ, List, [], ◌∷◌, ◌++◌, map, filter, refl, sym, subst, subst₂, ◌∙◌, Less, int_cmp}
use Rattle.std.specs.Prelude.{IsPermutation, Bool}
use Rattle.std.proofs.lemmas.List.Sorted.{IsPermutation-sym, IsPermutation-map}
use Rattle.sqlite_keyed.proofs.ListLemmas.{map-map, map_same, ascending-append, ascending-filter}
use Rattle.sqlite_trees.specs.Tree.{IsAscending, rowid}
use Rattle.sqlite_value.specs.declared.value.Value.{Value}
use Rattle.sqlite_value.specs.declared.value.Value.TheVariants.{Int}
use Rattle.sqlite_value.specs.Order.{Row, column}
use Rattle.sqlite.specs.Effect.{Database}
use Rattle.space_sql_select.specs.Rows.{number_values}
use Rattle.space_sql_load.specs.Gathering.{AreRising}
use Rattle.space_sql_load.specs.Showing.{rowid_column}
use Rattle.space_sql_check.specs.declared.source.Source.{Source}
use Rattle.space_sql_check.specs.declared.source.Source.TheVariants.{Entities, Volumes, Cells, Namings, Subscriptions, SubCells, VolumeIds, CellIds, SettingIds, SubCellIds}
use Rattle.space_sql_check.specs.Source.{tree_of, columns_of}
use Rattle.space_sql_check.specs.Parts.{AreIdsApart, HasNoneOutside, IsOfIds, ShowsWithin, any_value, is_within, least, greatest, rows_where}
use Rattle.space_sql_check.proofs.Parting.{all_before, any_rows, in_range, mapped_join, mapped_part, whole_rows}

-- Holds if the rowids that pass are different numbers.
abbrev pub AreIdsIn : (Value → Bool) → Source → Database → Type 0
AreIdsIn keep s db = (ids : List ℤ) × IsAscending (λ m n. int_cmp m n ≡ Less) ids × IsPermutation (map number_values ids) (rows_where keep s db)

-- ---- a range

numbers_shown : (s : Source) → IsOfIds s → (over end : ℤ) (db : Database) (rows : List Row) → ShowsWithin over end s db rows → (ids : List ℤ) → IsAscending (λ m n. int_cmp m n ≡ Less) ids
    → IsPermutation (map number_values ids) (rows_where (is_within over end) s db) → rows ≡ map number_values ids
numbers_shown VolumeIds of over end db rows r ids up same = r.rising ids up same
numbers_shown CellIds of over end db rows r ids up same = r.rising ids up same
numbers_shown SettingIds of over end db rows r ids up same = r.rising ids up same
numbers_shown SubCellIds of over end db rows r ids up same = r.rising ids up same
numbers_shown Entities of over end db rows r ids up same = absurd of
numbers_shown Volumes of over end db rows r ids up same = absurd of
numbers_shown Cells of over end db rows r ids up same = absurd of
numbers_shown Namings of over end db rows r ids up same = absurd of
numbers_shown Subscriptions of over end db rows r ids up same = absurd of
numbers_shown SubCells of over end db rows r ids up same = absurd of

pub rising_is : (s : Source) → IsOfIds s → (over end : ℤ) (db : Database) (rows : List Row) → ShowsWithin over end s db rows → AreRising rows ↔ AreIdsIn (is_within over end) s db
rising_is s of over end db rows r = (
  (λ up. (up.0, up.2, IsPermutation-sym _ _ (subst (IsPermutation (rows_where (is_within over end) s db)) up.1 r.all))),
  (λ ids. (ids.0, numbers_shown s of over end db rows r ids.0 ids.1 ids.2, ids.1)),
)

-- ---- ranges

module _ (s : Source) (db : Database) where
  pub ids_join : (over mid end : ℤ) → over ≤ℤ mid → mid ≤ℤ end → AreIdsIn (is_within over mid) s db → AreIdsIn (is_within mid end) s db → AreIdsIn (is_within over end) s db
  ids_join over mid end low high (xs, p, q) (ys, u, v) = (
    xs ++ ys,
    ascending-append (λ m n. int_cmp m n ≡ Less) xs ys p u (all_before (λ (n : ℤ). n) over mid end xs ys (in_range (is_within over mid) s db number_values xs q) (in_range (is_within mid end) s db number_values ys v)),
    mapped_join over mid end low high db s number_values xs ys q v,
  )

  pub ids_part : (keep : Value → Bool) → AreIdsIn any_value s db → AreIdsIn keep s db
  ids_part keep (xs, p, q) = (filter (λ (n : ℤ). keep (Int n)) xs, ascending-filter (λ m n. int_cmp m n ≡ Less) (λ (n : ℤ). keep (Int n)) xs p, mapped_part keep db s number_values xs q)

  pub ids_whole : HasNoneOutside s db → AreIdsIn (is_within least greatest) s db → AreIdsIn any_value s db
  ids_whole none (xs, p, q) = (xs, p, subst (IsPermutation (map number_values xs)) (whole_rows s db none) q)

-- ---- all rowids

rowids_shown : (s : Source) → IsOfIds s → (r : Row) → columns_of s r ≡ rowid_column r
rowids_shown VolumeIds of r = refl
rowids_shown CellIds of r = refl
rowids_shown SettingIds of r = refl
rowids_shown SubCellIds of r = refl
rowids_shown Entities of r = absurd of
rowids_shown Volumes of r = absurd of
rowids_shown Cells of r = absurd of
rowids_shown Namings of r = absurd of
rowids_shown Subscriptions of r = absurd of
rowids_shown SubCells of r = absurd of

pub apart_is : (s : Source) → IsOfIds s → (db : Database) → AreIdsIn any_value s db ↔ AreIdsApart s db
apart_is s of db =
    let all = any_rows s db ∙ map_same (columns_of s) rowid_column (rowids_shown s of) (db.trees (tree_of s)) in (
      (λ ids. (ids.0, ids.1, subst₂ (λ a b. IsPermutation a b) (map-map (λ r. column r 0) number_values ids.0) (map-map (λ r. column r 0) rowid_column (db.trees (tree_of s))) (IsPermutation-map (λ r. column r 0) _ _ (subst (IsPermutation (map number_values ids.0)) all ids.2)))),
      (λ apart. (apart.0, apart.1, subst (IsPermutation (map number_values apart.0)) (sym all) (subst₂ (λ a b. IsPermutation a b) (map-map (λ v. v ∷ []) (λ n. Int n) apart.0) (map-map (λ v. v ∷ []) rowid (db.trees (tree_of s))) (IsPermutation-map (λ v. v ∷ []) _ _ apart.2)))),
    )
