-- Proofs that the items of two adjacent ranges of numbers are those of the joined range, and that
-- the items of all rows have a part in each range.
use Rattle.std.proofs.Common.{◌≡◌, ◌≤ℤ◌, ◌<ℤ◌, ℕ, ℤ, List, [], ◌∷◌, ◌++◌, map, filter, flat_map, Bool, true, refl, sym, ap, subst, ◌∙◌, arith, Less, int_cmp, int_lt, int_le}
use Rattle.std.specs.Prelude.{IsPermutation}
use Rattle.std.specs.List.{AllByRecursion}
use Rattle.std.proofs.lemmas.Int.{ints}
use Rattle.std.proofs.lemmas.Bool.{and_parts}
use Rattle.std.proofs.lemmas.Grind.{flat_map-append}
use Rattle.std.proofs.lemmas.List.Sorted.{IsPermutation-append, IsPermutation-trans, IsPermutation-sym}
use Rattle.sqlite_keyed.proofs.ListLemmas.{IsPermutation-filter, filter-map, all_unmap, all_map, all-append, ascending-append, ascending-filter, all-filter}
use Rattle.sqlite_keyed.proofs.KeyedLemmas.{Less-from_lt}
use Rattle.sqlite_value.specs.declared.value.Value.{Value}
use Rattle.sqlite_value.specs.declared.value.Value.TheVariants.{Int}
use Rattle.sqlite_value.specs.Order.{Row, column}
use Rattle.sqlite.specs.Effect.{Database}
use Rattle.space_rows.specs.declared.rows.VolumeRow.{VolumeRow}
use Rattle.space_rows.specs.declared.rows.CellRow.{CellRow}
use Rattle.space_rows.specs.declared.rows.SubCellRow.{SubCellRow}
use Rattle.space_rows.proofs.Chunks.{all_turned}
use Rattle.space_sql_schema.specs.Spelling.{Group, IsGroup, IsBefore, SubGroup, IsSubGroup, IsSubBefore, entity_values, volume_values, cell_values, naming_rows, naming_rows_of, sub_values, sub_cell_values}
use Rattle.space_sql_schema.proofs.Rising.{volumes_of, cells_of, sub_cells_of}
use Rattle.std.specs.Prelude.{Option, Some, None}
use Rattle.space_sql_check.specs.declared.source.Source.{Source}
use Rattle.space_sql_check.specs.declared.source.Source.TheVariants.{Entities, Volumes, Cells, Namings, Subscriptions, SubCells}
use Rattle.space_sql_check.specs.Source.{tree_of, columns_of}
use Rattle.space_sql_check.specs.Parts.{AreSubs, HasEntities, HasNoneOutside, HasNoOtherEntities, any_value, is_within, least, greatest, rows_where}
use Rattle.space_sql_check.proofs.Numbers.{within_int, within_joined, within_parted}
use Rattle.space_sql_check.proofs.Filters.{filters_join, all_moved, filter_passes, map_joined, parts_pass, nothing_else, all_pass}

-- ---- rows

-- The rows with any number are all rows.
pub any_rows : (s : Source) (db : Database) → rows_where any_value s db ≡ map (columns_of s) (db.trees (tree_of s))
any_rows s db = all_pass (map (columns_of s) (db.trees (tree_of s)))

-- If no number is outside the greatest range, its rows are all rows.
pub whole_rows : (s : Source) (db : Database) → HasNoneOutside s db → rows_where (is_within least greatest) s db ≡ rows_where any_value s db
whole_rows s db none = nothing_else (λ c. is_within least greatest (column c 0)) (map (columns_of s) (db.trees (tree_of s))) none ∙ sym (any_rows s db)

module _ (over mid end : ℤ) (low : over ≤ℤ mid) (high : mid ≤ℤ end) (db : Database) where
  rows_joined : (s : Source) (xs ys : List Row) → IsPermutation xs (rows_where (is_within over mid) s db) → IsPermutation ys (rows_where (is_within mid end) s db) → IsPermutation (xs ++ ys) (rows_where (is_within over end) s db)
  rows_joined s xs ys p q = IsPermutation-trans _ _ _ (IsPermutation-append _ _ _ _ p q)
      (filters_join (λ c. is_within over mid (column c 0)) (λ c. is_within mid end (column c 0)) (λ c. is_within over end (column c 0)) (λ c. within_joined over mid end low high (column c 0)) (λ c e. within_parted over mid end (column c 0) e) (map (columns_of s) (db.trees (tree_of s))))

  pub mapped_join : {A : Type 0} (s : Source) (f : A → Row) (xs ys : List A) → IsPermutation (map f xs) (rows_where (is_within over mid) s db) → IsPermutation (map f ys) (rows_where (is_within mid end) s db) → IsPermutation (map f (xs ++ ys)) (rows_where (is_within over end) s db)
  mapped_join s f xs ys p q = subst (λ l. IsPermutation l (rows_where (is_within over end) s db)) (sym (map_joined f xs ys)) (rows_joined s _ _ p q)

  flat_join : {A : Type 0} (s : Source) (f : A → List Row) (xs ys : List A) → IsPermutation (flat_map f xs) (rows_where (is_within over mid) s db) → IsPermutation (flat_map f ys) (rows_where (is_within mid end) s db) → IsPermutation (flat_map f (xs ++ ys)) (rows_where (is_within over end) s db)
  flat_join s f xs ys p q = subst (λ l. IsPermutation l (rows_where (is_within over end) s db)) (sym (flat_map-append f xs ys)) (rows_joined s _ _ p q)

-- The numbers of the items that rows of a range represent are in that range.
pub in_range : {A : Type 0} (keep : Value → Bool) (s : Source) (db : Database) (f : A → Row) (xs : List A) → IsPermutation (map f xs) (rows_where keep s db) → AllByRecursion (λ x. keep (column (f x) 0) ≡ true) xs
in_range keep s db f xs same = all_unmap (λ c. keep (column c 0) ≡ true) f xs (all_moved (λ c. keep (column c 0) ≡ true) (rows_where keep s db) (map f xs) (IsPermutation-sym _ _ same) (filter_passes (λ c. keep (column c 0)) (map (columns_of s) (db.trees (tree_of s)))))

up_to : (over end n : ℤ) → is_within over end (Int n) ≡ true → n ≤ℤ end
up_to over end n e = let h = (and_parts (int_lt over n) (int_le n end) (sym (within_int over end n) ∙ e)).1 in grind (arith, ints, h)

after : (over end n : ℤ) → is_within over end (Int n) ≡ true → over <ℤ n
after over end n e = let h = (and_parts (int_lt over n) (int_le n end) (sym (within_int over end n) ∙ e)).0 in grind (arith, ints, h)

module _ {A : Type 0} (of : A → ℤ) (over mid end : ℤ) where
  first_before : (x : A) (ys : List A) → is_within over mid (Int (of x)) ≡ true → AllByRecursion (λ y. is_within mid end (Int (of y)) ≡ true) ys → AllByRecursion (λ y. int_cmp (of x) (of y) ≡ Less) ys
  first_before x [] h all = tt
  first_before x (y ∷ ys) h all = (Less-from_lt (of x) (of y) (let low = up_to over mid (of x) h in let high = after mid end (of y) all.0 in omega (arith, ints, low, high)), first_before x ys h all.1)

  pub all_before : (xs ys : List A) → AllByRecursion (λ x. is_within over mid (Int (of x)) ≡ true) xs → AllByRecursion (λ y. is_within mid end (Int (of y)) ≡ true) ys → AllByRecursion (λ x. AllByRecursion (λ y. int_cmp (of x) (of y) ≡ Less) ys) xs
  all_before [] ys p q = tt
  all_before (x ∷ xs) ys p q = (first_before x ys p.0 q, all_before xs ys p.1 q)

-- ---- a part of all rows

module _ (keep : Value → Bool) (db : Database) where
  part_of : (s : Source) (xs : List Row) → IsPermutation xs (rows_where any_value s db) → IsPermutation (filter (λ c. keep (column c 0)) xs) (rows_where keep s db)
  part_of s xs same = subst (λ l. IsPermutation (filter (λ c. keep (column c 0)) xs) (filter (λ c. keep (column c 0)) l)) (any_rows s db) (IsPermutation-filter (λ c. keep (column c 0)) _ _ same)

  pub mapped_part : {A : Type 0} (s : Source) (f : A → Row) (xs : List A) → IsPermutation (map f xs) (rows_where any_value s db) → IsPermutation (map f (filter (λ x. keep (column (f x) 0)) xs)) (rows_where keep s db)
  mapped_part s f xs same = subst (λ l. IsPermutation l (rows_where keep s db)) (filter-map (λ c. keep (column c 0)) f xs) (part_of s (map f xs) same)

  flat_part : {A : Type 0} (s : Source) (of : A → ℤ) (f : A → List Row) (xs : List A) → AllByRecursion (λ x. AllByRecursion (λ c. column c 0 ≡ Int (of x)) (f x)) xs → IsPermutation (flat_map f xs) (rows_where any_value s db)
      → IsPermutation (flat_map f (filter (λ x. keep (Int (of x))) xs)) (rows_where keep s db)
  flat_part s of f xs own same = subst (λ l. IsPermutation l (rows_where keep s db))
      (sym (parts_pass (λ x. keep (Int (of x))) (λ c. keep (column c 0)) f xs
      (all_turned (λ x. AllByRecursion (λ c. column c 0 ≡ Int (of x)) (f x)) (λ x. AllByRecursion (λ c. keep (column c 0) ≡ keep (Int (of x))) (f x)) (λ x h. all_turned (λ c. column c 0 ≡ Int (of x)) (λ c. keep (column c 0) ≡ keep (Int (of x))) (λ c e. ap keep e) (f x) h) xs own)))
      (part_of s (flat_map f xs) same)

-- ---- subscriptions

module _ (serial : ℕ) (db : Database) where
  pub subs_join : (over mid end : ℤ) (xs ys : List SubGroup) → over ≤ℤ mid → mid ≤ℤ end → AreSubs serial (is_within over mid) db xs → AreSubs serial (is_within mid end) db ys → AreSubs serial (is_within over end) db (xs ++ ys)
  subs_join over mid end xs ys low high p q = record {
    rising = ascending-append IsSubBefore xs ys p.rising q.rising (all_before (λ (g : SubGroup). g.row.num) over mid end xs ys (in_range (is_within over mid) Subscriptions db (λ (g : SubGroup). sub_values g.row) xs p.rows) (in_range (is_within mid end) Subscriptions db (λ (g : SubGroup). sub_values g.row) ys q.rows));
    each = all-append (IsSubGroup serial) xs ys p.each q.each;
    rows = mapped_join over mid end low high db Subscriptions (λ (g : SubGroup). sub_values g.row) xs ys p.rows q.rows;
    cells = flat_join over mid end low high db SubCells (λ (g : SubGroup). map sub_cell_values g.cells) xs ys p.cells q.cells;
  }

  own_sub_cells : (gs : List SubGroup) → AllByRecursion (IsSubGroup serial) gs → AllByRecursion (λ (g : SubGroup). AllByRecursion (λ c. column c 0 ≡ Int g.row.num) (map sub_cell_values g.cells)) gs
  own_sub_cells [] each = tt
  own_sub_cells (g ∷ gs) each = (
    all_map (λ c. column c 0 ≡ Int g.row.num) sub_cell_values g.cells (all_turned (λ (c : SubCellRow). c.subscription ≡ g.row.num) (λ (c : SubCellRow). Int c.subscription ≡ Int g.row.num) (λ c e. ap (λ n. Int n) e) g.cells (sub_cells_of g.row.num g.cells _ each.0.spelt.cells_are)),
    own_sub_cells gs each.1,
  )

  abbrev pub subs_in : (Value → Bool) → List SubGroup → List SubGroup
  subs_in keep subs = filter (λ (g : SubGroup). keep (Int g.row.num)) subs

  pub subs_part : (keep : Value → Bool) (subs : List SubGroup) → AreSubs serial any_value db subs → AreSubs serial keep db (subs_in keep subs)
  subs_part keep subs p = record {
    rising = ascending-filter IsSubBefore (λ (g : SubGroup). keep (Int g.row.num)) subs p.rising;
    each = all-filter (IsSubGroup serial) (λ (g : SubGroup). keep (Int g.row.num)) subs p.each;
    rows = mapped_part keep db Subscriptions (λ (g : SubGroup). sub_values g.row) subs p.rows;
    cells = flat_part keep db SubCells (λ (g : SubGroup). g.row.num) (λ (g : SubGroup). map sub_cell_values g.cells) subs (own_sub_cells subs p.each) p.cells;
  }

  pub subs_whole : (subs : List SubGroup) → HasNoneOutside Subscriptions db → HasNoneOutside SubCells db → AreSubs serial (is_within least greatest) db subs → AreSubs serial any_value db subs
  subs_whole subs heads cells p = record {
    rising = p.rising;
    each = p.each;
    rows = subst (IsPermutation (map (λ (g : SubGroup). sub_values g.row) subs)) (whole_rows Subscriptions db heads) p.rows;
    cells = subst (IsPermutation (flat_map (λ (g : SubGroup). map sub_cell_values g.cells) subs)) (whole_rows SubCells db cells) p.cells;
  }

-- ---- entities

module _ (serial : ℕ) (subs : List SubGroup) (db : Database) where
  pub entities_join : (over mid end : ℤ) → over ≤ℤ mid → mid ≤ℤ end → HasEntities serial subs (is_within over mid) db → HasEntities serial subs (is_within mid end) db → HasEntities serial subs (is_within over end) db
  entities_join over mid end low high (xs, p) (ys, q) = (
    xs ++ ys,
    record {
      rising = ascending-append IsBefore xs ys p.rising q.rising (all_before (λ (g : Group). g.row.num) over mid end xs ys (in_range (is_within over mid) Entities db (λ (g : Group). entity_values g.row) xs p.rows) (in_range (is_within mid end) Entities db (λ (g : Group). entity_values g.row) ys q.rows));
      each = all-append (IsGroup serial subs) xs ys p.each q.each;
      rows = mapped_join over mid end low high db Entities (λ (g : Group). entity_values g.row) xs ys p.rows q.rows;
      volumes = flat_join over mid end low high db Volumes (λ (g : Group). map volume_values g.volumes) xs ys p.volumes q.volumes;
      cells = flat_join over mid end low high db Cells (λ (g : Group). map cell_values g.cells) xs ys p.cells q.cells;
      namings = flat_join over mid end low high db Namings naming_rows_of xs ys p.namings q.namings;
    },
  )

  own_volumes : (gs : List Group) → AllByRecursion (IsGroup serial subs) gs → AllByRecursion (λ (g : Group). AllByRecursion (λ c. column c 0 ≡ Int g.row.num) (map volume_values g.volumes)) gs
  own_volumes [] each = tt
  own_volumes (g ∷ gs) each = (
    all_map (λ c. column c 0 ≡ Int g.row.num) volume_values g.volumes (all_turned (λ (v : VolumeRow). v.entity ≡ g.row.num) (λ (v : VolumeRow). Int v.entity ≡ Int g.row.num) (λ v e. ap (λ n. Int n) e) g.volumes (volumes_of g.row.num g.volumes _ each.0.spelt.volumes_are)),
    own_volumes gs each.1,
  )

  own_cells : (gs : List Group) → AllByRecursion (IsGroup serial subs) gs → AllByRecursion (λ (g : Group). AllByRecursion (λ c. column c 0 ≡ Int g.row.num) (map cell_values g.cells)) gs
  own_cells [] each = tt
  own_cells (g ∷ gs) each = (
    all_map (λ c. column c 0 ≡ Int g.row.num) cell_values g.cells (all_turned (λ (v : CellRow). v.entity ≡ g.row.num) (λ (v : CellRow). Int v.entity ≡ Int g.row.num) (λ v e. ap (λ n. Int n) e) g.cells (cells_of g.row.num g.cells _ each.0.spelt.cells_are)),
    own_cells gs each.1,
  )

  one_naming : (num : ℤ) (naming : Option ℤ) → AllByRecursion (λ c. column c 0 ≡ Int num) (naming_rows num naming)
  one_naming num None = tt
  one_naming num (Some at) = (refl, tt)

  own_namings : (gs : List Group) → AllByRecursion (λ (g : Group). AllByRecursion (λ c. column c 0 ≡ Int g.row.num) (naming_rows_of g)) gs
  own_namings [] = tt
  own_namings (g ∷ gs) = (one_naming g.row.num g.naming, own_namings gs)

  pub entities_part : (keep : Value → Bool) → HasEntities serial subs any_value db → HasEntities serial subs keep db
  entities_part keep (gs, p) = (
    filter (λ (g : Group). keep (Int g.row.num)) gs,
    record {
      rising = ascending-filter IsBefore (λ (g : Group). keep (Int g.row.num)) gs p.rising;
      each = all-filter (IsGroup serial subs) (λ (g : Group). keep (Int g.row.num)) gs p.each;
      rows = mapped_part keep db Entities (λ (g : Group). entity_values g.row) gs p.rows;
      volumes = flat_part keep db Volumes (λ (g : Group). g.row.num) (λ (g : Group). map volume_values g.volumes) gs (own_volumes gs p.each) p.volumes;
      cells = flat_part keep db Cells (λ (g : Group). g.row.num) (λ (g : Group). map cell_values g.cells) gs (own_cells gs p.each) p.cells;
      namings = flat_part keep db Namings (λ (g : Group). g.row.num) naming_rows_of gs (own_namings gs) p.namings;
    },
  )

  pub entities_whole : HasNoOtherEntities db → HasEntities serial subs (is_within least greatest) db → HasEntities serial subs any_value db
  entities_whole none (gs, p) = (
    gs,
    record {
      rising = p.rising;
      each = p.each;
      rows = subst (IsPermutation (map (λ (g : Group). entity_values g.row) gs)) (whole_rows Entities db none.entities) p.rows;
      volumes = subst (IsPermutation (flat_map (λ (g : Group). map volume_values g.volumes) gs)) (whole_rows Volumes db none.volumes) p.volumes;
      cells = subst (IsPermutation (flat_map (λ (g : Group). map cell_values g.cells) gs)) (whole_rows Cells db none.cells) p.cells;
      namings = subst (IsPermutation (flat_map naming_rows_of gs)) (whole_rows Namings db none.namings) p.namings;
    },
  )
