-- Proofs about the results of the statements that read the tables in pieces.
use Rattle.std.proofs.Common.{◌≡◌, ℕ, ℤ, List, [], ◌∷◌, map, filter, not, codes, refl, sym, ap, subst, ◌∙◌, Less}
use Rattle.std.specs.Prelude.{IsPermutation}
use Rattle.std.specs.List.{list_all}
use Rattle.std.specs.Ordering.{int_cmp}
use Rattle.std.proofs.lemmas.List.Sorted.{length_permutation}
use Rattle.sqlite_keyed.proofs.ListLemmas.{filter-map, filter_same, map_same}
use Rattle.sqlite_trees.specs.Tree.{Trees}
use Rattle.sqlite_value.proofs.OrderLemmas.{value_cmp-Int}
use Rattle.sqlite_typed.proofs.TestLemmas.{then_term, last_term}
use Rattle.sqlite_sql.specs.declared.ops.BinaryOp.TheVariants.{Compare, Or, Is}
use Rattle.sqlite_sql.specs.declared.ops.CompareOp.TheVariants.{Gt, Le}
use Rattle.sqlite_sql.specs.Query.{output, output_cmp}
use Rattle.sqlite_tied.specs.Compute.{everything}
use Rattle.sqlite_schema.specs.declared.command.Command.TheVariants.{Select}
use Rattle.sqlite.specs.Collation.TheVariants.{Binary}
use Rattle.sqlite.specs.declared.types.Value.TheVariants.{Null, Int}
use Rattle.sqlite.specs.Order.{Row, column}
use Rattle.sqlite.specs.Term.{Term, col, lit, op2, holds, eval_all}
use Rattle.sqlite.specs.Effect.{Database, Reads}
use Rattle.sqlite.specs.Listing.{understood}
use Rattle.sqlite.specs.Program.{overlay}
use Rattle.space_sql_select.specs.Selecting.{IsSelect, Answers, command_of}
use Rattle.space_sql_select.proofs.Means.{listing, cols}
use Rattle.space_sql_select.proofs.Selected.{selects_all, selects_one}
use Rattle.space_sql_select.proofs.Shown.{then_equal}
use Rattle.space_sql_check.specs.declared.source.Source.{Source}
use Rattle.space_sql_check.specs.declared.source.Source.TheVariants.{Entities, Volumes, Cells, Namings, Subscriptions, SubCells, VolumeIds, CellIds, SettingIds, SubCellIds}
use Rattle.space_sql_check.specs.declared.ends.Counted.{Counted}
use Rattle.space_sql_check.specs.declared.ends.Counted.TheVariants as counted
use Rattle.space_sql_check.specs.Source.{within_text, outside_text, next_text, tree_of, columns_of, Typed, values_of, order_of}
use Rattle.space_sql_check.specs.Parts.{is_within, rows_where, ShowsWithin, HasNoneOutside, least, greatest}
use Rattle.space_sql_check.proofs.Numbers.{outside_is}

-- ---- the queries

-- The position of the number by which rows are read.
abbrev place_of : Source → ℕ
place_of Entities = 0
place_of Volumes = 1
place_of Cells = 1
place_of Namings = 0
place_of Subscriptions = 0
place_of SubCells = 1
place_of VolumeIds = 0
place_of CellIds = 0
place_of SettingIds = 0
place_of SubCellIds = 0

abbrev shown_of : Source → List ℕ
shown_of Entities = 0 ∷ 2 ∷ 3 ∷ 4 ∷ 5 ∷ 6 ∷ 7 ∷ 8 ∷ 9 ∷ []
shown_of Volumes = 1 ∷ 2 ∷ 3 ∷ 4 ∷ 5 ∷ 6 ∷ []
shown_of Cells = 1 ∷ 2 ∷ 3 ∷ 4 ∷ 5 ∷ 6 ∷ []
shown_of Namings = 0 ∷ 2 ∷ []
shown_of Subscriptions = 0 ∷ 2 ∷ 3 ∷ 4 ∷ 5 ∷ 6 ∷ 7 ∷ 8 ∷ 9 ∷ 10 ∷ 11 ∷ 12 ∷ 13 ∷ []
shown_of SubCells = 1 ∷ 2 ∷ 3 ∷ 4 ∷ 5 ∷ []
shown_of VolumeIds = 0 ∷ []
shown_of CellIds = 0 ∷ []
shown_of SettingIds = 0 ∷ []
shown_of SubCellIds = 0 ∷ []

abbrev sorted_of : Source → List ℕ
sorted_of Entities = 0 ∷ []
sorted_of Volumes = 1 ∷ 2 ∷ []
sorted_of Cells = 1 ∷ 2 ∷ 3 ∷ []
sorted_of Namings = 0 ∷ []
sorted_of Subscriptions = 0 ∷ []
sorted_of SubCells = 1 ∷ 2 ∷ []
sorted_of VolumeIds = 0 ∷ []
sorted_of CellIds = 0 ∷ []
sorted_of SettingIds = 0 ∷ []
sorted_of SubCellIds = 0 ∷ []

abbrev names_of : Source → List (List ℕ)
names_of Entities = codes "num" ∷ codes "kind" ∷ codes "id" ∷ codes "manager" ∷ codes "state" ∷ codes "version" ∷ codes "serial" ∷ codes "ovn" ∷ codes "url" ∷ []
names_of Volumes = codes "entity" ∷ codes "place" ∷ codes "alt_lower" ∷ codes "alt_upper" ∷ codes "time_start" ∷ codes "time_end" ∷ []
names_of Cells = codes "entity" ∷ codes "volume" ∷ codes "place" ∷ codes "token" ∷ codes "lo" ∷ codes "hi" ∷ []
names_of Namings = codes "entity" ∷ codes "subscription" ∷ []
names_of Subscriptions = codes "num" ∷ codes "id" ∷ codes "manager" ∷ codes "serial" ∷ codes "version" ∷ codes "notes" ∷ codes "url" ∷ codes "for_intents" ∷ codes "for_constraints" ∷ codes "alt_lower" ∷ codes "alt_upper" ∷ codes "time_start" ∷ codes "time_end" ∷ []
names_of SubCells = codes "subscription" ∷ codes "place" ∷ codes "token" ∷ codes "lo" ∷ codes "hi" ∷ []
names_of VolumeIds = codes "rowid" ∷ []
names_of CellIds = codes "rowid" ∷ []
names_of SettingIds = codes "rowid" ∷ []
names_of SubCellIds = codes "rowid" ∷ []

abbrev name_of : Source → List ℕ
name_of Entities = codes "num"
name_of Volumes = codes "entity"
name_of Cells = codes "entity"
name_of Namings = codes "entity"
name_of Subscriptions = codes "num"
name_of SubCells = codes "subscription"
name_of VolumeIds = codes "rowid"
name_of CellIds = codes "rowid"
name_of SettingIds = codes "rowid"
name_of SubCellIds = codes "rowid"

abbrev within_tests : ℕ → List Term
within_tests k = op2 (Compare Gt Binary) (col 1 k) (col 0 0) ∷ op2 (Compare Le Binary) (col 1 k) (col 0 1) ∷ []

abbrev outside_tests : ℕ → List Term
outside_tests k = op2 Or (op2 Or (op2 (Is Binary) (col 1 k) (lit Null)) (op2 (Compare Le Binary) (col 1 k) (col 0 0))) (op2 (Compare Gt Binary) (col 1 k) (col 0 1)) ∷ []

pub within_select : (s : Source) → IsSelect (within_text s)
unfolding understood everything
within_select Entities = record { plain = (refl, refl); unlisted = refl }
within_select Volumes = record { plain = (refl, refl); unlisted = refl }
within_select Cells = record { plain = (refl, refl); unlisted = refl }
within_select Namings = record { plain = (refl, refl); unlisted = refl }
within_select Subscriptions = record { plain = (refl, refl); unlisted = refl }
within_select SubCells = record { plain = (refl, refl); unlisted = refl }
within_select VolumeIds = record { plain = (refl, refl); unlisted = refl }
within_select CellIds = record { plain = (refl, refl); unlisted = refl }
within_select SettingIds = record { plain = (refl, refl); unlisted = refl }
within_select SubCellIds = record { plain = (refl, refl); unlisted = refl }

within_means : (s : Source) → command_of (within_text s) ≡ Select (record { lets = []; body = listing (tree_of s) (within_tests (place_of s)) (shown_of s) (sorted_of s) }) (names_of s)
unfolding understood everything
within_means Entities = refl
within_means Volumes = refl
within_means Cells = refl
within_means Namings = refl
within_means Subscriptions = refl
within_means SubCells = refl
within_means VolumeIds = refl
within_means CellIds = refl
within_means SettingIds = refl
within_means SubCellIds = refl

pub outside_select : (s : Source) → IsSelect (outside_text s)
unfolding understood everything
outside_select Entities = record { plain = (refl, refl); unlisted = refl }
outside_select Volumes = record { plain = (refl, refl); unlisted = refl }
outside_select Cells = record { plain = (refl, refl); unlisted = refl }
outside_select Namings = record { plain = (refl, refl); unlisted = refl }
outside_select Subscriptions = record { plain = (refl, refl); unlisted = refl }
outside_select SubCells = record { plain = (refl, refl); unlisted = refl }
outside_select VolumeIds = record { plain = (refl, refl); unlisted = refl }
outside_select CellIds = record { plain = (refl, refl); unlisted = refl }
outside_select SettingIds = record { plain = (refl, refl); unlisted = refl }
outside_select SubCellIds = record { plain = (refl, refl); unlisted = refl }

outside_means : (s : Source) → command_of (outside_text s) ≡ Select (record { lets = []; body = listing (tree_of s) (outside_tests (place_of s)) (place_of s ∷ []) [] }) (name_of s ∷ [])
unfolding understood everything
outside_means Entities = refl
outside_means Volumes = refl
outside_means Cells = refl
outside_means Namings = refl
outside_means Subscriptions = refl
outside_means SubCells = refl
outside_means VolumeIds = refl
outside_means CellIds = refl
outside_means SettingIds = refl
outside_means SubCellIds = refl

pub next_select : (c : Counted) → IsSelect (next_text c)
unfolding understood everything
next_select counted.CellsOfEntities = record { plain = (refl, refl); unlisted = refl }
next_select counted.CellsOfSubscriptions = record { plain = (refl, refl); unlisted = refl }
next_select counted.VolumeIds = record { plain = (refl, refl); unlisted = refl }
next_select counted.CellIds = record { plain = (refl, refl); unlisted = refl }
next_select counted.SettingIds = record { plain = (refl, refl); unlisted = refl }
next_select counted.SubCellIds = record { plain = (refl, refl); unlisted = refl }

-- ---- rows of a source

same_rows : (s : Source) (trees : Trees) → overlay trees [] (tree_of s) ≡ trees (tree_of s)
same_rows Entities trees = refl
same_rows Volumes trees = refl
same_rows Cells trees = refl
same_rows Namings trees = refl
same_rows Subscriptions trees = refl
same_rows SubCells trees = refl
same_rows VolumeIds trees = refl
same_rows CellIds trees = refl
same_rows SettingIds trees = refl
same_rows SubCellIds trees = refl

first_column : (s : Source) (r : Row) → column r (place_of s) ≡ column (columns_of s r) 0
first_column Entities r = refl
first_column Volumes r = refl
first_column Cells r = refl
first_column Namings r = refl
first_column Subscriptions r = refl
first_column SubCells r = refl
first_column VolumeIds r = refl
first_column CellIds r = refl
first_column SettingIds r = refl
first_column SubCellIds r = refl

columns_are : (s : Source) (params r : Row) → eval_all (cols (shown_of s)) (params ∷ r ∷ []) ≡ columns_of s r
columns_are Entities params r = refl
columns_are Volumes params r = refl
columns_are Cells params r = refl
columns_are Namings params r = refl
columns_are Subscriptions params r = refl
columns_are SubCells params r = refl
columns_are VolumeIds params r = refl
columns_are CellIds params r = refl
columns_are SettingIds params r = refl
columns_are SubCellIds params r = refl

-- The columns by which the rows are sorted.
abbrev key_of : Source → Row → Row
key_of Entities c = column c 0 ∷ []
key_of Volumes c = column c 0 ∷ column c 1 ∷ []
key_of Cells c = column c 0 ∷ column c 1 ∷ column c 2 ∷ []
key_of Namings c = column c 0 ∷ []
key_of Subscriptions c = column c 0 ∷ []
key_of SubCells c = column c 0 ∷ column c 1 ∷ []
key_of VolumeIds c = column c 0 ∷ []
key_of CellIds c = column c 0 ∷ []
key_of SettingIds c = column c 0 ∷ []
key_of SubCellIds c = column c 0 ∷ []

keys_are : (s : Source) (params r : Row) → output (listing (tree_of s) (within_tests (place_of s)) (shown_of s) (sorted_of s)) (params ∷ r ∷ []) ≡ (key_of s (columns_of s r), columns_of s r)
keys_are Entities params r = refl
keys_are Volumes params r = refl
keys_are Cells params r = refl
keys_are Namings params r = refl
keys_are Subscriptions params r = refl
keys_are SubCells params r = refl
keys_are VolumeIds params r = refl
keys_are CellIds params r = refl
keys_are SettingIds params r = refl
keys_are SubCellIds params r = refl

rises : (s : Source) (x y : Typed s) → order_of s x y ≡ Less
    → output_cmp (listing (tree_of s) (within_tests (place_of s)) (shown_of s) (sorted_of s)) (key_of s (values_of s x), values_of s x) (key_of s (values_of s y), values_of s y) ≡ Less
rises Entities x y e = rw (value_cmp-Int x.num y.num, e)
rises Volumes x y e = rw (value_cmp-Int x.entity y.entity, value_cmp-Int x.place y.place, then_equal (int_cmp x.place y.place)) e
rises Cells x y e = rw (value_cmp-Int x.entity y.entity, value_cmp-Int x.volume y.volume, value_cmp-Int x.place y.place, then_equal (int_cmp x.place y.place)) e
rises Namings x y e = rw (value_cmp-Int x.entity y.entity, e)
rises Subscriptions x y e = rw (value_cmp-Int x.num y.num, e)
rises SubCells x y e = rw (value_cmp-Int x.subscription y.subscription, value_cmp-Int x.place y.place, then_equal (int_cmp x.place y.place)) e
rises VolumeIds x y e = rw (value_cmp-Int x y, e)
rises CellIds x y e = rw (value_cmp-Int x y, e)
rises SettingIds x y e = rw (value_cmp-Int x y, e)
rises SubCellIds x y e = rw (value_cmp-Int x y, e)

-- ---- results

module _ (over end : ℤ) (s : Source) (db : Database) (rows : List Row) where
  abbrev params : Row
  params = Int over ∷ Int end ∷ []

  passes : (r : Row) → list_all (holds (params ∷ r ∷ [])) (within_tests (place_of s)) ≡ is_within over end (column (columns_of s r) 0)
  passes r = then_term refl (last_term refl) ∙ ap (is_within over end) (first_column s r)

  -- The rows that pass, by the columns that are shown.
  passing : map (columns_of s) (filter (λ r. list_all (holds (params ∷ r ∷ [])) (within_tests (place_of s))) (db.trees (tree_of s))) ≡ rows_where (is_within over end) s db
  passing = ap (map (columns_of s)) (filter_same _ _ passes (db.trees (tree_of s))) ∙ sym (filter-map (λ c. is_within over end (column c 0)) (columns_of s) (db.trees (tree_of s)))

  pub within_shown : Answers (within_text s) params db rows → ShowsWithin over end s db rows
  within_shown h =
      let read = subst (λ k. Reads k db params rows) (within_means s) h in
      record {
        all = subst (λ l. IsPermutation l rows) (map_same _ _ (λ r. columns_are s params r) _ ∙ passing) (selects_all (tree_of s) (within_tests (place_of s)) (shown_of s) (sorted_of s) db.trees params rows (same_rows s db.trees) (read.answer Null));
        rising = λ xs up same.
            selects_one (tree_of s) (within_tests (place_of s)) (shown_of s) (sorted_of s) db.trees params rows (same_rows s db.trees) (read.answer Null) (values_of s) (columns_of s) (λ c. (key_of s c, c)) (order_of s) (λ r. keys_are s params r) (λ c. refl)
            (rises s) xs up (subst (IsPermutation (map (values_of s) xs)) (sym passing) same);
      }

no_rows : {X Y : Type 0} (f : X → Y) (xs : List X) → IsPermutation (map f xs) [] → xs ≡ []
no_rows f [] p = refl
no_rows f (x ∷ xs) p = absurd (let e = length_permutation _ _ p in cc)

module _ (s : Source) (db : Database) (rows : List Row) where
  abbrev bounds : Row
  bounds = Int least ∷ Int greatest ∷ []

  fails : (r : Row) → list_all (holds (bounds ∷ r ∷ [])) (outside_tests (place_of s)) ≡ not (is_within least greatest (column (columns_of s r) 0))
  fails r = last_term (outside_is least greatest (column r (place_of s))) ∙ ap (λ v. not (is_within least greatest v)) (first_column s r)

  pub outside_shown : Answers (outside_text s) bounds db rows → rows ≡ [] → HasNoneOutside s db
  outside_shown h none =
      let read = subst (λ k. Reads k db bounds rows) (outside_means s) h in
      let all = selects_all (tree_of s) (outside_tests (place_of s)) (place_of s ∷ []) [] db.trees bounds rows (same_rows s db.trees) (read.answer Null) in
      let nothing = no_rows (λ r. eval_all (cols (place_of s ∷ [])) (bounds ∷ r ∷ [])) _ (subst (IsPermutation _) none all) in
      filter-map (λ c. not (is_within least greatest (column c 0))) (columns_of s) (db.trees (tree_of s))
      ∙ ap (map (columns_of s)) (sym (filter_same _ _ fails (db.trees (tree_of s))) ∙ nothing)
