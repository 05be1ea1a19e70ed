-- Proofs about the results of the statements on a table of cells.
use Rattle.std.proofs.Common.{◌≡◌, ℕ, ◌+◌, List, [], ◌∷◌, ◌&&◌, Bool, true, false, codes, refl, sym, ap, subst, ◌∙◌, int_eq, int_le, arith}
use Rattle.std.specs.List.{list_all}
use Rattle.std.proofs.lemmas.Int.{ints}
use Rattle.sqlite_rules.specs.Lists.{Has}
use Rattle.sqlite_rules.proofs.ListLemmas.{has_kept}
use Rattle.sqlite_typed.proofs.TestLemmas.{at_ints, then_term, last_term}
use Rattle.sqlite_sql.specs.declared.ops.BinaryOp.TheVariants.{Compare}
use Rattle.sqlite_sql.specs.declared.ops.CompareOp.TheVariants.{Eq, Ge, Le}
use Rattle.sqlite_tied.specs.Compute.{everything}
use Rattle.sqlite_schema.specs.declared.command.Command.TheVariants.{Select}
use Rattle.sqlite.specs.Collation.TheVariants.{Binary}
use Rattle.sqlite.specs.declared.types.Value.{Value}
use Rattle.sqlite.specs.declared.types.Value.TheVariants.{Null, Int}
use Rattle.sqlite.specs.Order.{Row, column}
use Rattle.sqlite.specs.Term.{Term, col, op2, holds, eval_all}
use Rattle.sqlite.specs.Effect.{Database, Reads}
use Rattle.sqlite.specs.Listing.{understood}
use Rattle.sqlite.specs.Program.{overlay}
use Rattle.sqlite_trees.specs.Tree.{Trees}
use Rattle.space_sql_select.specs.Selecting.{IsSelect, Answers, command_of}
use Rattle.space_sql_select.proofs.Means.{listing, cols}
use Rattle.space_sql_select.proofs.Selected.{selects_all}
use Rattle.space_sql_search.specs.declared.cell_table.CellTable.{CellTable}
use Rattle.space_sql_search.specs.declared.cell_table.CellTable.TheVariants.{OfEntities, OfSubscriptions}
use Rattle.space_sql_search.specs.declared.cell_table.RangeMatch.{RangeMatch}
use Rattle.space_sql_search.specs.declared.cell_table.RangeMatch.TheVariants.{Within, Exactly}
use Rattle.space_sql_search.specs.declared.interval.Interval.{Interval}
use Rattle.space_sql_search.specs.CellTable.{StoredCell, lo_place, stored_columns, stored_values, text_of, tree_of}
use Rattle.space_sql_search.specs.Numbers.{IsInRange, ShowsNumbers}
use Rattle.space_sql_search.proofs.Lists.{has_map, map_has, has_moved}

-- The tests on the columns `lo` and `hi`.
abbrev tests : RangeMatch → ℕ → ℕ → List Term
tests Within k l = op2 (Compare Ge Binary) (col 1 k) (col 0 0) ∷ op2 (Compare Le Binary) (col 1 k) (col 0 1) ∷ []
tests Exactly k l = op2 (Compare Eq Binary) (col 1 k) (col 0 0) ∷ op2 (Compare Eq Binary) (col 1 l) (col 0 1) ∷ []

-- The name of the column that is shown.
abbrev number_name : CellTable → List ℕ
number_name OfEntities = codes "entity"
number_name OfSubscriptions = codes "subscription"

pub is_select : (table : CellTable) (range : RangeMatch) → IsSelect (text_of table range)
unfolding understood everything
is_select OfEntities Within = record { plain = (refl, refl); unlisted = refl }
is_select OfEntities Exactly = record { plain = (refl, refl); unlisted = refl }
is_select OfSubscriptions Within = record { plain = (refl, refl); unlisted = refl }
is_select OfSubscriptions Exactly = record { plain = (refl, refl); unlisted = refl }

text_is : (table : CellTable) (range : RangeMatch) → command_of (text_of table range) ≡ Select (record { lets = []; body = listing (tree_of table) (tests range (lo_place table) (lo_place table + 1)) (1 ∷ []) [] }) (number_name table ∷ [])
unfolding understood everything
text_is OfEntities Within = refl
text_is OfEntities Exactly = refl
text_is OfSubscriptions Within = refl
text_is OfSubscriptions Exactly = refl

-- The tree is unchanged.
same_rows : (table : CellTable) (trees : Trees) → overlay trees [] (tree_of table) ≡ trees (tree_of table)
same_rows OfEntities trees = refl
same_rows OfSubscriptions trees = refl

two_tests : (a b : Bool) → a ≡ true → b ≡ true → (a && b) ≡ true
two_tests true b e f = f
two_tests false b e f = cc

passes : (range : RangeMatch) (k l : ℕ) (i : Interval) (c : StoredCell) (r : Row) → column r k ≡ Int c.lo → column r l ≡ Int c.hi → IsInRange range i c → list_all (holds ((Int i.lo ∷ Int i.hi ∷ []) ∷ r ∷ [])) (tests range k l) ≡ true
passes Within k l i c r lo hi p =
    let low : int_le i.lo c.lo ≡ true = let h = p.0 in grind (arith, ints, h) in
    let high : int_le c.lo i.hi ≡ true = let h = p.1 in grind (arith, ints, h) in
    subst (λ (v : Value). list_all (holds ((Int i.lo ∷ Int i.hi ∷ []) ∷ (v ∷ []) ∷ [])) (tests Within 0 0) ≡ true) (sym lo)
    (then_term (at_ints false Ge c.lo i.lo) (last_term (at_ints false Le c.lo i.hi)) ∙ two_tests _ _ low high)
passes Exactly k l i c r lo hi p =
    let first : int_eq c.lo i.lo ≡ true = let h = p.0 in grind (arith, ints, h) in
    let second : int_eq c.hi i.hi ≡ true = let h = p.1 in grind (arith, ints, h) in
    subst (λ (v : Value). list_all (holds ((Int i.lo ∷ Int i.hi ∷ []) ∷ (v ∷ column r l ∷ []) ∷ [])) (tests Exactly 0 1) ≡ true) (sym lo)
    (subst (λ (v : Value). list_all (holds ((Int i.lo ∷ Int i.hi ∷ []) ∷ (Int c.lo ∷ v ∷ []) ∷ [])) (tests Exactly 0 1) ≡ true) (sym hi)
    (then_term (at_ints false Eq c.lo i.lo) (last_term (at_ints false Eq c.hi i.hi)) ∙ two_tests _ _ first second))

module _ (table : CellTable) (range : RangeMatch) (i : Interval) (db : Database) (rows : List Row) where
  abbrev params : Row
  params = Int i.lo ∷ Int i.hi ∷ []

  abbrev own : List Term
  own = tests range (lo_place table) (lo_place table + 1)

  shown : Reads (Select (record { lets = []; body = listing (tree_of table) own (1 ∷ []) [] }) (number_name table ∷ [])) db params rows → ShowsNumbers table range i db rows
  shown read c there p =
      let all = selects_all (tree_of table) own (1 ∷ []) [] db.trees params rows (same_rows table db.trees) (read.answer Null) in
      let from = has_map (stored_columns table) (db.trees (tree_of table)) (stored_values c) there in
      let pass = passes range (lo_place table) (lo_place table + 1) i c from.0 (ap (λ l. column l 1) (sym from.2)) (ap (λ l. column l 2) (sym from.2)) p in
      let kept = has_kept (λ r. list_all (holds (params ∷ r ∷ [])) own) (db.trees (tree_of table)) from.0 from.1 pass in
      let moved = has_moved _ rows _ all (map_has (λ r. eval_all (cols (1 ∷ [])) (params ∷ r ∷ [])) _ from.0 kept) in
      subst (λ (v : Value). Has rows (v ∷ [])) (ap (λ l. column l 0) (sym from.2)) moved

pub numbers_shown : (table : CellTable) (range : RangeMatch) (i : Interval) (db : Database) (rows : List Row) → Answers (text_of table range) (Int i.lo ∷ Int i.hi ∷ []) db rows → ShowsNumbers table range i db rows
numbers_shown table range i db rows h = shown table range i db rows (subst (λ k. Reads k db (Int i.lo ∷ Int i.hi ∷ []) rows) (text_is table range) h)
