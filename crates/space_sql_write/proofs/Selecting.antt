-- Proofs about the effects of deletes and of updates of one row.
use Rattle.std.proofs.Common.{◌≡◌, ℕ, ℤ, List, [], ◌∷◌, map, filter, not, ◌&&◌, slice_get, Bool, true, false, Some, Ok, refl, sym, ap, subst, ◌∙◌}
use Rattle.std.specs.Prelude.{IsPermutation}
use Rattle.std.specs.List.{list_all}
use Rattle.std.proofs.lemmas.List.Sorted.{IsPermutation-map, IsPermutation-refl}
use Rattle.sqlite_keyed.proofs.ListLemmas.{map-map}
use Rattle.sqlite.specs.declared.types.Value.TheVariants.{Null}
use Rattle.sqlite.specs.Order.{Row}
use Rattle.sqlite.specs.Term.{Term, col, eval_all, holds}
use Rattle.sqlite.specs.Program.{overlay}
use Rattle.sqlite.specs.Table.{Table}
use Rattle.sqlite.specs.Tree.{Trees}
use Rattle.sqlite_trees.specs.Tree.{rowid, put_row}
use Rattle.sqlite.specs.Edit.{Edit, edit_of}
use Rattle.sqlite_rules.specs.Edit.{id_in, is_taken, taken_by, left_by, Applies}
use Rattle.sqlite_rules.specs.Calls.{ids_of}
use Rattle.sqlite_rules.specs.Action.{works, Writes as Acts}
use Rattle.sqlite.specs.Rowids.TheVariants.{Given}
use Rattle.sqlite_schema.specs.declared.schema.Keys.TheVariants.{Enforced}
use Rattle.sqlite.specs.Command.TheVariants.{Update, Delete}
use Rattle.sqlite.specs.Effect.{Database, IsDatabase}
use Rattle.sqlite.specs.Listing.{understood}
use Rattle.sqlite.specs.State.{State, Executes}
use Rattle.sqlite.proofs.Callers.{IsPlain, command_of, statement_of, runs_as, one_step, one_permutation}
use Rattle.space_sql_schema.specs.Tables.{dss_schema}
use Rattle.space_sql_schema.specs.Spelling.{AreApart}
use Rattle.space_sql_schema.proofs.Selecting.{query_of, shows, deletes, updates}
use Rattle.space_sql_write.proofs.Clear.{pair_apart, clears}
use Rattle.space_sql_write.proofs.Relaying.{OthersStand}

-- Holds if the rows that pass are deleted. The field `step` describes the other effects of the
-- delete.
pub record Cleared (old new : Database) (table : Table) (hit : Row → Bool) : Type 0 where
  pub ids : List ℤ
  pub next : Trees
  pub is : new ≡ record { schema = dss_schema; trees = next }
  pub step : Applies dss_schema Enforced old.trees (edit_of old.trees table ids Given 0 []) next
  pub rows : next table.tree ≡ filter (λ r. not (hit r)) (old.trees table.tree)
  pub sound : IsDatabase new

-- Holds if the row of a table that passes is changed to another with the same rowid.
pub record Changed (old new : Database) (table : Table) (hit : Row → Bool) (row : Row) : Type 0 where
  pub next : Trees
  pub is : new ≡ record { schema = dss_schema; trees = next }
  pub stand : OthersStand old.trees next table.tree
  pub fresh : is_taken (filter (λ r. not (hit r)) (old.trees table.tree)) row ≡ false
  pub rows : next table.tree ≡ put_row row (filter (λ r. not (hit r)) (old.trees table.tree))
  pub sound : IsDatabase new

module _ (text : List ℕ) (params : Row) (table : Table) (at : ℕ) (tests : List Term) (listed : slice_get dss_schema.tables at ≡ Some table)
    (is : command_of (understood dss_schema text) ≡ Delete at (record { lets = []; body = query_of table.tree tests (col 1 0 ∷ []) })) (plain : IsPlain (understood dss_schema text)) where
  abbrev pub passes : Row → Bool
  passes r = list_all (holds (params ∷ r ∷ [])) tests

  pub clears_table : (old new : State) (count : ℕ) → old.now.schema ≡ dss_schema → AreApart (old.now.trees table.tree) → overlay old.now.trees [] table.tree ≡ old.now.trees table.tree → Executes text params old new (Ok count)
      → ((ids : List ℤ) (next : Trees) → IsPermutation (map (λ r. id_in (rowid r)) (filter passes (old.now.trees table.tree))) ids → Acts dss_schema Enforced old.now.trees (edit_of old.now.trees table ids Given 0 []) (Ok next)
      → Applies dss_schema Enforced old.now.trees (edit_of old.now.trees table ids Given 0 []) next)
      → Cleared old.now new.now table passes
  clears_table old new count has apart here h quiet =
      let db = old.now.trees in
      let w = runs_as text params old new dss_schema has _ is plain count h in
      let u = deletes dss_schema old new params table at _ (statement_of text (understood dss_schema text)) count has listed w in
      let shown = IsPermutation-map (λ r. id_in (rowid r)) _ _ (shows table.tree tests (col 1 0 ∷ []) db params u.rows here (u.answer.answer Null)) in
      let ids = subst (λ k. IsPermutation k (ids_of u.rows)) (map-map (λ r. id_in (rowid r)) (λ r. eval_all (col 1 0 ∷ []) (params ∷ r ∷ [])) (filter passes (db table.tree))) shown in
      let step = quiet (ids_of u.rows) u.next ids u.wrote in
      record { ids = ids_of u.rows; next = u.next; is = u.is; step = step; rows = step.rows ∙ clears passes (db table.tree) (ids_of u.rows) (pair_apart (db table.tree) apart) ids; sound = w.sound }

first_fresh : (a b : Bool) → (not a && b) ≡ true → a ≡ false
first_fresh true b h = cc
first_fresh false b h = refl

-- Lemmas about an edit that adds one new row to the remaining ones.
module _ (db next : Trees) (edit : Edit) (new : Row) (is : edit.news ≡ new ∷ []) (step : Applies dss_schema Enforced db edit next) where
  pub fresh_one : is_taken (left_by db edit) new ≡ false
  fresh_one = first_fresh (is_taken (left_by db edit) new) _ (rw is at step.fresh)

  pub one_put : next edit.table.tree ≡ put_row new (left_by db edit)
  one_put = rw is at step.rows

module _ (text : List ℕ) (params : Row) (table : Table) (at : ℕ) (tests project : List Term) (listed : slice_get dss_schema.tables at ≡ Some table)
    (is : command_of (understood dss_schema text) ≡ Update at (record { lets = []; body = query_of table.tree tests project })) (plain : IsPlain (understood dss_schema text)) where
  abbrev hits : Row → Bool
  hits r = list_all (holds (params ∷ r ∷ [])) tests

  -- The edit that writes one shown row.
  abbrev writes : Trees → Row → Edit
  writes db shown = edit_of db table (ids_of (shown ∷ [])) Given 1 (shown ∷ [])

  pub changes_one : (old new : State) (count : ℕ) (r shown row : Row) → old.now.schema ≡ dss_schema → AreApart (old.now.trees table.tree) → overlay old.now.trees [] table.tree ≡ old.now.trees table.tree → Executes text params old new (Ok count)
      → filter hits (old.now.trees table.tree) ≡ r ∷ [] → eval_all project (params ∷ r ∷ []) ≡ shown → rowid shown ≡ rowid r → (writes old.now.trees shown).news ≡ row ∷ []
      → works dss_schema Enforced 0 table.tree (taken_by old.now.trees (writes old.now.trees shown)) (writes old.now.trees shown).news ≡ []
      → Changed old.now new.now table hits row
  changes_one old new count r shown row has apart here h alone given same news none =
      let db = old.now.trees in
      let w = runs_as text params old new dss_schema has _ is plain count h in
      let u = updates dss_schema old new params table at _ (statement_of text (understood dss_schema text)) count has listed w in
      let found = shows table.tree tests project db params u.rows here (u.answer.answer Null) in
      let one = subst (λ k. IsPermutation (map (λ r. eval_all project (params ∷ r ∷ [])) k) u.rows) alone found in
      let rows : u.rows ≡ shown ∷ [] = one_permutation shown u.rows (subst (λ k. IsPermutation (k ∷ []) u.rows) given one) in
      let wrote = subst (λ rs. Acts dss_schema Enforced db (edit_of db table (ids_of rs) Given 1 rs) (Ok u.next)) rows u.wrote in
      let step = one_step dss_schema Enforced db u.next (writes db shown) none wrote in
      let ids = subst (λ k. IsPermutation (map (λ x. id_in (rowid x)) k) (id_in (rowid shown) ∷ [])) (sym alone) (subst (λ v. IsPermutation (id_in v ∷ []) (id_in (rowid shown) ∷ [])) same (IsPermutation-refl (id_in (rowid shown) ∷ []))) in
      let left = clears hits (db table.tree) (ids_of (shown ∷ [])) (pair_apart (db table.tree) apart) ids in
      record {
        next = u.next;
        is = u.is;
        stand = step.tables;
        fresh = subst (λ rs. is_taken rs row ≡ false) left (fresh_one db u.next (writes db shown) row news step);
        rows = one_put db u.next (writes db shown) row news step ∙ ap (put_row row) left;
        sound = w.sound;
      }
