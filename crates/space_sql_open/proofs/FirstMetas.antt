-- Proofs that the rows of `meta` give the format of tables.
use Rattle.std.proofs.Common.{◌≡◌, ◌⊎◌, ℤ, pos, List, [], ◌∷◌, map, Ok, Err, Result, IfOk, refl, sym, ap, subst, ◌∙◌}
use Rattle.std.specs.Prelude.{IfErr, IsPermutation, Vec}
use Rattle.std.specs.Global.{Global}
use Rattle.std.proofs.lemmas.List.Sorted.{IsPermutation-sym}
use Rattle.sqlite.specs.declared.error.Error.{Error}
use Rattle.sqlite.specs.Effect.{Database}
use Rattle.sqlite.specs.Order.{Row}
use Rattle.sqlite.specs.State.{State, HasCleanDisk, FailsToQuery, IsTooLate, Shown, Survives}
use Rattle.sqlite.proofs.Callers.{one_permutation}
use Rattle.entity_core.specs.Airspace.{Airspace}
use Rattle.space_sql_schema.specs.declared.format.Format.{Format}
use Rattle.space_sql_schema.specs.Making.{HasMeta}
use Rattle.space_sql_schema.specs.Spelling.{SpellsAs, meta_columns, meta_values}
use Rattle.space_sql_schema.specs.Tables.{format_number, schema_of}
use Rattle.space_sql_select.specs.Meta.{AreOtherFormat, ShowsMeta}
use Rattle.space_sql_select.proofs.Texts.{metas_read}
use Rattle.space_sql_select.proofs.Metas.{other_database, other_rows}
use Rattle.space_sql_open.specs.FirstMeta.{AreFirst, ReadsMeta, SaysMeta, SaysRows, SaysSecondRows}
use Rattle.space_sql_open.specs.Inside.{Inside}
use Rattle.space_sql_open.specs.declared.open_fault.OpenFault.{OpenFault}
use Rattle.space_sql_open.specs.declared.open_fault.OpenFault.TheVariants.{NotADss, Version, Store}
use Rattle.space_sql_open.proofs.OldMeans.{metas_in}
use Rattle.space_sql_open.proofs.OldReads.{reads_all}

-- A single statement is a read.
pub reads_meta : (format : Format) (old new : State) (r : Result (Vec Row Global) Error) → (HasCleanDisk new → IfOk r (λ rows. Shown metas_read [] old new rows.items)) → (HasCleanDisk new → IfErr r (λ e. FailsToQuery metas_read [] old new e ⊎ IsTooLate metas_read [] old new e))
    → Survives old new (λ _. ⊥) → Inside (schema_of format) ReadsMeta old new r
reads_meta format old new r ok err survives = reads_all (schema_of format) metas_read 0 _ _ (metas_in format) old new refl ReadsMeta (λ rows all same. (all, same)) (λ e. tt) r ok err survives

-- If `meta` shows one row with format 1, it is the row of the table.
first_database : (db : Database) (rows : List Row) → ShowsMeta db rows → AreFirst rows → (serial : ℤ) × HasMeta 1 serial (db.trees 0)
first_database db rows shows it = (it.0, one_permutation _ (map meta_columns (db.trees 0)) (IsPermutation-sym _ _ (subst (IsPermutation (map meta_columns (db.trees 0))) it.1 shows)))

-- If the tables represent an airspace in format 1, `meta` says format 1.
first_rows : (format : Format) → format_number format ≡ 1 → (db : Database) (rows : List Row) → ShowsMeta db rows → (a : Airspace) → SpellsAs format db a → AreFirst rows
first_rows format number db rows shows a p = (pos a.serial, one_permutation _ rows (subst (λ l. IsPermutation l rows) (p.meta ∙ ap (λ n. meta_values n a.serial ∷ []) number) shows))

pub says : (format : Format) → format_number format ≡ 1 → (old new : Database) (rows sliced : List Row) (r : Result (Unit {0}) OpenFault) → sliced ≡ rows → ShowsMeta old rows × (new ≡ old) → SaysRows sliced r → SaysMeta 1 format old new r
says format number old new rows sliced (Ok x) e read said = (first_database old rows read.0 (subst AreFirst e said), read.1)
says format number old new rows sliced (Err NotADss) e read said = ((λ a p. said.0 (subst AreFirst (sym e) (first_rows format number old rows read.0 a p))), (λ other. said.1 (subst AreOtherFormat (sym e) (other_rows old rows read.0 other))))
says format number old new rows sliced (Err Version) e read said = other_database old rows read.0 (subst AreOtherFormat e said)
says format number old new rows sliced (Err Store) e read said = absurd said

-- ---- format 2

pub says_second : (format : Format) → format_number format ≡ 2 → (old new : Database) (rows sliced : List Row) (r : Result (Unit {0}) OpenFault) → sliced ≡ rows → ShowsMeta old rows × (new ≡ old) → SaysSecondRows sliced r → SaysMeta 2 format old new r
says_second format number old new rows sliced (Ok x) e read said = ((pos said.0, one_permutation _ (map meta_columns (old.trees 0)) (IsPermutation-sym _ _ (subst (IsPermutation (map meta_columns (old.trees 0))) (sym e ∙ said.1) read.0))), read.1)
says_second format number old new rows sliced (Err NotADss) e read said = (
  (λ a p. said.0 a.serial (e ∙ one_permutation _ rows (subst (λ l. IsPermutation l rows) (p.meta ∙ ap (λ n. meta_values n a.serial ∷ []) number) read.0))),
  (λ other. said.1 (subst AreOtherFormat (sym e) (other_rows old rows read.0 other))),
)
says_second format number old new rows sliced (Err Version) e read said = other_database old rows read.0 (subst AreOtherFormat e said)
says_second format number old new rows sliced (Err Store) e read said = absurd said
