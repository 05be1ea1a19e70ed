-- Proofs about the serial in the row of `meta`.
use Rattle.std.proofs.Common.{◌≡◌, ℕ, pos, List, [], ◌∷◌, map, filter, codes, false, Ok, Err, Result, IfOk, refl, ap, subst, ◌∙◌}
use Rattle.std.specs.Prelude.{IsPermutation}
use Rattle.std.specs.List.{list_all}
use Rattle.sqlite_schema.specs.declared.command.Command.TheVariants.{Select}
use Rattle.sqlite_typed.proofs.TestLemmas.{at_ints}
use Rattle.sqlite_sql.specs.declared.ops.CompareOp.TheVariants.{Eq}
use Rattle.sqlite_tied.specs.Compute.{everything}
use Rattle.sqlite.specs.declared.types.Value.TheVariants.{Null, Int}
use Rattle.sqlite.specs.declared.error.Error.{Error}
use Rattle.sqlite.specs.Order.{Row, column}
use Rattle.sqlite.specs.Term.{holds}
use Rattle.sqlite.specs.Effect.{Database, Reads}
use Rattle.sqlite.specs.Listing.{understood}
use Rattle.sqlite.proofs.Callers.{one_permutation}
use Rattle.entity_core.specs.Airspace.{Airspace}
use Rattle.space_sql_schema.specs.Tables.{dss_schema, is_number}
use Rattle.space_sql_schema.specs.Spelling.{Spells, meta_columns, meta_values}
use Rattle.space_sql_select.specs.Selecting.{IsSelect, Answers, command_of}
use Rattle.space_sql_select.proofs.Means.{listing}
use Rattle.space_sql_select.proofs.Selected.{selects_all}
use Rattle.space_sql_lookup.specs.Texts.{serial_read}

pub serial_select : IsSelect serial_read
unfolding understood everything
serial_select = record { plain = (refl, refl); unlisted = refl }

serial_is : command_of serial_read ≡ Select (record { lets = []; body = listing 0 (is_number 0 1 ∷ []) (3 ∷ []) [] }) (codes "serial" ∷ [])
unfolding understood everything
serial_is = refl

one_row : (rows : List Row) (c : Row) → map meta_columns rows ≡ c ∷ [] → (r : Row) × (rows ≡ r ∷ []) × (meta_columns r ≡ c)
one_row [] c e = absurd cc
one_row (r ∷ []) c e = (r, refl, cc)
one_row (r ∷ s ∷ rows) c e = absurd cc

passes : (r : Row) → column r 0 ≡ Int (pos 1) → filter (λ r. list_all (holds ([] ∷ r ∷ [])) (is_number 0 1 ∷ [])) (r ∷ []) ≡ r ∷ []
passes r e = rw (e, at_ints false Eq (pos 1) (pos 1))

serial_shown : (db : Database) (a : Airspace) (rows : List Row) → Spells db a → Answers serial_read [] db rows → rows ≡ (Int (pos a.serial) ∷ []) ∷ []
serial_shown db a rows s h =
    let it = one_row (db.trees 0) (meta_values 2 a.serial) s.meta in
    let first : column it.0 0 ≡ Int (pos 1) = ap (λ c. column c 0) it.2 in
    let third : column it.0 3 ≡ Int (pos a.serial) = ap (λ c. column c 2) it.2 in
    let read = subst (λ k. Reads k db [] rows) serial_is h in
    let all = selects_all 0 (is_number 0 1 ∷ []) (3 ∷ []) [] db.trees [] rows refl (read.answer Null) in
    let one = subst (λ k. IsPermutation (map (λ r. column r 3 ∷ []) k) rows) (ap (filter (λ r. list_all (holds ([] ∷ r ∷ [])) (is_number 0 1 ∷ []))) it.1 ∙ passes it.0 first) all in
    one_permutation (Int (pos a.serial) ∷ []) rows (subst (λ v. IsPermutation ((v ∷ []) ∷ []) rows) third one)

pub serial_told : (db : Database) (r : Result ℕ Error) (rows sliced : List Row) → sliced ≡ rows → IfOk r (λ n. (m : ℕ) → sliced ≡ (Int (pos m) ∷ []) ∷ [] → n ≡ m)
    → (db.schema ≡ dss_schema → Answers serial_read [] db rows) → IfOk r (λ n. (a : Airspace) → Spells db a → n ≡ a.serial)
serial_told db (Ok n) rows sliced e told h = λ a s. told a.serial (e ∙ serial_shown db a rows s (h s.schema))
serial_told db (Err x) rows sliced e told h = tt
