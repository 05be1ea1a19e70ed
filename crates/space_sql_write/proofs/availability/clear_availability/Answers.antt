use Rattle.std.specs.Prelude.{[], ◌∷◌}
use Rattle.sqlite.specs.Held.{state}
use Rattle.sqlite.specs.declared.types.Value.TheVariants.{Text}
use Rattle.space_sql_write.specs.Layout.{Always, Relays, without_availability_row}
use Rattle.space_sql_write.proofs.Texts.{clear_availability_text}
use Rattle.space_sql_write.proofs.Running.{runs_on}
use Rattle.space_sql_write.proofs.Availabilities.{clears_availability}
use Rattle.space_sql_write.proofs.availability.clear_availability.Goals as goal

pub returns-clause-clears : goal.returns-clause-clears
returns-clause-clears g c =
    let old = state g.S.Store c.args.tx.now.conn.now in
    let new = state g.S.Store c.execute.new.self.conn.now in
    let uss = c.args.uss.now in
    runs_on old new clear_availability_text (Text uss ∷ []) c.execute.result (Relays Always (without_availability_row uss))
    (rw (c.params-to_sql.ensures, c.text.ensures.same) at c.execute.ensures.runs) c.execute.ensures.survives (clears_availability old new uss c.execute.result)
