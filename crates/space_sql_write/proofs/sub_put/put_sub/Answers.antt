use Rattle.std.specs.Prelude.{◌<◌, []}
use Rattle.sqlite.specs.Held.{state}
use Rattle.entity_core.specs.Serial.{max_serial}
use Rattle.space_core.specs.declared.space.Change.TheVariants.{PutSub}
use Rattle.space_sql_write.specs.Layout.{with_next_serial}
use Rattle.space_sql_write.specs.Statements.{RelaysSound, MakesChange}
use Rattle.space_sql_write.specs.SubPutting.{StoresSub}
use Rattle.space_sql_write.proofs.Running.{runs_then}
use Rattle.space_sql_write.proofs.SubStored.{puts_sub}
use Rattle.space_sql_write.proofs.sub_put.put_sub.Goals as goal

pub returns-clause-changes : goal.returns-clause-changes
returns-clause-changes g c =
    let a = state g.S.Store c.args.tx.now.conn.now in
    let b = state g.S.Store c.store_sub.new.tx.conn.now in
    let d = state g.S.Store c.raise_serial.new.tx.conn.now in
    let s = c.args.sub.now in
    runs_then (λ _. StoresSub s) (λ _. RelaysSound (λ l. l.serial < max_serial) with_next_serial) (λ _. MakesChange (PutSub s) []) a b d _ _ _
    (λ stores raises. puts_sub s a.now b.now d.now stores raises)
    c.in_ok-store_sub.ensures.stores c.in_ok-raise_serial.ensures.raises
