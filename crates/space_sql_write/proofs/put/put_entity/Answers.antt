use Rattle.std.proofs.Common.{to_z, of_z, w64, ◌≡◌, ◌<◌, ℕ, [], rules}
use Rattle.sqlite.specs.Held.{state}
use Rattle.sqlite.specs.Effect.{Database}
use Rattle.entity_core.specs.Serial.{max_serial}
use Rattle.space_core.specs.declared.space.Change.TheVariants.{Put}
use Rattle.space_sql_write.specs.Layout.{with_next_serial}
use Rattle.space_sql_write.specs.Statements.{RelaysSound, MakesChange}
use Rattle.space_sql_write.specs.Putting.{FindsNaming, InsertsEntity, MakesRoom}
use Rattle.space_sql_write.proofs.Running.{runs_then}
use Rattle.space_sql_write.proofs.Putting.{puts_entity}
use Rattle.space_sql_write.proofs.put.put_entity.Goals as goal

pub returns-clause-changes : goal.returns-clause-changes
returns-clause-changes g c =
    let old = state g.S.Store c.args.tx.now.conn.now in
    let found = state g.S.Store c.naming_of.new.tx.conn.now in
    let room = state g.S.Store c.make_room.new.tx.conn.now in
    let rows = state g.S.Store c.insert_entity.new.tx.conn.now in
    let new = state g.S.Store c.raise_serial.new.tx.conn.now in
    let e = c.args.entity.now in
    let named = c.in_ok-named.named in
    let num = c.in_ok-num.num in
    let own : to_z w64 (of_z w64 num) ≡ num = search rules in
    let Two = λ (_ : Unit {0}) (a d : Database). (b : Database) × FindsNaming e named a b × MakesRoom e num b d in
    let first = runs_then (FindsNaming e) (MakesRoom e) Two old found room named num tt (λ finds makes. (found.now, finds, makes)) c.in_ok-named.ensures.finds c.in_ok-num.ensures.room in
    let All = λ (_ : Unit {0}) (a d : Database). (b : Database) × (r : Database) × FindsNaming e named a b × MakesRoom e num b r × InsertsEntity e num named r d in
    let second = runs_then Two (λ _. InsertsEntity e num named) All old room rows tt tt tt (λ two inserts. (two.0, room.now, two.1, two.2, inserts)) first (rw own at c.in_ok-insert_entity.ensures.inserts) in
    runs_then All (λ (_ : ℕ). RelaysSound (λ l. l.serial < max_serial) with_next_serial) (λ (_ : Unit {0}). MakesChange (Put e) []) old rows new tt _ tt
    (λ all raises. puts_entity e num named old.now all.0 all.1 rows.now new.now all.2 all.3 all.4 raises) second c.in_ok-raise_serial.ensures.raises
