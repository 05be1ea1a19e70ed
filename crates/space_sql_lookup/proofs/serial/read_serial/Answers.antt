use Rattle.std.proofs.Common.{◌≡◌}
use Rattle.std.specs.Prelude.{[]}
use Rattle.sqlite.specs.Held.{state}
use Rattle.space_sql_schema.specs.Spelling.{Spells}
use Rattle.space_sql_select.specs.Selecting.{Answers}
use Rattle.space_sql_select.proofs.Readings.{alive_judged, reads_spelt}
use Rattle.space_sql_lookup.specs.Texts.{serial_read}
use Rattle.space_sql_lookup.proofs.Serials.{serial_select, serial_told}
use Rattle.space_sql_lookup.proofs.serial.read_serial.Goals as goal

pub select-requires-clause-select : goal.select-requires-clause-select
select-requires-clause-select g c = serial_select

pub returns-clause-reads : goal.returns-clause-reads
returns-clause-reads g c =
    let old = state g.S.Store c.args.conn.now in
    let new = state g.S.Store c.select.new.conn in
    reads_spelt (λ db n. (a : _) → Spells db a → n ≡ a.serial) (λ a n. n ≡ a.serial) old new c.serial_in.result (λ db n p a s. p a s)
    (alive_judged (λ db rows. Answers serial_read [] db rows.items) (λ db n. (a : _) → Spells db a → n ≡ a.serial) old new c.in_ok-rows.rows c.serial_in.result
    (λ db has h. serial_told db c.serial_in.result c.in_ok-rows.rows.items c.as_slice.result.now c.as_slice.ensures.value c.serial_in.ensures (λ is. h)) c.in_ok-rows.ensures.reads)
