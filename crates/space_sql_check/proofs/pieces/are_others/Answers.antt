use Rattle.std.proofs.Common.{◌↔◌, IsTrue}
use Rattle.sqlite.specs.Held.{state}
use Rattle.space_sql_select.proofs.Readings.{reads_then}
use Rattle.space_sql_lookup.proofs.Still.{reads_weaker}
use Rattle.space_sql_check.specs.Parts.{AreAllIdsApart}
use Rattle.space_sql_check.specs.Checking.{HasOthers}
use Rattle.space_sql_check.proofs.pieces.are_others.Goals as goal

pub returns-clause-reads : goal.returns-clause-reads
returns-clause-reads g c =
    let a = state g.S.Store c.args.tx.now.conn.now in
    let b = state g.S.Store c.are_settings.new.tx.conn.now in
    let d = state g.S.Store c.are_all_ids_apart.new.tx.conn.now in
    reads_weaker _ (λ db b. IsTrue b ↔ HasOthers db) a d _
    (λ db b h. ((λ yes. record { settings = h.0.0 c.if-not-branch.false; apart = h.1.0 yes }), (λ o. h.1.1 o.apart)))
    (reads_then _ (λ db b. IsTrue b ↔ AreAllIdsApart db) a b d c.in_ok-are_settings.field-0 _ c.in_ok-are_settings.ensures.reads c.are_all_ids_apart.ensures.reads)
