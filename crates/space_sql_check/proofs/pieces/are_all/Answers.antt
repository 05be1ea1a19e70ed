use Rattle.std.proofs.Common.{◌↔◌, IsTrue}
use Rattle.sqlite.specs.Effect.{IsDatabase}
use Rattle.sqlite.specs.Held.{state}
use Rattle.space_sql_select.proofs.Readings.{reads_then}
use Rattle.space_sql_lookup.proofs.Still.{reads_weaker}
use Rattle.space_sql_check.specs.Checking.{HasAll, HasOthers}
use Rattle.space_sql_check.proofs.pieces.are_all.Goals as goal

pub returns-clause-reads : goal.returns-clause-reads
returns-clause-reads g c =
    let a = state g.S.Store c.args.tx.now.conn.now in
    let b = state g.S.Store c.are_items.new.tx.conn.now in
    let d = state g.S.Store c.are_others.new.tx.conn.now in
    reads_weaker _ (λ db b. IsDatabase db → IsTrue b ↔ HasAll c.args.serial db) a d _
    (λ db b h sound. ((λ yes. record { items = (h.0 sound).0 c.if-not-branch.false; others = h.1.0 yes }), (λ all. h.1.1 all.others)))
    (reads_then _ (λ db b. IsTrue b ↔ HasOthers db) a b d c.in_ok-are_items.field-0 _ c.in_ok-are_items.ensures.reads c.are_others.ensures.reads)
