use Rattle.std.proofs.Common.{Ok, subst}
use Rattle.std.specs.Prelude.{IfSome}
use Rattle.sqlite.specs.Held.{state}
use Rattle.space_sql_load.specs.Checking.{JudgesDatabase}
use Rattle.space_sql_select.proofs.Readings.{alive_judged}
use Rattle.space_sql_check.specs.Checking.{JudgesAirspace, JudgesPieces}
use Rattle.space_sql_check.proofs.Sequences.{alive_then}
use Rattle.space_sql_check.proofs.airspace.check_airspace.Goals as goal

pub returns-in-Some-clause-reads : goal.returns-in-Some-clause-reads
returns-in-Some-clause-reads g c =
    let a = state g.S.Store c.args.conn.now in
    let b = state g.S.Store c.check_at_once.new.conn in
    alive_judged (λ db o. IfSome o (JudgesDatabase db)) JudgesAirspace a b c.in_ok-check.field-0 (Ok c.of_whole.result)
    (λ db has h. c.of_whole.ensures db (subst (λ o. IfSome o (JudgesDatabase db)) c.in-Some.is h)) c.in_ok-check.ensures.reads

pub returns-in_ok-verdict-in-None-clause-reads : goal.returns-in_ok-verdict-in-None-clause-reads
returns-in_ok-verdict-in-None-clause-reads g c =
    let a = state g.S.Store c.args.conn.now in
    let b = state g.S.Store c.check_at_once.new.conn in
    let d = state g.S.Store c.check_in_pieces.new.conn in
    alive_judged JudgesPieces JudgesAirspace a d c.in_ok-verdict-in-None.verdict (Ok c.of_pieces.result) (λ db has h. c.of_pieces.ensures db h)
    (alive_then (λ db o. IfSome o (JudgesDatabase db)) JudgesPieces a b d c.in_ok-check.field-0 _ c.in_ok-check.ensures.reads c.in_ok-verdict-in-None.ensures.reads)
