use Rattle.std.proofs.Common.{◌≡◌, to_z, of_z, w64, rules}
use Rattle.sqlite.specs.Effect.{IsDatabase}
use Rattle.sqlite.specs.Held.{state}
use Rattle.space_sql_select.proofs.Readings.{reads_then}
use Rattle.space_sql_load.specs.Gathering.{ListsSubs, Subs, subs_of}
use Rattle.space_sql_check.specs.declared.source.Source.TheVariants.{Subscriptions, SubCells}
use Rattle.space_sql_check.specs.Parts.{FindsSubs, ShowsWithin, is_within}
use Rattle.space_sql_check.proofs.Sequences.{reads_so}
use Rattle.space_sql_check.proofs.SubParts.{subs_listed, none_listed}
use Rattle.space_sql_check.proofs.subscriptions.subs_within.Goals as goal

pub returns-in-Some-clause-reads : goal.returns-in-Some-clause-reads
returns-in-Some-clause-reads g c =
    let over = c.args.over in
    let end = c.args.end in
    let serial = c.args.serial in
    let lo : to_z w64 (of_z w64 over) ≡ over = search rules in
    let hi : to_z w64 (of_z w64 end) ≡ end = search rules in
    let a = state g.S.Store c.args.tx.now.conn.now in
    let b = state g.S.Store c.query_within.new.tx.conn.now in
    let d = state g.S.Store c.query_within-2.new.tx.conn.now in
    let heads = c.in_ok-query_within.field-0 in
    let cells = c.in_ok-query_within-2.field-0 in
    let listed : ListsSubs serial (record { subscriptions = heads; cells = cells }) (subs_of c.in-Some.known) = rw c.in-Some.is at c.in_ok-known.ensures.lists in
    reads_so _ (λ db o. IsDatabase db → FindsSubs serial (is_within over end) db o) a d cells _
    (λ db has h sound. subs_listed serial db over end (record { subscriptions = heads; cells = cells }) h.0 h.1 (subs_of c.in-Some.known) listed)
    (reads_then (λ db rows. ShowsWithin over end Subscriptions db rows.items) (λ db rows. ShowsWithin over end SubCells db rows.items) a b d heads _ (rw (lo, hi) at c.in_ok-query_within.ensures.reads) (rw (lo, hi) at c.in_ok-query_within-2.ensures.reads))

pub returns-clause-reads : goal.returns-clause-reads
returns-clause-reads g c =
    let over = c.args.over in
    let end = c.args.end in
    let serial = c.args.serial in
    let lo : to_z w64 (of_z w64 over) ≡ over = search rules in
    let hi : to_z w64 (of_z w64 end) ≡ end = search rules in
    let a = state g.S.Store c.args.tx.now.conn.now in
    let b = state g.S.Store c.query_within.new.tx.conn.now in
    let d = state g.S.Store c.query_within-2.new.tx.conn.now in
    let heads = c.in_ok-query_within.field-0 in
    let cells = c.in_ok-query_within-2.field-0 in
    let none : (x : Subs) → ¬ ListsSubs serial (record { subscriptions = heads; cells = cells }) x = rw c.in-None.is at c.in_ok-known.ensures.lists in
    reads_so _ (λ db o. IsDatabase db → FindsSubs serial (is_within over end) db o) a d cells _
    (λ db has h sound. none_listed serial db over end (record { subscriptions = heads; cells = cells }) h.0 h.1 has sound none)
    (reads_then (λ db rows. ShowsWithin over end Subscriptions db rows.items) (λ db rows. ShowsWithin over end SubCells db rows.items) a b d heads _ (rw (lo, hi) at c.in_ok-query_within.ensures.reads) (rw (lo, hi) at c.in_ok-query_within-2.ensures.reads))
