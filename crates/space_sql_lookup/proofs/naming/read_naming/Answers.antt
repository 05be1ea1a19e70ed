use Rattle.std.proofs.Common.{◌≡◌, ◌∙◌, None, Some, to_z, of_z, to_z-of_z, w64, rules}
use Rattle.sqlite.specs.Held.{state}
use Rattle.space_sql_select.proofs.Readings.{reads_as, reads_then}
use Rattle.space_sql_lookup.specs.Naming.{AnswersNaming, AnswersSubId, FindsNaming}
use Rattle.space_sql_lookup.proofs.Namings.{naming_told, no_naming_told}
use Rattle.space_sql_lookup.proofs.naming.read_naming.Goals as goal

pub returns-in_default-clause-reads : goal.returns-in_default-clause-reads
returns-in_default-clause-reads g c =
    let num = c.args.num in
    reads_as (λ db rows. AnswersNaming num db rows.items) (FindsNaming num) (state g.S.Store c.args.tx.now.conn.now) (state g.S.Store c.query_naming.new.tx.conn.now) c.in_ok-rows.rows None
    (λ db h. no_naming_told c.in_ok-rows.rows.items c.in_ok-sub.field-0 (λ e. c.in_ok-sub.ensures.none (c.as_slice.ensures.value ∙ e)) (λ n e. c.in_ok-sub.ensures.one n (c.as_slice.ensures.value ∙ e)) c.in_default.is num db h) (rw (to_z-of_z c.ranges.num) at c.in_ok-rows.ensures.reads)

pub returns-clause-reads : goal.returns-clause-reads
returns-clause-reads g c =
    let num = c.args.num in
    let sub = c.in-Some.sub in
    let n : to_z w64 (of_z w64 sub) ≡ sub = search rules in
    let rows = c.in_ok-rows.rows in
    let ids = c.in_ok-ids.ids in
    let a = state g.S.Store c.args.tx.now.conn.now in
    let b = state g.S.Store c.query_naming.new.tx.conn.now in
    let d = state g.S.Store c.query_sub_id.new.tx.conn.now in
    reads_as _ (FindsNaming num) a d ids (Some c.in_ok-id.id)
    (λ db h. naming_told rows.items c.in_ok-sub.field-0 (λ e. c.in_ok-sub.ensures.none (c.as_slice.ensures.value ∙ e)) (λ n e. c.in_ok-sub.ensures.one n (c.as_slice.ensures.value ∙ e)) sub c.in-Some.is ids.items c.in_ok-id.id (λ n fits e. c.in_ok-id.ensures n fits (c.as_slice-2.ensures.value ∙ e)) num db h.0 h.1)
    (reads_then (λ db rows. AnswersNaming num db rows.items) (λ db rows. AnswersSubId sub db rows.items) a b d rows _ (rw (to_z-of_z c.ranges.num) at c.in_ok-rows.ensures.reads) (rw n at c.in_ok-ids.ensures.reads))
