use Rattle.std.proofs.Common.{◌≡◌, ◌∙◌, ◌<◌, ◌^◌, ℕ, ℤ, List, sym, subst, to_z, of_z, w64, rules}
use Rattle.sqlite.specs.Held.{state}
use Rattle.space_sql_select.proofs.Readings.{reads_as, reads_then}
use Rattle.space_sql_lookup.specs.Dependents.{AnswersSubNum, AnswersNamers, FindsIds, FindsDependents}
use Rattle.space_sql_lookup.proofs.Namers.{dependents_told, nothing_told}
use Rattle.space_sql_lookup.proofs.dependents.find_dependents.Goals as goal

pub returns-in_default-clause-reads : goal.returns-in_default-clause-reads
returns-in_default-clause-reads g c =
    let fits = subst (λ (n : ℕ). n < 2 ^ 128) c.number-number.ensures c.number-number.type_inv in
    let id = c.args.id in
    reads_as (λ db rows. AnswersSubNum id db rows.items) (λ db ids. FindsDependents id db ids.items) (state g.S.Store c.args.tx.now.conn.now) (state g.S.Store c.query_num.new.tx.conn.now) c.in_ok-nums.nums c.new.result
    (λ db h. subst (λ (l : List ℕ). FindsDependents id db l) (sym c.new.ensures.items) (nothing_told id fits c.in_ok-nums.nums.items c.in_ok-num.field-0 (λ e. c.in_ok-num.ensures.none (c.as_slice.ensures.value ∙ e)) (λ n e. c.in_ok-num.ensures.one n (c.as_slice.ensures.value ∙ e)) c.in_default.is db h)) c.in_ok-nums.ensures.reads

pub returns-clause-reads : goal.returns-clause-reads
returns-clause-reads g c =
    let fits = subst (λ (n : ℕ). n < 2 ^ 128) c.number-number.ensures c.number-number.type_inv in
    let id = c.args.id in
    let num = c.in-Some.num in
    let n : to_z w64 (of_z w64 num) ≡ num = search rules in
    let nums = c.in_ok-nums.nums in
    let namers = c.in_ok-namers.namers in
    let numbers = c.in_ok-numbers.numbers in
    let ids = c.in_ok-ids.ids in
    let sorted = c.sort_unstable.new.self in
    let a = state g.S.Store c.args.tx.now.conn.now in
    let b = state g.S.Store c.query_num.new.tx.conn.now in
    let d = state g.S.Store c.query_namers.new.tx.conn.now in
    let e = state g.S.Store c.read_ids.new.tx.conn.now in
    let first = reads_then (λ db rows. AnswersSubNum id db rows.items) (λ db rows. AnswersNamers num db rows.items) a b d nums _ c.in_ok-nums.ensures.reads (rw n at c.in_ok-namers.ensures.reads) in
    reads_as _ (λ db ids. FindsDependents id db ids.items) a e ids sorted
    (λ db h. dependents_told id fits nums.items c.in_ok-num.field-0 (λ e. c.in_ok-num.ensures.none (c.as_slice.ensures.value ∙ e)) (λ n e. c.in_ok-num.ensures.one n (c.as_slice.ensures.value ∙ e)) num c.in-Some.is namers.items numbers.items (sym c.as_slice-2.ensures.value ∙ c.in_ok-numbers.ensures) ids.items sorted.items c.sort_unstable.ensures.permutation c.sort_unstable.ensures.sorted
    db h.0.0 h.0.1 (subst (λ (l : List ℤ). FindsIds l db ids.items) c.as_slice-3.ensures.value h.1))
    (reads_then _ (λ db ids. FindsIds c.as_slice-3.result.now db ids.items) a d e namers _ first c.in_ok-ids.ensures.reads)
