use Rattle.std.proofs.Common.{◌≡◌, ◌∙◌, ◌↔◌, ℤ, true, false, IsTrue, Ok, refl, ap, subst, sym, to_z, of_z, w64, rules, arith}
use Rattle.std.proofs.lemmas.Int.{ints}
use Rattle.sqlite.specs.Held.{state}
use Rattle.space_sql_select.proofs.Readings.{reads_then}
use Rattle.space_sql_lookup.proofs.Still.{reads_still}
use Rattle.space_sql_check.specs.Parts.{AreIdsApart, HasNoneOutside, ShowsWithin, is_within, least, greatest}
use Rattle.space_sql_check.proofs.Rowids.{AreIdsIn}
use Rattle.space_sql_check.proofs.Loops.{ids_begun, ids_more, ids_fail, ids_all}
use Rattle.space_sql_check.proofs.Sequences.{reads_so}
use Rattle.space_sql_check.proofs.ids.are_ids_apart.Goals as goal

pub loop-init : goal.loop-init
loop-init g c = record {
  same_reference = refl;
  low = omega (arith, ints);
  so_far = reads_still (λ db _. AreIdsIn (is_within least least) c.args.source db) (state g.S.Store c.args.tx.now.conn.now) tt (λ db. ids_begun c.args.source db least);
}

pub loop-preserved : goal.loop-preserved
loop-preserved g c =
    let over = to_z w64 c.loop.over-bits in
    let end = c.in_ok-end.end in
    let s = c.args.source in
    let own : to_z w64 (of_z w64 end) ≡ end = search rules in
    let a = state g.S.Store c.args.tx.now.conn.now in
    let b = state g.S.Store c.loop.tx.conn.now in
    let e = state g.S.Store c.piece_end.new.tx.conn.now in
    let d = state g.S.Store c.query_within.new.tx.conn.now in
    let rows = c.in_ok-rows.rows in
    let low = c.loop.invariant.low in
    let later = c.in_ok-end.ensures.later in
    rw own (record {
      same_reference = c.in_ok-rows.ensures.same_reference ∙ (c.in_ok-end.ensures.same_reference ∙ c.loop.invariant.same_reference);
      low = omega (arith, ints, low, later);
      so_far = reads_so _ (λ db _. AreIdsIn (is_within least end) s db) a d rows (Ok tt)
          (λ db has h. ids_more s c.requires db least over end rows.items c.as_slice.result.now c.in_ok-are_rising.field-0 low later c.if-not-branch.false c.in_ok-are_rising.ensures.0 c.as_slice.ensures.value h.1 h.0.0)
          (reads_then _ (λ db rows. ShowsWithin over end s db rows.items) a e d end _ (reads_then _ (λ _ _. Unit {0}) a b e tt _ c.loop.invariant.so_far c.in_ok-end.ensures.reads) (rw own at c.in_ok-rows.ensures.reads));
    })

pub returns-then-not-branch-clause-reads : goal.returns-then-not-branch-clause-reads
returns-then-not-branch-clause-reads g c =
    let over = to_z w64 c.loop.over-bits in
    let end = c.in_ok-end.end in
    let s = c.args.source in
    let own : to_z w64 (of_z w64 end) ≡ end = search rules in
    let a = state g.S.Store c.args.tx.now.conn.now in
    let b = state g.S.Store c.loop.tx.conn.now in
    let e = state g.S.Store c.piece_end.new.tx.conn.now in
    let d = state g.S.Store c.query_within.new.tx.conn.now in
    let rows = c.in_ok-rows.rows in
    reads_so _ (λ db b. IsTrue b ↔ AreIdsApart s db) a d rows (Ok false)
    (λ db has h. ids_fail s c.requires db over end rows.items c.as_slice.result.now c.in_ok-are_rising.field-0 c.if-not-branch.true c.in_ok-are_rising.ensures.1 c.as_slice.ensures.value h.1)
    (reads_then _ (λ db rows. ShowsWithin over end s db rows.items) a e d end _ (reads_then _ (λ _ _. Unit {0}) a b e tt _ c.loop.invariant.so_far c.in_ok-end.ensures.reads) (rw own at c.in_ok-rows.ensures.reads))

pub returns-then-end-eq9223372036854775807-clause-reads : goal.returns-then-end-eq9223372036854775807-clause-reads
returns-then-end-eq9223372036854775807-clause-reads g c =
    let over = to_z w64 c.loop.over-bits in
    let end = c.in_ok-end.end in
    let s = c.args.source in
    let own : to_z w64 (of_z w64 end) ≡ end = search rules in
    let last : end ≡ greatest = sym own ∙ ap (to_z w64) c.if-end-eq9223372036854775807.true in
    let a = state g.S.Store c.args.tx.now.conn.now in
    let b = state g.S.Store c.loop.tx.conn.now in
    let e = state g.S.Store c.piece_end.new.tx.conn.now in
    let d = state g.S.Store c.query_within.new.tx.conn.now in
    let f = state g.S.Store c.check_none_outside.new.tx.conn.now in
    let rows = c.in_ok-rows.rows in
    let low = c.loop.invariant.low in
    let later = c.in_ok-end.ensures.later in
    reads_so _ (λ db b. IsTrue b ↔ AreIdsApart s db) a f tt (Ok true)
    (λ db has h. ids_all s c.requires db h.1 (subst (λ (n : ℤ). AreIdsIn (is_within least n) s db) last
    (ids_more s c.requires db least over end rows.items c.as_slice.result.now c.in_ok-are_rising.field-0 low later c.if-not-branch.false c.in_ok-are_rising.ensures.0 c.as_slice.ensures.value h.0.1 h.0.0.0)))
    (reads_then _ (λ db _. HasNoneOutside s db) a d f rows _ (reads_then _ (λ db rows. ShowsWithin over end s db rows.items) a e d end _ (reads_then _ (λ _ _. Unit {0}) a b e tt _ c.loop.invariant.so_far c.in_ok-end.ensures.reads) (rw own at c.in_ok-rows.ensures.reads)) c.in_ok-check_none_outside.ensures.reads)
