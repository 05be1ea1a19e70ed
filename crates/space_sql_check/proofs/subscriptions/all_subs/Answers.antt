use Rattle.std.proofs.Common.{◌≡◌, ◌∙◌, ◌++◌, ℤ, Some, None, Ok, arith, refl, ap, subst, sym, to_z, of_z, w64, rules}
use Rattle.std.proofs.lemmas.Int.{ints}
use Rattle.sqlite.specs.Effect.{IsDatabase}
use Rattle.sqlite.specs.Held.{state}
use Rattle.space_sql_select.proofs.Readings.{reads_then}
use Rattle.space_sql_lookup.proofs.Still.{reads_still}
use Rattle.space_sql_check.specs.Parts.{FindsSubs, HasSubs, HasNoOtherSubs, any_value, is_within, least, greatest}
use Rattle.space_sql_check.proofs.Loops.{subs_begun, subs_more, subs_all}
use Rattle.space_sql_check.proofs.Parting.{subs_part}
use Rattle.space_sql_check.proofs.Sequences.{reads_so, reads_stopped}
use Rattle.space_sql_check.proofs.subscriptions.all_subs.Goals as goal

pub loop-init : goal.loop-init
loop-init g c = record {
  same_reference = refl;
  low = omega (arith, ints);
  so_far = reads_still (λ db _. IsDatabase db → HasSubs c.args.serial (is_within least least) db c.new-numbers.result.items) (state g.S.Store c.args.tx.now.conn.now) tt (λ db sound. subs_begun c.args.serial db least c.new-numbers.result.items c.new-numbers.ensures.items);
}

pub loop-preserved : goal.loop-preserved
loop-preserved g c =
    let over = to_z w64 c.loop.over-bits in
    let end = c.in_ok-end.end in
    let serial = c.args.serial in
    let own : to_z w64 (of_z w64 end) ≡ end = search rules in
    let a = state g.S.Store c.args.tx.now.conn.now in
    let b = state g.S.Store c.loop.tx.conn.now in
    let e = state g.S.Store c.piece_end.new.tx.conn.now in
    let d = state g.S.Store c.subs_within.new.tx.conn.now in
    let more = c.in-Some.more in
    let low = c.loop.invariant.low in
    let later = c.in_ok-end.ensures.later in
    let after = c.extend_from_slice.new.self.items in
    let items : after ≡ c.loop.numbers.items ++ more.items = c.in_ok-extend_from_slice.ensures.items ∙ ap (λ l. c.loop.numbers.items ++ l) c.as_slice.ensures.value in
    let so_far = reads_then _ (λ db o. IsDatabase db → FindsSubs serial (is_within over end) db o) a e d end _ (reads_then _ (λ _ _. Unit {0}) a b e tt _ c.loop.invariant.so_far c.in_ok-end.ensures.reads) (rw own at c.in_ok-more.ensures.reads) in
    rw own (record {
      same_reference = c.in_ok-more.ensures.same_reference ∙ (c.in_ok-end.ensures.same_reference ∙ c.loop.invariant.same_reference);
      low = omega (arith, ints, low, later);
      so_far = reads_so _ (λ db _. IsDatabase db → HasSubs serial (is_within least end) db after) a d c.in_ok-more.field-0 (Ok tt)
          (λ db has h sound. subs_more serial db least over end c.loop.numbers.items more.items after low later items (h.0.0 sound) (subst (λ o. FindsSubs serial (is_within over end) db o) c.in-Some.is (h.1 sound))) so_far;
    })

pub returns-in_default-clause-reads : goal.returns-in_default-clause-reads
returns-in_default-clause-reads g c =
    let over = to_z w64 c.loop.over-bits in
    let end = c.in_ok-end.end in
    let serial = c.args.serial in
    let own : to_z w64 (of_z w64 end) ≡ end = search rules in
    let a = state g.S.Store c.args.tx.now.conn.now in
    let b = state g.S.Store c.loop.tx.conn.now in
    let e = state g.S.Store c.piece_end.new.tx.conn.now in
    let d = state g.S.Store c.subs_within.new.tx.conn.now in
    reads_so _ (λ db o. IsDatabase db → FindsSubs serial any_value db o) a d c.in_ok-more.field-0 (Ok None)
    (λ db has h sound subs p. (subst (λ o. FindsSubs serial (is_within over end) db o) c.in_default.is (h.1 sound)) _ (subs_part serial db (is_within over end) subs p))
    (reads_then _ (λ db o. IsDatabase db → FindsSubs serial (is_within over end) db o) a e d end _ (reads_then _ (λ _ _. Unit {0}) a b e tt _ c.loop.invariant.so_far c.in_ok-end.ensures.reads) (rw own at c.in_ok-more.ensures.reads))

pub returns-then-end-eq9223372036854775807-clause-reads : goal.returns-then-end-eq9223372036854775807-clause-reads
returns-then-end-eq9223372036854775807-clause-reads g c =
    let over = to_z w64 c.loop.over-bits in
    let end = c.in_ok-end.end in
    let serial = c.args.serial in
    let own : to_z w64 (of_z w64 end) ≡ end = search rules in
    let last : end ≡ greatest = sym own ∙ ap (to_z w64) c.if-end-eq9223372036854775807.true in
    let a = state g.S.Store c.args.tx.now.conn.now in
    let b = state g.S.Store c.loop.tx.conn.now in
    let e = state g.S.Store c.piece_end.new.tx.conn.now in
    let d = state g.S.Store c.subs_within.new.tx.conn.now in
    let f = state g.S.Store c.check_none_else.new.tx.conn.now in
    let more = c.in-Some.more in
    let low = c.loop.invariant.low in
    let later = c.in_ok-end.ensures.later in
    let after = c.extend_from_slice.new.self in
    let items : after.items ≡ c.loop.numbers.items ++ more.items = c.in_ok-extend_from_slice.ensures.items ∙ ap (λ l. c.loop.numbers.items ++ l) c.as_slice.ensures.value in
    let so_far = reads_then _ (λ db o. IsDatabase db → FindsSubs serial (is_within over end) db o) a e d end _ (reads_then _ (λ _ _. Unit {0}) a b e tt _ c.loop.invariant.so_far c.in_ok-end.ensures.reads) (rw own at c.in_ok-more.ensures.reads) in
    reads_so _ (λ db o. IsDatabase db → FindsSubs serial any_value db o) a f tt (Ok (Some after))
    (λ db has h sound. subs_all serial db after.items h.1 (subst (λ (n : ℤ). HasSubs serial (is_within least n) db after.items) last
    (subs_more serial db least over end c.loop.numbers.items more.items after.items low later items (h.0.0.0 sound) (subst (λ o. FindsSubs serial (is_within over end) db o) c.in-Some.is (h.0.1 sound)))))
    (reads_then _ (λ db _. HasNoOtherSubs db) a d f c.in_ok-more.field-0 _ so_far c.in_ok-check_none_else.ensures.reads)

pub returns-in_err-check_none_else-clause-reads : goal.returns-in_err-check_none_else-clause-reads
returns-in_err-check_none_else-clause-reads g c =
    let over = to_z w64 c.loop.over-bits in
    let end = c.in_ok-end.end in
    let serial = c.args.serial in
    let own : to_z w64 (of_z w64 end) ≡ end = search rules in
    let a = state g.S.Store c.args.tx.now.conn.now in
    let b = state g.S.Store c.loop.tx.conn.now in
    let e = state g.S.Store c.piece_end.new.tx.conn.now in
    let d = state g.S.Store c.subs_within.new.tx.conn.now in
    let f = state g.S.Store c.check_none_else.new.tx.conn.now in
    let so_far = reads_then _ (λ db o. IsDatabase db → FindsSubs serial (is_within over end) db o) a e d end _ (reads_then _ (λ _ _. Unit {0}) a b e tt _ c.loop.invariant.so_far c.in_ok-end.ensures.reads) (rw own at c.in_ok-more.ensures.reads) in
    reads_stopped _ (λ db o. IsDatabase db → FindsSubs serial any_value db o) a f c.in_err-check_none_else.field-0.0 c.from_residual-in_err-check_none_else.result c.from_residual-in_err-check_none_else.ensures.0
    (reads_then _ (λ db _. HasNoOtherSubs db) a d f c.in_ok-more.field-0 _ so_far c.in_err-check_none_else.ensures.reads)
