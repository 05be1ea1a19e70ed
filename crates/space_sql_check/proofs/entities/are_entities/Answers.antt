use Rattle.std.proofs.Common.{◌≡◌, ◌∙◌, ◌↔◌, ℤ, List, true, false, IsTrue, Ok, refl, ap, subst, sym, to_z, of_z, w64, rules, arith}
use Rattle.std.proofs.lemmas.Int.{ints}
use Rattle.sqlite.specs.Effect.{IsDatabase}
use Rattle.sqlite.specs.Held.{state}
use Rattle.space_sql_schema.specs.Spelling.{SubGroup}
use Rattle.space_sql_select.proofs.Readings.{reads_then}
use Rattle.space_sql_lookup.proofs.Still.{reads_still}
use Rattle.space_sql_check.specs.Parts.{AreNumbered, HasEntities, HasNoOtherEntities, any_value, is_within, least, greatest}
use Rattle.space_sql_check.proofs.Loops.{entities_begun, entities_more, entities_fail, entities_all}
use Rattle.space_sql_check.proofs.Sequences.{reads_so}
use Rattle.space_sql_check.proofs.entities.are_entities.Goals as goal

pub loop-init : goal.loop-init
loop-init g c = record {
  same_reference = refl;
  low = omega (arith, ints);
  so_far = reads_still (λ db _. IsDatabase db → (subs : List SubGroup) → AreNumbered subs c.args.numbers.now → HasEntities c.args.serial subs (is_within least least) db) (state g.S.Store c.args.tx.now.conn.now) tt (λ db sound subs numbered. entities_begun c.args.serial subs db least);
}

pub loop-preserved : goal.loop-preserved
loop-preserved g c =
    let over = to_z w64 c.loop.over-bits in
    let end = c.in_ok-end.end in
    let serial = c.args.serial in
    let own : to_z w64 (of_z w64 end) ≡ end = search rules in
    let a = state g.S.Store c.args.tx.now.conn.now in
    let b = state g.S.Store c.loop.tx.conn.now in
    let e = state g.S.Store c.piece_end.new.tx.conn.now in
    let d = state g.S.Store c.are_entities_within.new.tx.conn.now in
    let low = c.loop.invariant.low in
    let later = c.in_ok-end.ensures.later in
    let right = c.in_ok-are_entities_within.field-0 in
    rw own (record {
      same_reference = c.in_ok-are_entities_within.ensures.same_reference ∙ (c.in_ok-end.ensures.same_reference ∙ c.loop.invariant.same_reference);
      low = omega (arith, ints, low, later);
      so_far = reads_so _ (λ db _. IsDatabase db → (subs : List SubGroup) → AreNumbered subs c.args.numbers.now → HasEntities serial subs (is_within least end) db) a d right (Ok tt)
          (λ db has h sound subs numbered. entities_more serial subs db least over end right low later c.if-not-branch.false (h.1 sound subs numbered) (h.0.0 sound subs numbered))
          (reads_then _ (λ db b. IsDatabase db → (subs : List SubGroup) → AreNumbered subs c.args.numbers.now → IsTrue b ↔ HasEntities serial subs (is_within over end) db) a e d end _ (reads_then _ (λ _ _. Unit {0}) a b e tt _ c.loop.invariant.so_far c.in_ok-end.ensures.reads) (rw own at c.in_ok-are_entities_within.ensures.reads));
    })

pub returns-then-not-branch-clause-reads : goal.returns-then-not-branch-clause-reads
returns-then-not-branch-clause-reads g c =
    let over = to_z w64 c.loop.over-bits in
    let end = c.in_ok-end.end in
    let serial = c.args.serial in
    let own : to_z w64 (of_z w64 end) ≡ end = search rules in
    let a = state g.S.Store c.args.tx.now.conn.now in
    let b = state g.S.Store c.loop.tx.conn.now in
    let e = state g.S.Store c.piece_end.new.tx.conn.now in
    let d = state g.S.Store c.are_entities_within.new.tx.conn.now in
    let right = c.in_ok-are_entities_within.field-0 in
    reads_so _ (λ db b. IsDatabase db → (subs : List SubGroup) → AreNumbered subs c.args.numbers.now → IsTrue b ↔ HasEntities serial subs any_value db) a d right (Ok false)
    (λ db has h sound subs numbered. entities_fail serial subs db over end right c.if-not-branch.true (h.1 sound subs numbered))
    (reads_then _ (λ db b. IsDatabase db → (subs : List SubGroup) → AreNumbered subs c.args.numbers.now → IsTrue b ↔ HasEntities serial subs (is_within over end) db) a e d end _ (reads_then _ (λ _ _. Unit {0}) a b e tt _ c.loop.invariant.so_far c.in_ok-end.ensures.reads) (rw own at c.in_ok-are_entities_within.ensures.reads))

pub returns-then-end-eq9223372036854775807-clause-reads : goal.returns-then-end-eq9223372036854775807-clause-reads
returns-then-end-eq9223372036854775807-clause-reads g c =
    let over = to_z w64 c.loop.over-bits in
    let end = c.in_ok-end.end in
    let serial = c.args.serial in
    let own : to_z w64 (of_z w64 end) ≡ end = search rules in
    let last : end ≡ greatest = sym own ∙ ap (to_z w64) c.if-end-eq9223372036854775807.true in
    let a = state g.S.Store c.args.tx.now.conn.now in
    let b = state g.S.Store c.loop.tx.conn.now in
    let e = state g.S.Store c.piece_end.new.tx.conn.now in
    let d = state g.S.Store c.are_entities_within.new.tx.conn.now in
    let f = state g.S.Store c.check_none_else.new.tx.conn.now in
    let low = c.loop.invariant.low in
    let later = c.in_ok-end.ensures.later in
    let right = c.in_ok-are_entities_within.field-0 in
    reads_so _ (λ db b. IsDatabase db → (subs : List SubGroup) → AreNumbered subs c.args.numbers.now → IsTrue b ↔ HasEntities serial subs any_value db) a f tt (Ok true)
    (λ db has h sound subs numbered. entities_all serial subs db h.1 (subst (λ (n : ℤ). HasEntities serial subs (is_within least n) db) last (entities_more serial subs db least over end right low later c.if-not-branch.false (h.0.1 sound subs numbered) (h.0.0.0 sound subs numbered))))
    (reads_then _ (λ db _. HasNoOtherEntities db) a d f right _ (reads_then _ (λ db b. IsDatabase db → (subs : List SubGroup) → AreNumbered subs c.args.numbers.now → IsTrue b ↔ HasEntities serial subs (is_within over end) db) a e d end _ (reads_then _ (λ _ _. Unit {0}) a b e tt _ c.loop.invariant.so_far c.in_ok-end.ensures.reads) (rw own at c.in_ok-are_entities_within.ensures.reads)) c.in_ok-check_none_else.ensures.reads)
