use Rattle.std.proofs.Common.{◌-◌, sym}
use Rattle.std.proofs.lemmas.Bool.{eqb-true}
use Rattle.pool_entry.specs.Reading.{calls_at}
use Rattle.pool_entry.proofs.Loop.{nonempty, goes_on, ends, is_done, is_over}
use Rattle.pool_entry.proofs.read.calls_at.Goals as goal

pub returns-then-is_empty : goal.returns-then-is_empty
returns-then-is_empty c =
    is_done c.loop-index.calls.items (64 - c.loop-index.index) c.loop-index.index c.loop-index.rest.now (calls_at 64 0 c.args.bytes.now)
    (eqb-true _ _ (sym c.if-is_empty.ensures)) c.loop-index.invariant

pub returns-in-Err : goal.returns-in-Err
returns-in-Err c =
    ends c.in-Err.e c.loop-index.calls.items c.loop-index.index c.loop-index.rest.now (calls_at 64 0 c.args.bytes.now)
    c.loop-index-test.true (nonempty _ (sym c.if-is_empty.ensures)) c.in-Err.ensures c.loop-index.invariant

pub loop-index-preserved : goal.loop-index-preserved
loop-index-preserved c =
    rw c.in_ok-push.ensures.items
    (goes_on c.loop-index.calls.items c.loop-index.index c.loop-index.rest.now c.in-Ok.found.0 c.in-Ok.found.1.now (calls_at 64 0 c.args.bytes.now)
    c.loop-index-test.true (nonempty _ (sym c.if-is_empty.ensures)) c.in-Ok.ensures c.loop-index.invariant)

pub returns-then-not-is_empty : goal.returns-then-not-is_empty
returns-then-not-is_empty c =
    is_over c.loop-index.calls.items c.loop-index.index c.loop-index.rest.now (calls_at 64 0 c.args.bytes.now)
    c.loop-index-test.false (nonempty _ (sym c.if-not-is_empty.ensures)) c.loop-index.invariant

pub returns : goal.returns
returns c =
    is_done c.loop-index.calls.items (64 - c.loop-index.index) c.loop-index.index c.loop-index.rest.now (calls_at 64 0 c.args.bytes.now)
    (eqb-true _ _ (sym c.if-not-is_empty.ensures)) c.loop-index.invariant
