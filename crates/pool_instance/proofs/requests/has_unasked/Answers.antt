use Rattle.std.proofs.Common.{◌≡◌, ◌∙◌, false, List, subst, sym}
use Rattle.std.specs.Prelude.{All}
use Rattle.std.proofs.lemmas.List.{take_all}
use Rattle.std.proofs.lemmas.List.Elements.{All-more}
use Rattle.pool_instance.specs.Parts.{is_unasked}
use Rattle.pool_instance.specs.declared.waiting.Reading.{Reading}
use Rattle.pool_instance.proofs.requests.has_unasked.Goals as goal

pub loop-reading-preserved : goal.loop-reading-preserved
loop-reading-preserved c =
    All-more (λ (r : Reading). is_unasked c.args.in_flight r ≡ false) c.args.readings.now c.loop-reading.reading-index c.reading-item.result c.loop-reading-test.true c.loop-reading.invariant
    (subst (λ (v : Reading). is_unasked c.args.in_flight v ≡ false) c.reading-item.is (sym c.is_unasked.ensures ∙ c.if-is_unasked.false))

pub returns : goal.returns
returns c e =
    subst (λ (v : List Reading). All (λ (r : Reading). is_unasked c.args.in_flight r ≡ false) v) (take_all c.loop-reading.reading-index c.args.readings.now c.loop-reading-test.false) c.loop-reading.invariant
