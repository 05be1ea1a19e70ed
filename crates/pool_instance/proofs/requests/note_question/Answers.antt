use Rattle.pool_instance.proofs.Places.{set_asked}
use Rattle.pool_instance.proofs.requests.note_question.Goals as goal

pub loop-reading-preserved : goal.loop-reading-preserved
loop-reading-preserved c =
    set_asked c.args.in_flight c.args.question c.args.readings.now c.loop-reading.readings c.loop-reading.reading-index c.reading-item.result c.asked_stage-reading.result
    c.loop-reading-test.true c.loop-reading.invariant c.reading-item.is c.asked_stage-reading.ensures
