use Rattle.pool_instance.proofs.Places.{set_told}
use Rattle.pool_instance.proofs.requests.note_end.Goals as goal

pub loop-reading-preserved : goal.loop-reading-preserved
loop-reading-preserved c =
    set_told c.args.question c.args.count c.args.readings.now c.loop-reading.readings c.loop-reading.reading-index c.reading-item.result c.stage_after-reading.result
    c.loop-reading-test.true c.loop-reading.invariant c.reading-item.is c.stage_after-reading.ensures
