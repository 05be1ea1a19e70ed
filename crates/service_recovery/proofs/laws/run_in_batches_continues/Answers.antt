use Rattle.service_recovery.proofs.Grouping.{bounded_over}
use Rattle.service_recovery.proofs.InBatches.{served}
use Rattle.service_recovery.proofs.laws.run_in_batches_continues.Goals as goal

pub returns : goal.returns
returns g c = λ before after run last left clean may.
    served _ (bounded_over _ _ _) c.some_is_held.ensures c.open_segment_of_tables.ensures before run.old run.purged run.mid run.new run.segments run.batches run.calls run.starts run.segments_made run.batches_made run.calls_made run.sound after last left clean may
