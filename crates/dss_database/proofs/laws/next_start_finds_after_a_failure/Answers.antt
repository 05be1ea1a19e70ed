use Rattle.dss_database.proofs.Serving as served
use Rattle.dss_database.proofs.laws.next_start_finds_after_a_failure.Goals as goal

pub returns : goal.returns
returns g c = λ before after setup keep watch opened clock clock' past now failure finds it are.
    served.next_start_finds_left _ _ g.M.Moments g.W.TokenSource _ c.closed_run_in_batches_continues.ensures c.run_in_batches_continues.ensures before after setup keep watch opened clock clock' past now failure finds it are
