-- Acknowledged changes are kept.
use Rattle.std.specs.Prelude.{◌≡◌, true, List, Ok}
use Rattle.std.specs.List.{AllByRecursion}
use Rattle.service_calls.specs.Batches.{Batch, batch_stops}
use Rattle.service_calls.specs.Purged.{Segment}

-- Holds if a batch that delivered `Stopped` was not committed. Its pending changes may be lost, and
-- none of them got the reply `Done`.
abbrev pub FailsIfStopped : Batch → Type 0
FailsIfStopped batch = batch_stops batch ≡ true → batch.settled ≡ Ok tt → ⊥

-- Holds if no batch that delivered `Stopped` was committed. Then each change with the reply `Done`
-- counts in the airspace that follows from these batches.
pub record AreKept (segments : List Segment) (batches : List Batch) : Type 0 where
  pub before : AllByRecursion (λ segment. AllByRecursion FailsIfStopped segment.batches) segments
  pub after : AllByRecursion FailsIfStopped batches
