use Rattle.std.specs.Prelude.{◌<◌, ℕ, get_or}
use Rattle.admin_http.specs.Durations.{bounds}
use Rattle.admin_http.proofs.durations.bucket_index.Given as goal

abbrev pub invariant-loop-place : goal.invariant-loop-place
invariant-loop-place l = (k : ℕ) → k < l.place → get_or bounds k 0 < l.time
