use Rattle.std.proofs.Common.{◌≡◌, fold, take}
use Rattle.dss_command.specs.PurgeCounts.{with_one}
use Rattle.dss_command.proofs.purged.PurgeCounts.with.Given as goal

abbrev pub invariant-loop-one : goal.invariant-loop-one
invariant-loop-one l = l.purged ≡ fold with_one l.fn.self (take l.one-index l.gone)
