use Rattle.std.proofs.Common.{◌≡◌, false, take}
use Rattle.service_calls.specs.Held.{Stays, is_shut}
use Rattle.pool_core.specs.Acts.{makes_all}
use Rattle.pool_follow.specs.Acts.{DoesActs}
use Rattle.pool_follow.proofs.acts.make_all.Given as goal

abbrev pub invariant-loop-timed : goal.invariant-loop-timed
invariant-loop-timed g l = record {
  stays : Stays g.S.Space l.fn.service l.service;
  done : is_shut l.fn.service ≡ false → DoesActs g.S.Space (makes_all (take l.timed-index l.calls)) l.fn.service l.service;
}
