use Rattle.std.proofs.Common.{◌≡◌, ◌<◌, ◌++◌, take, drop, map}
use Rattle.std.specs.List.{AllByRecursion}
use Rattle.entity_core.specs.Airspace.{notified_again}
use Rattle.entity_core.specs.Serial.{max_serial}
use Rattle.service_notify.proofs.notice.notify_each.Given as goal

abbrev pub invariant-loop-sub : goal.invariant-loop-sub
invariant-loop-sub l = AllByRecursion (λ s. s.index < max_serial) l.fn.subs → l.subs ≡ map notified_again (take l.sub-index l.fn.subs) ++ drop l.sub-index l.fn.subs
