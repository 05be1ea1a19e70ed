use Rattle.std.proofs.Common.{take}
use Rattle.service_notify.specs.Notified.{IsNotifiedAt}
use Rattle.service_notify.proofs.notice.notified_of.Given as goal

abbrev pub invariant-loop-sub : goal.invariant-loop-sub
invariant-loop-sub l = IsNotifiedAt (take l.sub-index l.subs) l.told
