use Rattle.std.proofs.Common.{◌≡◌, ◌++◌}
use Rattle.std.specs.Map.{values_of}
use Rattle.service_notify.proofs.notice.notices_of.Given as goal

abbrev pub invariant-loop-notify : goal.invariant-loop-notify
invariant-loop-notify l = l.items.items ++ values_of l.notify-iterator ≡ values_of l.initial.notify-iterator
