use Rattle.std.proofs.Common.{◌≡◌, take, map}
use Rattle.service_notify.proofs.notice.sub_ids.Given as goal

abbrev pub invariant-loop-sub : goal.invariant-loop-sub
invariant-loop-sub l = l.items.items ≡ map (λ s. s.id) (take l.sub-index l.subs)
