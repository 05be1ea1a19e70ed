use Rattle.std.proofs.Common.{take}
use Rattle.pool_etcd.proofs.Followings.{Reads}
use Rattle.pool_etcd.proofs.following.Following.line_values.Given as goal

abbrev pub invariant-loop-change : goal.invariant-loop-change
invariant-loop-change l = Reads l.self (take l.change-index l.changes) l.line l.revision
