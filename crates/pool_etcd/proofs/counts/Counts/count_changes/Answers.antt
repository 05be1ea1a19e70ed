use Rattle.pool_etcd.proofs.Countings.{count_of_added}
use Rattle.pool_etcd.proofs.counts.Counts.count_changes.Goals as goal

pub returns-in-Ok-clause-counts : goal.returns-in-Ok-clause-counts
returns-in-Ok-clause-counts c = λ key. count_of_added c.args.self.now c.add_each.new.self c.args.changes.now key c.in-Ok.ensures.added
