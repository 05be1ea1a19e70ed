use Rattle.server_clients.proofs.Queues.{got_set}
use Rattle.server_clients.proofs.fair_queue.FairQueue.push.Goals as goal

pub returns-clause-waits : goal.returns-clause-waits
returns-clause-waits c = λ h. (c.push.new.self, got_set c.args.self.now.classes.items c.args.index c.push.new.self c.in-Some.ensures.item.3.0, c.push.ensures.waits h)
