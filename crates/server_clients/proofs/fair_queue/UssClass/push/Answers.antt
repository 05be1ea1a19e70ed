use Rattle.server_clients.proofs.Queues.{contains_pushed}
use Rattle.server_clients.proofs.fair_queue.UssClass.push.Goals as goal

pub returns-then-has_ended-clause-waits : goal.returns-then-has_ended-clause-waits
returns-then-has_ended-clause-waits c = λ h. contains_pushed c.args.self.now.open.items c.args.self.now.ended.items c.push_back.new.self.items c.args.key _ c.is_ok.result c.push_back.ensures.items c.is_ok.ensures.value h
