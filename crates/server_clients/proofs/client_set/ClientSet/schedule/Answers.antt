use Rattle.std.proofs.Common.{◌∙◌, refl}
use Rattle.server_clients.proofs.Sets.{changes_none}
use Rattle.server_clients.proofs.client_set.ClientSet.schedule.Goals as goal

pub returns-in-Again : goal.returns-in-Again
returns-in-Again g c = λ past. changes_none _ _ past past (c.free_large_buffer.ensures ∙ c.queue.ensures) refl
