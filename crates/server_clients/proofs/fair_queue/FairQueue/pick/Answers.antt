use Rattle.std.proofs.Common.{length, refl}
use Rattle.std.proofs.lemmas.Option.{slice_get_read}
use Rattle.server_clients.proofs.Queues.{picked_next}
use Rattle.server_clients.proofs.fair_queue.FairQueue.pick.Goals as goal

pub returns-clause-picked : goal.returns-clause-picked
returns-clause-picked c =
    let classes = c.args.self.now.classes.items in
    picked_next c.args.self.now c.in_ok-index.index c.in_ok-key.key c.in_ok-class.class.now c.in_ok-index.ensures
    (slice_get_read classes (length classes) c.in_ok-index.index c.in_ok-class.class.now refl c.in_ok-class.ensures.item.3.0 c.in_ok-class.ensures.value)
    c.in_ok-key.ensures.waited
