use Rattle.server.proofs.Numbers.{told_at}
use Rattle.server.proofs.event_loop.EventLoop.tell_client.Goals as goal

pub returns : goal.returns
returns g c =
    told_at c.args.key c.args.ticket c.args.outcome _ _ _ _ _ _ _ _ c.charge_share.ensures c.requires.waits c.requires.alone
    c.tell-turned.ensures c.conclude.ensures c.count_ending.ensures
