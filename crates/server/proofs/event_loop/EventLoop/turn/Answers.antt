use Rattle.std.proofs.Common.{refl}
use Rattle.server_clients.proofs.Sets.{changes_none}
use Rattle.server.proofs.Turns.{in_turn}
use Rattle.server.proofs.event_loop.EventLoop.turn.Goals as goal

pub returns-in_default : goal.returns-in_default
returns-in_default g c =
    in_turn g.B.Backend g.M.Moments g.T.TokenSource c.args.context.explaining c.args.context.tokens.now c.args.watches.now c.args.key _ _ _ _ _ _ _ _ _ _ _ _ c.turn-turned.ensures refl (changes_none _ _ _ _ refl refl) refl

pub returns : goal.returns
returns g c =
    in_turn g.B.Backend g.M.Moments g.T.TokenSource c.args.context.explaining c.args.context.tokens.now c.args.watches.now c.args.key _ _ _ _ _ _ _ _ _ _ _ _ c.turn-turned.ensures c.note_turn.ensures c.conclude.ensures c.count_ending.ensures
