use Rattle.std.proofs.Common.{◌∙◌, inl, inr, ap, refl, subst, sym}
use Rattle.std.specs.Prelude.{is_some, unwrap_or}
use Rattle.token_conf.specs.TokenFile.{TokenFile}
use Rattle.server_clients.specs.ClientSet.{clients_of}
use Rattle.server.specs.Rounds.{start}
use Rattle.server.specs.Runs.{IsQuiet}
use Rattle.server.specs.Watches.{server_state, setup_of}
use Rattle.server.proofs.Changes.{changes_since}
use Rattle.server.proofs.Rounds.{SoFar, ends_there, follows_looks, numbered_so_far, numbered_then, serves_so, so_far_none, so_far_start, so_far_then, table_after}
use Rattle.server.proofs.Runs.{runs_none}
use Rattle.server.proofs.Turns.{in_changes, in_none}
use Rattle.server.proofs.serve.serve.Goals as goal

pub returns-in_err-event_loop-clause-clients : goal.returns-in_err-event_loop-clause-clients
returns-in_err-event_loop-clause-clients g c =
    serves_so g.B.Backend g.M.Moments g.T.TokenSource (setup_of c.args.explaining c.args.tokens.now (is_some c.args.operated) (is_some c.args.limits.count)) c.args.clock c.args.watch _ _ _ _ _ _ _ (so_far_none g.B.Backend g.M.Moments g.T.TokenSource (setup_of c.args.explaining c.args.tokens.now (is_some c.args.operated) (is_some c.args.limits.count)) _ _) (runs_none g.B.Backend g.M.Moments g.T.TokenSource (setup_of c.args.explaining c.args.tokens.now (is_some c.args.operated) (is_some c.args.limits.count)) IsQuiet _ _ _ _ refl refl)

pub returns-in_err-now-clause-clients : goal.returns-in_err-now-clause-clients
returns-in_err-now-clause-clients g c =
    serves_so g.B.Backend g.M.Moments g.T.TokenSource (setup_of c.args.explaining c.args.tokens.now (is_some c.args.operated) (is_some c.args.limits.count)) c.args.clock c.args.watch _ _ _ _ _ _ _ (so_far_none g.B.Backend g.M.Moments g.T.TokenSource (setup_of c.args.explaining c.args.tokens.now (is_some c.args.operated) (is_some c.args.limits.count)) _ _) (runs_none g.B.Backend g.M.Moments g.T.TokenSource (setup_of c.args.explaining c.args.tokens.now (is_some c.args.operated) (is_some c.args.limits.count)) IsQuiet _ _ _ _ refl refl)

pub loop-init : goal.loop-init
loop-init g c =
    so_far_start g.B.Backend g.M.Moments g.T.TokenSource (setup_of c.args.explaining c.args.tokens.now (is_some c.args.operated) (is_some c.args.limits.count)) c.args.clock c.args.watch _ _ _ _ _ _ c.in_ok-event_loop.ensures c.new-watches.ensures.clock c.new-watches.ensures.tokens c.new-watches.ensures.stops refl

pub returns-then-has_ended-clause-clients : goal.returns-then-has_ended-clause-clients
returns-then-has_ended-clause-clients g c =
    serves_so g.B.Backend g.M.Moments g.T.TokenSource (setup_of c.args.explaining c.args.tokens.now (is_some c.args.operated) (is_some c.args.limits.count)) c.args.clock c.args.watch _ _ _ _ _ _ _ c.loop.invariant (runs_none g.B.Backend g.M.Moments g.T.TokenSource (setup_of c.args.explaining c.args.tokens.now (is_some c.args.operated) (is_some c.args.limits.count)) IsQuiet _ _ _ _ refl refl)

pub returns-then-has_ended-clause-ends : goal.returns-then-has_ended-clause-ends
returns-then-has_ended-clause-ends g c =
    ends_there g.B.Backend g.M.Moments g.T.TokenSource (setup_of c.args.explaining c.args.tokens.now (is_some c.args.operated) (is_some c.args.limits.count)) c.args.clock c.args.watch _ _ _ _ _ c.loop.invariant (inr (inl (sym c.has_ended.ensures ∙ c.if-has_ended.true)))

pub returns-then-is_done-clause-clients : goal.returns-then-is_done-clause-clients
returns-then-is_done-clause-clients g c =
    serves_so g.B.Backend g.M.Moments g.T.TokenSource (setup_of c.args.explaining c.args.tokens.now (is_some c.args.operated) (is_some c.args.limits.count)) c.args.clock c.args.watch _ _ _ _ _ _ _ c.loop.invariant (runs_none g.B.Backend g.M.Moments g.T.TokenSource (setup_of c.args.explaining c.args.tokens.now (is_some c.args.operated) (is_some c.args.limits.count)) IsQuiet _ _ _ _ refl refl)

pub returns-then-is_done-clause-ends : goal.returns-then-is_done-clause-ends
returns-then-is_done-clause-ends g c =
    ends_there g.B.Backend g.M.Moments g.T.TokenSource (setup_of c.args.explaining c.args.tokens.now (is_some c.args.operated) (is_some c.args.limits.count)) c.args.clock c.args.watch _ _ _ _ _ c.loop.invariant (inr (inr (sym c.is_some-is_counted.ensures ∙ c.if-is_counted.true, c.is_done.ensures c.if-is_done.true)))

pub returns-in_err-wait-clause-clients : goal.returns-in_err-wait-clause-clients
returns-in_err-wait-clause-clients g c =
    serves_so g.B.Backend g.M.Moments g.T.TokenSource (setup_of c.args.explaining c.args.tokens.now (is_some c.args.operated) (is_some c.args.limits.count)) c.args.clock c.args.watch _ _ _ _ _ _ _ c.loop.invariant (in_none g.B.Backend g.M.Moments g.T.TokenSource c.args.explaining (unwrap_or c.loop.newer c.args.tokens.now) c.loop.watches IsQuiet _ _ _ _ (ap (λ v. server_state c.loop.backend v c.loop.moments (unwrap_or c.loop.newer c.args.tokens.now) c.loop.watches) c.wait.ensures.clients) c.wait.ensures.history (setup_of c.args.explaining c.args.tokens.now (is_some c.args.operated) (is_some c.args.limits.count)) refl)

pub returns-in_err-now-2-clause-clients : goal.returns-in_err-now-2-clause-clients
returns-in_err-now-2-clause-clients g c =
    serves_so g.B.Backend g.M.Moments g.T.TokenSource (setup_of c.args.explaining c.args.tokens.now (is_some c.args.operated) (is_some c.args.limits.count)) c.args.clock c.args.watch _ _ _ _ _ _ _ c.loop.invariant (in_none g.B.Backend g.M.Moments g.T.TokenSource c.args.explaining (unwrap_or c.loop.newer c.args.tokens.now) c.loop.watches IsQuiet _ _ _ _ (ap (λ v. server_state c.loop.backend v c.loop.moments (unwrap_or c.loop.newer c.args.tokens.now) c.loop.watches) c.wait.ensures.clients) c.wait.ensures.history (setup_of c.args.explaining c.args.tokens.now (is_some c.args.operated) (is_some c.args.limits.count)) refl)

pub returns-in_err-accept-clause-clients : goal.returns-in_err-accept-clause-clients
returns-in_err-accept-clause-clients g c =
    serves_so g.B.Backend g.M.Moments g.T.TokenSource (setup_of c.args.explaining c.args.tokens.now (is_some c.args.operated) (is_some c.args.limits.count)) c.args.clock c.args.watch _ _ _ _ _ _ _ c.loop.invariant (in_changes g.B.Backend g.M.Moments g.T.TokenSource c.args.explaining (unwrap_or c.loop.newer c.args.tokens.now) c.loop.watches IsQuiet _ _ _ _ _ _ (changes_since _ _ _ _ _ _ c.wait.ensures.clients c.wait.ensures.history c.accept.ensures) (setup_of c.args.explaining c.args.tokens.now (is_some c.args.operated) (is_some c.args.limits.count)) refl)

pub run_once-requires : goal.run_once-requires
run_once-requires g c = record { numbered = numbered_so_far g.B.Backend g.M.Moments g.T.TokenSource (setup_of c.args.explaining c.args.tokens.now (is_some c.args.operated) (is_some c.args.limits.count)) c.args.clock c.args.watch _ _ _ _ _ _ _ c.loop.invariant (in_changes g.B.Backend g.M.Moments g.T.TokenSource c.args.explaining (unwrap_or c.loop.newer c.args.tokens.now) c.loop.watches IsQuiet _ _ _ _ _ _ (changes_since _ _ _ _ _ _ c.wait.ensures.clients c.wait.ensures.history c.accept.ensures) (setup_of c.args.explaining c.args.tokens.now (is_some c.args.operated) (is_some c.args.limits.count)) refl) }

pub end_round-is_over-requires : goal.end_round-is_over-requires
end_round-is_over-requires g c =
    record { numbered = numbered_then g.B.Backend g.M.Moments g.T.TokenSource (setup_of c.args.explaining c.args.tokens.now (is_some c.args.operated) (is_some c.args.limits.count)) _ _ _ _ (c.run_once.ensures (setup_of c.args.explaining c.args.tokens.now (is_some c.args.operated) (is_some c.args.limits.count)) refl) (numbered_so_far g.B.Backend g.M.Moments g.T.TokenSource (setup_of c.args.explaining c.args.tokens.now (is_some c.args.operated) (is_some c.args.limits.count)) c.args.clock c.args.watch _ _ _ _ _ _ _ c.loop.invariant (in_changes g.B.Backend g.M.Moments g.T.TokenSource c.args.explaining (unwrap_or c.loop.newer c.args.tokens.now) c.loop.watches IsQuiet _ _ _ _ _ _ (changes_since _ _ _ _ _ _ c.wait.ensures.clients c.wait.ensures.history c.accept.ensures) (setup_of c.args.explaining c.args.tokens.now (is_some c.args.operated) (is_some c.args.limits.count)) refl)) }

pub loop-preserved : goal.loop-preserved
loop-preserved g c =
    (subst (λ (v : TokenFile). SoFar g.B.Backend g.M.Moments g.T.TokenSource (setup_of c.args.explaining c.args.tokens.now (is_some c.args.operated) (is_some c.args.limits.count)) (start g.B.Backend g.M.Moments g.T.TokenSource (setup_of c.args.explaining c.args.tokens.now (is_some c.args.operated) (is_some c.args.limits.count)) c.args.backend.now c.args.moments.now c.args.clock c.args.watch) (server_state c.end_round-is_over.new.backend (clients_of g.N.Client.ClientSocket.name c.end_round-is_over.new.event_loop.clients) c.end_round-is_over.new.moments v c.end_round-is_over.new.watches) (g.N.Sockets.history c.args.sockets.now) (g.N.Sockets.history c.end_round-is_over.new.sockets)) c.in_force.ensures
    (so_far_then g.B.Backend g.M.Moments g.T.TokenSource (setup_of c.args.explaining c.args.tokens.now (is_some c.args.operated) (is_some c.args.limits.count)) _ _ _ _ _ _ _ _ _ _ _ _ _ c.loop.invariant (in_changes g.B.Backend g.M.Moments g.T.TokenSource c.args.explaining (unwrap_or c.loop.newer c.args.tokens.now) c.loop.watches IsQuiet _ _ _ _ _ _ (changes_since _ _ _ _ _ _ c.wait.ensures.clients c.wait.ensures.history c.accept.ensures) (setup_of c.args.explaining c.args.tokens.now (is_some c.args.operated) (is_some c.args.limits.count)) refl) (follows_looks g.B.Backend g.M.Moments g.T.TokenSource (setup_of c.args.explaining c.args.tokens.now (is_some c.args.operated) (is_some c.args.limits.count)) _ _ _ _ _ _ _ _ _ c.look.ensures.looks c.look.ensures.taken c.look.ensures.clock c.look.ensures.stops (table_after c.look.result c.loop.newer c.or-newer.result c.args.tokens.now c.in_force.result.now c.or-newer.ensures c.in_force.ensures)) (c.run_once.ensures (setup_of c.args.explaining c.args.tokens.now (is_some c.args.operated) (is_some c.args.limits.count)) refl) (c.end_round-is_over.ensures.runs (setup_of c.args.explaining c.args.tokens.now (is_some c.args.operated) (is_some c.args.limits.count)) refl refl)))

pub returns-then-is_over-clause-clients : goal.returns-then-is_over-clause-clients
returns-then-is_over-clause-clients g c =
    serves_so g.B.Backend g.M.Moments g.T.TokenSource (setup_of c.args.explaining c.args.tokens.now (is_some c.args.operated) (is_some c.args.limits.count)) c.args.clock c.args.watch _ _ _ _ _ _ _ (subst (λ (v : TokenFile). SoFar g.B.Backend g.M.Moments g.T.TokenSource (setup_of c.args.explaining c.args.tokens.now (is_some c.args.operated) (is_some c.args.limits.count)) (start g.B.Backend g.M.Moments g.T.TokenSource (setup_of c.args.explaining c.args.tokens.now (is_some c.args.operated) (is_some c.args.limits.count)) c.args.backend.now c.args.moments.now c.args.clock c.args.watch) (server_state c.end_round-is_over.new.backend (clients_of g.N.Client.ClientSocket.name c.end_round-is_over.new.event_loop.clients) c.end_round-is_over.new.moments v c.end_round-is_over.new.watches) (g.N.Sockets.history c.args.sockets.now) (g.N.Sockets.history c.end_round-is_over.new.sockets)) c.in_force.ensures
    (so_far_then g.B.Backend g.M.Moments g.T.TokenSource (setup_of c.args.explaining c.args.tokens.now (is_some c.args.operated) (is_some c.args.limits.count)) _ _ _ _ _ _ _ _ _ _ _ _ _ c.loop.invariant (in_changes g.B.Backend g.M.Moments g.T.TokenSource c.args.explaining (unwrap_or c.loop.newer c.args.tokens.now) c.loop.watches IsQuiet _ _ _ _ _ _ (changes_since _ _ _ _ _ _ c.wait.ensures.clients c.wait.ensures.history c.accept.ensures) (setup_of c.args.explaining c.args.tokens.now (is_some c.args.operated) (is_some c.args.limits.count)) refl) (follows_looks g.B.Backend g.M.Moments g.T.TokenSource (setup_of c.args.explaining c.args.tokens.now (is_some c.args.operated) (is_some c.args.limits.count)) _ _ _ _ _ _ _ _ _ c.look.ensures.looks c.look.ensures.taken c.look.ensures.clock c.look.ensures.stops (table_after c.look.result c.loop.newer c.or-newer.result c.args.tokens.now c.in_force.result.now c.or-newer.ensures c.in_force.ensures)) (c.run_once.ensures (setup_of c.args.explaining c.args.tokens.now (is_some c.args.operated) (is_some c.args.limits.count)) refl) (c.end_round-is_over.ensures.runs (setup_of c.args.explaining c.args.tokens.now (is_some c.args.operated) (is_some c.args.limits.count)) refl refl))) (runs_none g.B.Backend g.M.Moments g.T.TokenSource (setup_of c.args.explaining c.args.tokens.now (is_some c.args.operated) (is_some c.args.limits.count)) IsQuiet _ _ _ _ refl refl)

pub returns-then-is_over-clause-ends : goal.returns-then-is_over-clause-ends
returns-then-is_over-clause-ends g c =
    ends_there g.B.Backend g.M.Moments g.T.TokenSource (setup_of c.args.explaining c.args.tokens.now (is_some c.args.operated) (is_some c.args.limits.count)) c.args.clock c.args.watch _ _ _ _ _ (subst (λ (v : TokenFile). SoFar g.B.Backend g.M.Moments g.T.TokenSource (setup_of c.args.explaining c.args.tokens.now (is_some c.args.operated) (is_some c.args.limits.count)) (start g.B.Backend g.M.Moments g.T.TokenSource (setup_of c.args.explaining c.args.tokens.now (is_some c.args.operated) (is_some c.args.limits.count)) c.args.backend.now c.args.moments.now c.args.clock c.args.watch) (server_state c.end_round-is_over.new.backend (clients_of g.N.Client.ClientSocket.name c.end_round-is_over.new.event_loop.clients) c.end_round-is_over.new.moments v c.end_round-is_over.new.watches) (g.N.Sockets.history c.args.sockets.now) (g.N.Sockets.history c.end_round-is_over.new.sockets)) c.in_force.ensures
    (so_far_then g.B.Backend g.M.Moments g.T.TokenSource (setup_of c.args.explaining c.args.tokens.now (is_some c.args.operated) (is_some c.args.limits.count)) _ _ _ _ _ _ _ _ _ _ _ _ _ c.loop.invariant (in_changes g.B.Backend g.M.Moments g.T.TokenSource c.args.explaining (unwrap_or c.loop.newer c.args.tokens.now) c.loop.watches IsQuiet _ _ _ _ _ _ (changes_since _ _ _ _ _ _ c.wait.ensures.clients c.wait.ensures.history c.accept.ensures) (setup_of c.args.explaining c.args.tokens.now (is_some c.args.operated) (is_some c.args.limits.count)) refl) (follows_looks g.B.Backend g.M.Moments g.T.TokenSource (setup_of c.args.explaining c.args.tokens.now (is_some c.args.operated) (is_some c.args.limits.count)) _ _ _ _ _ _ _ _ _ c.look.ensures.looks c.look.ensures.taken c.look.ensures.clock c.look.ensures.stops (table_after c.look.result c.loop.newer c.or-newer.result c.args.tokens.now c.in_force.result.now c.or-newer.ensures c.in_force.ensures)) (c.run_once.ensures (setup_of c.args.explaining c.args.tokens.now (is_some c.args.operated) (is_some c.args.limits.count)) refl) (c.end_round-is_over.ensures.runs (setup_of c.args.explaining c.args.tokens.now (is_some c.args.operated) (is_some c.args.limits.count)) refl refl))) (inl (c.end_round-is_over.ensures.operated c.if-is_over.true, c.end_round-is_over.ensures.stopped c.if-is_over.true))

pub returns-clause-clients : goal.returns-clause-clients
returns-clause-clients g c =
    serves_so g.B.Backend g.M.Moments g.T.TokenSource (setup_of c.args.explaining c.args.tokens.now (is_some c.args.operated) (is_some c.args.limits.count)) c.args.clock c.args.watch _ _ _ _ _ _ _ c.loop.invariant (runs_none g.B.Backend g.M.Moments g.T.TokenSource (setup_of c.args.explaining c.args.tokens.now (is_some c.args.operated) (is_some c.args.limits.count)) IsQuiet _ _ _ _ refl refl)
