use Rattle.std.proofs.Common.{◌∙◌, ap}
use Rattle.std.specs.Prelude.{is_some}
use Rattle.server.specs.Runs.{IsQuiet}
use Rattle.server.proofs.Operates.{runs_confirm, runs_stops}
use Rattle.server.proofs.Runs.{runs_then}
use Rattle.server.proofs.serve.operate.Goals as goal

pub returns-then-not-is_stop_requested-clause-runs : goal.returns-then-not-is_stop_requested-clause-runs
returns-then-not-is_stop_requested-clause-runs g c = λ setup is.
    runs_confirm g.B.Backend g.M.Moments g.T.TokenSource setup c.args.context.tokens.now IsQuiet _ _ _ _ _ _ _ (is ∙ ap (λ v. is_some v) c.in-Some.is) (c.confirm.ensures.clients ∙ c.answer_operators.ensures) c.confirm.ensures.watches

pub returns-clause-runs : goal.returns-clause-runs
returns-clause-runs g c = λ setup is.
    runs_then g.B.Backend g.M.Moments g.T.TokenSource setup IsQuiet IsQuiet IsQuiet _ _ _ _ _ _
    (runs_confirm g.B.Backend g.M.Moments g.T.TokenSource setup c.args.context.tokens.now IsQuiet _ _ _ _ _ _ _ (is ∙ ap (λ v. is_some v) c.in-Some.is) (c.confirm.ensures.clients ∙ c.answer_operators.ensures) c.confirm.ensures.watches)
    (runs_stops g.B.Backend g.M.Moments g.T.TokenSource setup c.args.context.tokens.now IsQuiet _ _ _ _ _ _ _ _ (is ∙ ap (λ v. is_some v) c.in-Some.is) c.stop.ensures (c.stop-2.ensures.changes _) c.stop-3.ensures)
