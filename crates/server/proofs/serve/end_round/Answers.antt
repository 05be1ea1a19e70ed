use Rattle.std.proofs.Common.{◌∙◌, true}
use Rattle.server.specs.Runs.{IsQuiet, IsSettled}
use Rattle.server.proofs.Changes.{changes_since}
use Rattle.server.proofs.Numbers.{numbered_moved}
use Rattle.server.proofs.Operates.{ends_so}
use Rattle.server.proofs.Runs.{runs_then}
use Rattle.server.proofs.Turns.{in_changes, in_forgotten, in_numbered}
use Rattle.server.proofs.serve.end_round.Goals as goal

pub tell_all-requires : goal.tell_all-requires
tell_all-requires g c =
    record { numbered = numbered_moved g.B.Backend g.M.Moments g.T.TokenSource (record { explaining = c.args.context.explaining; first = c.args.context.tokens.now; is_operated = true; is_counted = true }) _ _ _ _ _ _ _ c.advance.ensures.steps c.advance.ensures.clients c.requires.numbered }

pub answer_due-requires : goal.answer_due-requires
answer_due-requires g c = record {
  numbered = in_numbered g.B.Backend g.M.Moments g.T.TokenSource c.args.context.explaining c.args.context.tokens.now c.read_clock-moment.new.self IsSettled IsQuiet _ _ _ _ c.tell_all.ensures
      (numbered_moved g.B.Backend g.M.Moments g.T.TokenSource (record { explaining = c.args.context.explaining; first = c.args.context.tokens.now; is_operated = true; is_counted = true }) _ _ _ _ _ _ _ c.advance.ensures.steps c.advance.ensures.clients c.requires.numbered);
}

pub returns-clause-runs : goal.returns-clause-runs
returns-clause-runs g c = λ setup e o.
    ends_so g.B.Backend g.M.Moments g.T.TokenSource setup c.args.context.tokens.now c.args.now _ _ _ _ _ _ _ _ _ _ _ _ _ _ _ _
    c.read_clock-moment.ensures.reads c.read_clock-moment.ensures.knows c.read_clock-moment.ensures.tokens c.read_clock-moment.ensures.stops c.is_held.ensures c.advance.ensures.steps c.advance.ensures.clients
    (runs_then g.B.Backend g.M.Moments g.T.TokenSource setup IsSettled IsQuiet IsQuiet _ _ _ _ _ _ (c.tell_all.ensures setup e)
    (runs_then g.B.Backend g.M.Moments g.T.TokenSource setup IsQuiet IsQuiet IsQuiet _ _ _ _ _ _ (c.answer_due.ensures setup e)
    (runs_then g.B.Backend g.M.Moments g.T.TokenSource setup IsQuiet IsQuiet IsQuiet _ _ _ _ _ _
    (in_changes g.B.Backend g.M.Moments g.T.TokenSource c.args.context.explaining c.args.context.tokens.now c.read_clock-moment.new.self IsQuiet _ _ _ _ _ _ (changes_since _ _ _ _ _ _ c.store_time.ensures.clients c.store_time.ensures.history c.end_all_late.ensures) setup e)
    (runs_then g.B.Backend g.M.Moments g.T.TokenSource setup IsQuiet IsQuiet IsQuiet _ _ _ _ _ _
    (in_forgotten g.B.Backend g.M.Moments g.T.TokenSource c.args.context.explaining c.args.context.tokens.now c.read_clock-moment.new.self IsQuiet _ _ _ _ _ _ c.forget_gone.ensures.forgets (c.flush_log.ensures ∙ c.forget_gone.ensures.clients) setup e)
    (c.operate.ensures.runs setup o)))))
