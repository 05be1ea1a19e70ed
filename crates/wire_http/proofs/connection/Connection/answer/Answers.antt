use Rattle.std.proofs.Common.{◌∙◌, sym}
use Rattle.wire_http.proofs.connection.Connection.answer.Goals as goal

pub returns-clause-answers : goal.returns-clause-answers
returns-clause-answers c =
    let drafts = c.in_ok-draft.ensures.drafts in
    record {
      takes = record {
        held = c.release.ensures.held ∙ drafts.takes.held;
        left = c.release.ensures.left ∙ drafts.takes.left;
        ended = c.release.ensures.ended ∙ drafts.takes.ended;
        done = c.release.ensures.done ∙ drafts.takes.done;
      };
      output = c.release.ensures.output ∙ drafts.output;
      ready = c.release.ensures.ready ∙ sym c.release.ensures.output;
      slot = c.release.ensures.slot;
      awaited = c.release.ensures.awaited ∙ drafts.awaited;
      noted = c.release.ensures.noted ∙ drafts.noted;
    }
