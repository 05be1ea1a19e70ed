use Rattle.std.proofs.Common.{sym, true≢false}
use Rattle.entity_core.proofs.Ids.{unspelled}
use Rattle.entity_core.proofs.entity_id.EntityId.read.Goals as goal

pub returns-in-Err : goal.returns-in-Err
returns-in-Err c =
    (c.if-text-ne36.false, unspelled c.args.text.now c.if-text-ne36.false (λ u e. absurd (true≢false (sym (c.in-Err.ensures.ok.1 (u, e))))))
