use Rattle.std.proofs.Common.{◌∙◌, ap, Bool, cond, Some, None}
use Rattle.policy_core.specs.declared.rule.Rule.TheVariants.{Limit}
use Rattle.service_step.proofs.Looked.{looks_none, looks_as}
use Rattle.service_calls.proofs.Evaluated.{judged_standing, judged_key, last_limit, lent_first, lent_limit}
use Rattle.service_calls.proofs.decide.evaluate.Goals as goal

pub returns-in-Some-clause-looks : goal.returns-in-Some-clause-looks
returns-in-Some-clause-looks g c =
    let q = c.args.admitted.now in
    let facts = c.args.facts.now in
    looks_none g.S.Space c.args.space.now _ _
    (λ a regards. judged_standing q c.requires facts a regards c.in-Some.broken c.empty.result (lent_first q facts _ _ c.lent-lent.ensures c.standing-findings.ensures.first ∙ c.in-Some.is) c.empty.ensures)

pub returns-then-breaks_key-clause-looks : goal.returns-then-breaks_key-clause-looks
returns-then-breaks_key-clause-looks g c =
    let q = c.args.admitted.now in
    let facts = c.args.facts.now in
    looks_as g.S.Space c.args.space.now c.missing_for.new.space c.in_ok-missing.missing _ _ _ c.in_ok-missing.ensures
    (λ a p regards. judged_key q c.requires facts a regards c.in_ok-missing.missing (lent_first q facts _ _ c.lent-lent.ensures c.standing-findings.ensures.first ∙ c.in_default.is) p c.if-breaks_key.ensures)

pub returns-then-findings-clause-looks : goal.returns-then-findings-clause-looks
returns-then-findings-clause-looks g c =
    let q = c.args.admitted.now in
    let facts = c.args.facts.now in
    let limit = c.standing-findings.result.limit in
    looks_as g.S.Space c.args.space.now c.missing_for.new.space c.in_ok-missing.missing _ _ _ c.in_ok-missing.ensures
    (λ a p regards. (
      last_limit q c.requires facts a regards c.in_ok-missing.missing limit (lent_first q facts _ _ c.lent-lent.ensures c.standing-findings.ensures.first ∙ c.in_default.is) p c.if-breaks_key.ensures
          (lent_limit q facts _ limit c.lent-lent.ensures c.standing-findings.ensures.limit)
          ∙ ap (λ (b : Bool). cond b (Some Limit) None) c.if-findings.true,
      c.empty-then-findings.ensures,
    ))

pub returns-clause-looks : goal.returns-clause-looks
returns-clause-looks g c =
    let q = c.args.admitted.now in
    let facts = c.args.facts.now in
    let limit = c.standing-findings.result.limit in
    looks_as g.S.Space c.args.space.now c.missing_for.new.space c.in_ok-missing.missing _ _ _ c.in_ok-missing.ensures
    (λ a p regards.
    last_limit q c.requires facts a regards c.in_ok-missing.missing limit (lent_first q facts _ _ c.lent-lent.ensures c.standing-findings.ensures.first ∙ c.in_default.is) p c.if-breaks_key.ensures
    (lent_limit q facts _ limit c.lent-lent.ensures c.standing-findings.ensures.limit)
    ∙ ap (λ (b : Bool). cond b (Some Limit) None) c.if-findings.false)
