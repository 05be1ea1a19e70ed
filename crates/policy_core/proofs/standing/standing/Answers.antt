use Rattle.std.proofs.Common.{find, ap, ◌∙◌}
use Rattle.policy_core.specs.Policy.{breaks_given, standing_rules}
use Rattle.policy_core.specs.Standing.{Facts}
use Rattle.policy_core.proofs.standing.standing.Goals as goal

pub returns-clause-first : goal.returns-clause-first
returns-clause-first c = c.first_standing-first.ensures

pub returns-clause-first_in : goal.returns-clause-first_in
returns-clause-first_in c a regards =
    c.first_standing-first.ensures ∙ ap (λ (f : Facts). find (breaks_given f c.args.now c.args.call.now) standing_rules) regards
