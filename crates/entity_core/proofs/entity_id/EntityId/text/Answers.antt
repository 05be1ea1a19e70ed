use Rattle.std.proofs.Common.{rules, ap, ◌∙◌}
use Rattle.std.proofs.lemmas.Result.{IfOk-weaker}
use Rattle.std.specs.Int.{w128, to_be_bytes}
use Rattle.uuid.specs.Text.{hyphenated_text, lower}
use Rattle.std.specs.String.{string_bytes}
use Rattle.entity_core.proofs.Ids.{printed_spells}
use Rattle.entity_core.proofs.entity_id.EntityId.text.Goals as goal

pub returns-clause-text : goal.returns-clause-text
returns-clause-text c =
    IfOk-weaker c.format.result _ _
    (λ s h. h ∙ ap (hyphenated_text lower) (c.from_u128-uuid.ensures ∙ ap (to_be_bytes w128) c.self.view_is))
    c.format.ensures.ok

pub returns-clause-reads : goal.returns-clause-reads
returns-clause-reads c =
    IfOk-weaker c.format.result _ _
    (λ s h. printed_spells c.args.self.now (string_bytes s) (h ∙ ap (hyphenated_text lower) (c.from_u128-uuid.ensures ∙ ap (to_be_bytes w128) c.self.view_is)) (search rules))
    c.format.ensures.ok
