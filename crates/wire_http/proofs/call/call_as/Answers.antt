use Rattle.std.proofs.Common.{◌∙◌, Some, ap, sym}
use Rattle.policy_core.specs.declared.rule.Rule.TheVariants.{Token, Scope}
use Rattle.wire_body.specs.Body.{words_of}
use Rattle.wire_http.proofs.Unread.{made_unread}
use Rattle.wire_http.proofs.call.call_as.Goals as goal

pub returns-in-Some-Token : goal.returns-in-Some-Token
returns-in-Some-Token c =
    made_unread c.keeps_kind.ensures c.args.caller c.args.kind (words_of c.args.words.now) c.args.body.now Token (λ e. let is = e in cc)
    (λ a now. sym (c.in-Some-Token.is ∙ ap Some c.in-Some-Token.field-0-is) ∙ c.early.ensures a now)

pub returns-in-Some-Scope : goal.returns-in-Some-Scope
returns-in-Some-Scope c =
    made_unread c.keeps_kind.ensures c.args.caller c.args.kind (words_of c.args.words.now) c.args.body.now Scope (λ e. let is = e in cc)
    (λ a now. sym (c.in-Some-Scope.is ∙ ap Some c.in-Some-Scope.field-0-is) ∙ c.early.ensures a now)
