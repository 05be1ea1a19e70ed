-- The verdict on a request, from that on its path parameters and its body.
use Rattle.std.proofs.Common.{ℕ, List, subst, sym}
use Rattle.policy_core.specs.declared.call.OpKind.{OpKind}
use Rattle.wire_body.specs.Body.{Words}
use Rattle.wire_explain.specs.Verdict.{GiveOperation, IsFormOf, IsVerdict, LeadTo}
use Rattle.wire_explain.specs.declared.verdict.Verdict.{Verdict}
use Rattle.wire_explain.specs.declared.verdict.Verdict.TheVariants.{HasForm, NoRoute, NoMethod, Malformed}

pub form_verdict
    : (path method body : List ℕ) (kind : OpKind) (words : Words) (verdict : Verdict)
    → LeadTo path method kind words → IsFormOf kind words body verdict
    → IsVerdict path method body verdict
form_verdict path method body kind words (HasForm found) leads (same, gives) = (
  words,
  subst (λ (k : OpKind). LeadTo path method k words) (sym same) leads,
  subst (λ (k : OpKind). GiveOperation k words body) (sym same) gives,
)
form_verdict path method body kind words (Malformed found) leads (same, gives) = (
  words,
  subst (λ (k : OpKind). LeadTo path method k words) (sym same) leads,
  subst (λ (k : OpKind). GiveOperation k words body → ⊥) (sym same) gives,
)
form_verdict path method body kind words NoRoute leads none = absurd none
form_verdict path method body kind words (NoMethod endpoint) leads none = absurd none
