-- Calls that are denied before their body is read.
use Rattle.std.specs.Prelude.{◌≡◌, ◌⊎◌, ℕ, List, Option, Some, find}
use Rattle.entity_core.specs.Airspace.{Airspace}
use Rattle.policy_core.specs.declared.call.Call.{Call}
use Rattle.policy_core.specs.declared.call.OpKind.{OpKind}
use Rattle.policy_core.specs.declared.call.Operation.{Operation}
use Rattle.policy_core.specs.declared.rule.Rule.{Rule}
use Rattle.policy_core.specs.declared.scope.Caller.{Caller}
use Rattle.policy_core.specs.Policy.{breaks, early_rules}
use Rattle.wire_body.specs.Body.{Words}
use Rattle.wire_operation.specs.Asked.{IsReadAs}

-- Holds if both calls break the same stateless rule first, so that both are denied alike.
pub record AreDeniedAlike (made call : Call) : Type 0 where
  pub rule : Rule
  pub made_breaks : (a : Airspace) (now : ℕ) → find (breaks a now made) early_rules ≡ Some rule
  pub call_breaks : (a : Airspace) (now : ℕ) → find (breaks a now call) early_rules ≡ Some rule

-- Holds if a call of the same caller is made instead of another: the same call, or one that is
-- denied alike.
pub record IsMadeFor (made call : Call) : Type 0 where
  pub caller : made.caller ≡ call.caller
  pub same : (made ≡ call) ⊎ AreDeniedAlike made call

-- Holds if this call is made for that of a kind, which path parameters and a body give.
abbrev pub IsMadeAs : Option Caller → OpKind → Words → List ℕ → Call → Type 0
IsMadeAs caller kind words body made = (op : Operation) × IsReadAs kind words body op
    × IsMadeFor made (record { caller = caller; op = op })
