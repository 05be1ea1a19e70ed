-- Replies that need no entry in the log.
use Rattle.std.specs.Prelude.{◌≡◌, ℕ, Bool, true, false, List, Some, find}
use Rattle.entity_core.specs.Airspace.{Airspace}
use Rattle.policy_core.specs.declared.call.Call.{Call}
use Rattle.policy_core.specs.declared.call.Operation.{Operation}
use Rattle.policy_core.specs.declared.call.Operation.TheVariants.{Query, QuerySub, Read, ReadAvail, ReadSub}
use Rattle.policy_core.specs.declared.reference.Missing.{Missing}
use Rattle.policy_core.specs.declared.rule.Rule.{Rule}
use Rattle.policy_core.specs.Missing.{nothing_missing}
use Rattle.policy_core.specs.Policy.{breaks, early_rules}
use Rattle.service_step.specs.declared.reply.Reply.TheVariants.{Denied}
use Rattle.service_step.specs.Step.{step}

-- Returns true if an operation only reads.
abbrev pub reads : Operation → Bool
reads (Query kind area) = true
reads (Read kind id) = true
reads (ReadAvail uss) = true
reads (QuerySub area) = true
reads (ReadSub id) = true
reads op = false

-- States that a call that breaks a stateless rule gets the same denial in each airspace, and
-- changes nothing.
abbrev pub EarlyIsAnywhere : Type 0
EarlyIsAnywhere = (salt : List ℕ) (a b : Airspace) (now : ℕ) (c : Call) (rule : Rule)
    → find (breaks a now c) early_rules ≡ Some rule
    → step salt b now c ≡ (b, Denied rule nothing_missing)

-- States that a call that is denied changes nothing.
abbrev pub DenialChangesNothing : Type 0
DenialChangesNothing = (salt : List ℕ) (a : Airspace) (now : ℕ) (c : Call) (rule : Rule)
    (missing : Missing) → (step salt a now c).1 ≡ Denied rule missing
    → step salt a now c ≡ (a, Denied rule missing)

-- States that a call of an operation that only reads changes nothing.
abbrev pub ReadingChangesNothing : Type 0
ReadingChangesNothing = (salt : List ℕ) (a : Airspace) (now : ℕ) (c : Call) → reads c.op ≡ true
    → step salt a now c ≡ (a, (step salt a now c).1)
