-- The decision about a call.
use Rattle.std.specs.Prelude.{◌≡◌, ℕ, List, Option, Some, None, find, map}
use Rattle.entity_core.specs.Airspace.{Airspace}
use Rattle.entity_core.specs.declared.nature.Kind.{Kind}
use Rattle.entity_core.specs.declared.subscription.Sub.{Sub}
use Rattle.policy_core.specs.declared.call.Operation.{Operation}
use Rattle.policy_core.specs.declared.rule.Rule.{Rule}
use Rattle.policy_core.specs.declared.reference.Missing.{Missing}
use Rattle.policy_core.specs.declared.reference.Reference.{Reference}
use Rattle.policy_core.specs.Missing.{missing_for, missing_from, missing_with}
use Rattle.policy_core.specs.Policy.{breaks, breaks_given, first_broken, standing_rules}
use Rattle.policy_core.specs.Standing.{sub_of}
use Rattle.policy_core.specs.View.{view_of}
use Rattle.space_core.specs.declared.space.Change.{Change}
use Rattle.service_step.specs.declared.admitted.Admitted.{Admitted}
use Rattle.service_step.specs.declared.look_up.OwnedFacts.{OwnedFacts}
use Rattle.service_step.specs.declared.needed.EvaluatedPut.{EvaluatedPut}
use Rattle.service_step.specs.declared.reply.Answer.{Answer}
use Rattle.service_step.specs.Admitted.{BreaksNone}
use Rattle.service_step.specs.Looks.{AreFacts, IsReady, Makes, facts_in}
use Rattle.service_step.specs.Needed.{needed_by}
use Rattle.service_step.specs.Step.{missing_views}
use Rattle.service_calls.specs.declared.decide.Decision.{Decision}
use Rattle.service_calls.specs.declared.decide.Decision.TheVariants as decisions

-- ---- missing references

-- The references that a put needs of a kind and its key lacks, as the caller sees them.
abbrev pub missing_kind_by : Kind → Airspace → EvaluatedPut → List Reference
missing_kind_by kind a evaluated =
    map (view_of a evaluated.caller.now.uss)
    (missing_from evaluated.put.now.key (needed_by kind a evaluated))

abbrev pub missing_by : Airspace → EvaluatedPut → Missing
missing_by a evaluated =
    missing_with a evaluated.caller.now evaluated.sub.now evaluated.id evaluated.put.now

-- Holds if the references are those that the call needs and its key lacks, given the subscription
-- that it references.
abbrev pub IsMissingFor : Admitted → Option Sub → Airspace → Missing → Type 0
IsMissingFor admitted sub a missing = sub ≡ sub_of a admitted.call.now.op
    → missing ≡ missing_for a (Some admitted.caller.now) admitted.call.now.op

-- ---- the first broken rule

-- Holds if the call breaks none of P7 to P13, P16 and P17, by the facts or in an airspace.
abbrev pub BreaksNoStandingBy : Admitted → OwnedFacts → Type 0
BreaksNoStandingBy admitted g =
    find (breaks_given (facts_in g) admitted.moment admitted.call.now) standing_rules ≡ None

abbrev pub BreaksNoStanding : Admitted → Airspace → Type 0
BreaksNoStanding admitted a =
    find (breaks a admitted.moment admitted.call.now) standing_rules ≡ None

-- Holds if this is the first rule that the call breaks, with the missing references.
abbrev pub IsFirst : Admitted → Airspace → Option (Rule × Missing) → Type 0
IsFirst admitted a None = BreaksNone admitted a
IsFirst admitted a (Some broken) =
    (first_broken a admitted.moment admitted.call.now ≡ Some broken.0)
    × (broken.1 ≡ missing_views a admitted.call.now broken.0)

-- Holds if this is the first broken rule, provided that the facts are those of the airspace.
abbrev pub IsFirstBy : Admitted → OwnedFacts → Airspace → Option (Rule × Missing) → Type 0
IsFirstBy admitted g a broken =
    AreFacts admitted.call.now.op a g → IsFirst admitted a broken

-- ---- the decision

abbrev pub decision_of : OwnedFacts → Option (Rule × Missing) → Decision
decision_of g None = decisions.Allowed g
decision_of g (Some broken) = decisions.Refused broken.0 broken.1

-- Holds if the decision is that of the policy.
abbrev pub Decides : Admitted → Airspace → Decision → Type 0
Decides admitted a (decisions.Refused p m) = IsFirst admitted a (Some (p, m))
Decides admitted a (decisions.Allowed g) =
    BreaksNone admitted a × AreFacts admitted.call.now.op a g

-- Holds if the call breaks no rule, and this is its effect.
abbrev pub Allows : Admitted → Airspace → Option Change → List ℕ → Answer → Type 0
Allows admitted a change told answer =
    BreaksNone admitted a × Makes admitted a change told answer

abbrev pub IsReadyIfAllowed : Operation → Decision → Type 0
IsReadyIfAllowed op (decisions.Refused p m) = Unit {0}
IsReadyIfAllowed op (decisions.Allowed g) = IsReady op g.found g.sub
