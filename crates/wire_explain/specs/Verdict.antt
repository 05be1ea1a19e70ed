-- The form of a request, and whether its explanation says that it has none.
use Rattle.std.specs.Prelude.{◌≡◌, ◌≤◌, ℕ, List, Option, Some, None}
use Rattle.policy_core.specs.declared.call.OpKind.{OpKind}
use Rattle.policy_core.specs.declared.call.Operation.{Operation}
use Rattle.policy_core.specs.declared.rule.Rule.{Rule}
use Rattle.policy_core.specs.declared.rule.Rule.TheVariants as rule
use Rattle.wire_body.specs.Body.{IsBody, Words}
use Rattle.wire_route.specs.declared.endpoint.Endpoint.{Endpoint}
use Rattle.wire_route.specs.Endpoint.{kind_at}
use Rattle.wire_route.specs.Route.{IsRoute, HasNoRoute}
use Rattle.wire_explain.specs.declared.verdict.Verdict.{Verdict}
use Rattle.wire_explain.specs.declared.verdict.Verdict.TheVariants.{HasForm, NoRoute, NoMethod, Malformed}

-- The rule of the policy that denies a request with this verdict.
abbrev pub rule_of : Verdict → Option Rule
rule_of (HasForm kind) = None
rule_of NoRoute = Some rule.Route
rule_of (NoMethod endpoint) = Some rule.Method
rule_of (Malformed kind) = Some rule.Form

-- Holds if path parameters and a body have the form of an operation of the kind.
abbrev pub GiveOperation : OpKind → Words → List ℕ → Type 0
GiveOperation kind words body = (op : Operation) × IsBody kind words body op

-- Holds if the path and the method lead to operations of the kind, with these parameters.
abbrev pub LeadTo : (path method : List ℕ) → OpKind → Words → Type 0
LeadTo path method kind words =
    (endpoint : Endpoint) × IsRoute path endpoint words × (kind_at endpoint method ≡ Some kind)

-- Holds if this is the verdict on path parameters and a body, for operations of the kind.
abbrev pub IsFormOf : OpKind → Words → List ℕ → Verdict → Type 0
IsFormOf kind words body (HasForm found) = (found ≡ kind) × GiveOperation kind words body
IsFormOf kind words body (Malformed found) =
    (found ≡ kind) × (GiveOperation kind words body → ⊥)
IsFormOf kind words body NoRoute = ⊥
IsFormOf kind words body (NoMethod endpoint) = ⊥

-- Holds if this is the verdict on a request.
abbrev pub IsVerdict : (path method body : List ℕ) → Verdict → Type 0
IsVerdict path method body (HasForm kind) =
    (words : Words) × LeadTo path method kind words × GiveOperation kind words body
IsVerdict path method body (Malformed kind) =
    (words : Words) × LeadTo path method kind words × (GiveOperation kind words body → ⊥)
IsVerdict path method body NoRoute = HasNoRoute path
IsVerdict path method body (NoMethod endpoint) =
    (words : Words) × IsRoute path endpoint words × (kind_at endpoint method ≡ None)

-- Holds if this number of problems agrees with the verdict: 0 if the request has a form, otherwise
-- at least 1.
abbrev pub AreProblemsOf : Verdict → ℕ → Type 0
AreProblemsOf (HasForm kind) problems = problems ≡ 0
AreProblemsOf NoRoute problems = 1 ≤ problems
AreProblemsOf (NoMethod endpoint) problems = 1 ≤ problems
AreProblemsOf (Malformed kind) problems = 1 ≤ problems
