-- How the command `explain` ends.
use Rattle.std.specs.Prelude.{◌≡◌, ◌<◌, ℕ, List, length, Option, Some, None, IfSome, Result, Ok, Err}
use Rattle.policy_core.specs.declared.rule.Rule.{Rule}
use Rattle.wire_explain.specs.Verdict.{IsVerdict, rule_of}
use Rattle.wire_explain.specs.declared.verdict.Verdict.{Verdict}
use Rattle.dss_command.specs.declared.fault.Fault.{Fault}
use Rattle.dss_command.specs.declared.fault.Fault.TheVariants as fault

-- Holds if a body of this content, if known, is longer than the service reads.
abbrev pub IsTooLong : Option (List ℕ) → Type 0
IsTooLong remaining = IfSome remaining (λ rest. 1048576 < length rest)

-- Holds if the command may end so without an explanation: it then names no rule, and calls the body
-- too long only if it is.
abbrev pub EndsReading : Option (List ℕ) → Fault → Type 0
EndsReading remaining (fault.Request why) = ⊥
EndsReading remaining fault.BodyTooLong = IsTooLong remaining
EndsReading remaining other = Unit {0}

-- How the command ends if this rule denies the request, or none.
abbrev pub end_by : Option Rule → Result (Unit {0}) Fault
end_by None = Ok tt
end_by (Some why) = Err (fault.Request why)

-- Holds if the verdict on the request has this rule, or none if the request has a form.
abbrev pub IsJudgedBy : Option Rule → (path method body : List ℕ) → Type 0
IsJudgedBy why path method body =
    (verdict : Verdict) × IsVerdict path method body verdict × (rule_of verdict ≡ why)

-- Holds if the command may end so, for the request whose body is the rest of the input. It succeeds
-- only for a request with the form of an operation, names only a rule that denies the request, and
-- calls the body too long only if it is.
abbrev pub EndsExplain
    : (path method : List ℕ) → (remaining : Option (List ℕ)) → Result (Unit {0}) Fault → Type 0
EndsExplain path method remaining (Ok x) = IfSome remaining (IsJudgedBy None path method)
EndsExplain path method remaining (Err (fault.Request why)) =
    IfSome remaining (IsJudgedBy (Some why) path method)
EndsExplain path method remaining (Err fault.BodyTooLong) = IsTooLong remaining
EndsExplain path method remaining (Err other) = Unit {0}
