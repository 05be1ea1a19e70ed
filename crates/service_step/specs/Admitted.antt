-- Admitted calls, and which of them are allowed.
use Rattle.std.specs.Prelude.{◌≡◌, Some, None, find}
use Rattle.entity_core.specs.Airspace.{Airspace}
use Rattle.policy_core.specs.Policy.{breaks, early_rules, first_broken}
use Rattle.service_step.specs.declared.admitted.Admitted.{Admitted}

-- Holds if the caller is that of the call, and the call breaks no stateless rule.
pub record IsAdmitted (admitted : Admitted) : Type 0 where
  pub caller : admitted.call.now.caller ≡ Some admitted.caller.now
  pub early : (a : Airspace)
      → find (breaks a admitted.moment admitted.call.now) early_rules ≡ None

-- Holds if the call breaks no rule in the airspace.
abbrev pub BreaksNone : Admitted → Airspace → Type 0
BreaksNone admitted a = first_broken a admitted.moment admitted.call.now ≡ None
