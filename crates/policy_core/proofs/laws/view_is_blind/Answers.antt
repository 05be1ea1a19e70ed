use Rattle.std.specs.Prelude.{ℕ, Bool, List, Option, Some, None, cond}
use Rattle.std.proofs.Common.{sym, ap, ◌∙◌}
use Rattle.entity_core.specs.Airspace.{availability_of}
use Rattle.policy_core.specs.declared.reference.Reference.{Reference}
use Rattle.policy_core.specs.View.{view_of, view_with}
use Rattle.policy_core.proofs.laws.view_is_blind.Goals as goal

pub returns : goal.returns
unfolding view_of
returns c = λ a uss e ovn h.
    let seen : Reference = view_with uss e (availability_of a e.manager).0 in
    let shown = λ (o : Option (List ℕ)). record seen { ovn = o } in
    ap (λ (b : Bool). shown (cond b (Some ovn) None)) h ∙ sym (ap (λ (b : Bool). shown (cond b (Some e.ovn) None)) h)
