-- Lemmas: replies that need no entry in the log.
use Rattle.std.proofs.Common.{◌≡◌, ℕ, true, List, Option, Some, None, refl, sym, ap, ◌∙◌}
use Rattle.std.specs.Prelude.{find}
use Rattle.std.specs.FinMap.{get}
use Rattle.entity_core.specs.Airspace.{Airspace}
use Rattle.entity_core.specs.declared.entity.Entity.{Entity}
use Rattle.entity_core.specs.declared.subscription.Sub.{Sub}
use Rattle.policy_core.specs.declared.call.Call.{Call}
use Rattle.policy_core.specs.declared.call.Operation.{Operation}
use Rattle.policy_core.specs.declared.call.Operation.TheVariants.{NoRoute, NoMethod, Malformed, Query, Read, Create, Update, Delete, ReadAvail, SetAvail, QuerySub, ReadSub, CreateSub, UpdateSub, DeleteSub}
use Rattle.policy_core.specs.declared.reference.Missing.{Missing}
use Rattle.policy_core.specs.declared.rule.Rule.{Rule}
use Rattle.policy_core.specs.declared.scope.Caller.{Caller}
use Rattle.policy_core.specs.Policy.{breaks, early_rules, first_broken}
use Rattle.service_step.specs.declared.reply.Reply.{Reply}
use Rattle.service_step.specs.declared.reply.Reply.TheVariants.{Denied}
use Rattle.service_step.specs.Step.{effect, effect_by, read_effect, read_sub_effect, step, step_by}
use Rattle.service_calls.proofs.Awares.{step_left}
use Rattle.service_calls.specs.Aware.{left_by}
use Rattle.service_calls.proofs.Evaluated.{first_early, told_early}
use Rattle.pool_core.specs.Unlogged.{DenialChangesNothing, EarlyIsAnywhere, ReadingChangesNothing, reads}

-- ---- stateless rules

same_early : (a b : Airspace) (t : ℕ) (c : Call) → find (breaks a t c) early_rules ≡ find (breaks b t c) early_rules
same_early a b t c = refl

pub early_anywhere : EarlyIsAnywhere
unfolding step
early_anywhere salt a b now c rule h =
    let here = sym (same_early a b now c) ∙ h in
    ap (λ (r : Option Rule). step_by salt b c r) (first_early b now c rule here) ∙ ap (λ (m : Missing). (b, Denied rule m)) (told_early b now c rule here)

-- ---- denials

pub denial_unchanged : DenialChangesNothing
denial_unchanged salt a now c p missing h =
    let same : (step salt a now c).0 ≡ a = sym (step_left salt a (now, c)) ∙ ap (λ (r : Reply). left_by salt a (now, c) r) h in
    ap (λ (v : Airspace). (v, (step salt a now c).1)) same ∙ ap (λ (r : Reply). (a, r)) h

-- ---- readings

read_same : (a : Airspace) (uss : List ℕ) (e : Option Entity) → (read_effect a uss e).0 ≡ a
read_same a uss (Some e) = refl
read_same a uss None = refl

read_sub_same : (a : Airspace) (s : Option Sub) → (read_sub_effect a s).0 ≡ a
read_sub_same a (Some s) = refl
read_sub_same a None = refl

effect_same : (salt : List ℕ) (a : Airspace) (caller : Caller) (op : Operation) → reads op ≡ true → (effect_by salt a caller op).0 ≡ a
effect_same salt a caller NoRoute h = refl
effect_same salt a caller NoMethod h = refl
effect_same salt a caller (Malformed kind) h = refl
effect_same salt a caller (Query kind area) h = refl
effect_same salt a caller (Read kind id) h = read_same a caller.uss (get a.entities (kind, id))
effect_same salt a caller (Create id put) h = absurd cc
effect_same salt a caller (Update id ovn put) h = absurd cc
effect_same salt a caller (Delete kind id ovn) h = absurd cc
effect_same salt a caller (ReadAvail uss) h = refl
effect_same salt a caller (SetAvail uss old availability) h = absurd cc
effect_same salt a caller (QuerySub area) h = refl
effect_same salt a caller (ReadSub id) h = read_sub_same a (get a.subscriptions id)
effect_same salt a caller (CreateSub id put) h = absurd cc
effect_same salt a caller (UpdateSub id version put) h = absurd cc
effect_same salt a caller (DeleteSub id version) h = absurd cc

called_same : (salt : List ℕ) (a : Airspace) (caller : Option Caller) (op : Operation) → reads op ≡ true → (effect salt a caller op).0 ≡ a
called_same salt a (Some caller) op h = effect_same salt a caller op h
called_same salt a None op h = refl

step_same : (salt : List ℕ) (a : Airspace) (c : Call) (r : Option Rule) → reads c.op ≡ true → (step_by salt a c r).0 ≡ a
step_same salt a c (Some p) h = refl
step_same salt a c None h = called_same salt a c.caller c.op h

pub reading_unchanged : ReadingChangesNothing
unfolding step
reading_unchanged salt a now c h = ap (λ (v : Airspace). (v, (step salt a now c).1)) (step_same salt a c (first_broken a now c) h)
