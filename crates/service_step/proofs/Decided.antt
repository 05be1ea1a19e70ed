-- Lemmas: each step replies `Done` or `Denied`.
use Rattle.std.specs.Prelude.{◌≡◌, ℕ, Bool, true, false, List, [], ◌∷◌, Option, Some, None, refl, is_none}
use Rattle.std.proofs.Common.{sym, ap, ◌∙◌}
use Rattle.std.specs.FinMap.{get}
use Rattle.entity_core.specs.Entity.{kind_of}
use Rattle.entity_core.specs.Airspace.{Airspace, EntityKey}
use Rattle.entity_core.specs.declared.entity.Entity.{Entity}
use Rattle.entity_core.specs.declared.subscription.Sub.{Sub}
use Rattle.policy_core.specs.declared.scope.Caller.{Caller}
use Rattle.policy_core.specs.declared.call.Call.{Call}
use Rattle.policy_core.specs.declared.call.Put.{Put}
use Rattle.policy_core.specs.declared.call.SubPut.{SubPut}
use Rattle.policy_core.specs.declared.call.Operation.{Operation}
use Rattle.policy_core.specs.declared.call.Operation.TheVariants.{NoRoute, NoMethod, Malformed, Query, Read, Create, Update, Delete, ReadAvail, SetAvail, QuerySub, ReadSub, CreateSub, UpdateSub, DeleteSub}
use Rattle.policy_core.specs.declared.rule.Rule.TheVariants.{Route, Method, Token, Scope, Form, Area, Found, Fresh, Manager, Version, Role, Change, Ended, Subscription, Depended, Key, Limit}
use Rattle.policy_core.specs.Policy.{breaks, breaks_form, breaks_found, breaks_method, breaks_route, breaks_token, first_broken}
use Rattle.policy_core.specs.Standing.{found_of, sub_of}
use Rattle.policy_core.proofs.Finds.{none_passes}
use Rattle.service_step.specs.Step.{IsDoneOrDenied, StepsAnswer, step, step_by, effect, read_effect, update_effect, delete_effect, read_sub_effect, update_sub_effect, delete_sub_effect}

-- An operation breaks none of the rules that apply whenever its effect says `Fault`.
record FindsAll (a : Airspace) (caller : Option Caller) (op : Operation) : Type 0 where
  route : breaks_route op ≡ false
  method : breaks_method op ≡ false
  token : breaks_token caller ≡ false
  form : breaks_form op ≡ false
  found : breaks_found op (found_of a op) (sub_of a op) ≡ false

finds_all : (a : Airspace) (t : ℕ) (c : Call) → first_broken a t c ≡ None → FindsAll a c.caller c.op
unfolding first_broken
finds_all a t c h = record {
  route = none_passes (breaks a t c) [] (Method ∷ Token ∷ Scope ∷ Form ∷ Area ∷ Found ∷ Fresh ∷ Manager ∷ Version ∷ Role ∷ Change ∷ Ended ∷ Subscription ∷ Depended ∷ Key ∷ Limit ∷ []) Route h;
  method = none_passes (breaks a t c) (Route ∷ []) (Token ∷ Scope ∷ Form ∷ Area ∷ Found ∷ Fresh ∷ Manager ∷ Version ∷ Role ∷ Change ∷ Ended ∷ Subscription ∷ Depended ∷ Key ∷ Limit ∷ []) Method h;
  token = none_passes (breaks a t c) (Route ∷ Method ∷ []) (Scope ∷ Form ∷ Area ∷ Found ∷ Fresh ∷ Manager ∷ Version ∷ Role ∷ Change ∷ Ended ∷ Subscription ∷ Depended ∷ Key ∷ Limit ∷ []) Token h;
  form = none_passes (breaks a t c) (Route ∷ Method ∷ Token ∷ Scope ∷ []) (Area ∷ Found ∷ Fresh ∷ Manager ∷ Version ∷ Role ∷ Change ∷ Ended ∷ Subscription ∷ Depended ∷ Key ∷ Limit ∷ []) Form h;
  found = none_passes (breaks a t c) (Route ∷ Method ∷ Token ∷ Scope ∷ Form ∷ Area ∷ []) (Fresh ∷ Manager ∷ Version ∷ Role ∷ Change ∷ Ended ∷ Subscription ∷ Depended ∷ Key ∷ Limit ∷ []) Found h;
}

read_decided : (a : Airspace) (uss : List ℕ) (o : Option Entity) → is_none o ≡ false → IsDoneOrDenied (read_effect a uss o).1
read_decided a uss None h = cc
read_decided a uss (Some e) h = tt

update_decided : (salt : List ℕ) (a : Airspace) (uss : List ℕ) (id : ℕ) (put : Put) (o : Option Entity) → is_none o ≡ false → IsDoneOrDenied (update_effect salt a uss id put o).1
update_decided salt a uss id put None h = cc
update_decided salt a uss id put (Some e) h = tt

delete_decided : (a : Airspace) (uss : List ℕ) (k : EntityKey) (o : Option Entity) → is_none o ≡ false → IsDoneOrDenied (delete_effect a uss k o).1
delete_decided a uss k None h = cc
delete_decided a uss k (Some e) h = tt

read_sub_decided : (a : Airspace) (o : Option Sub) → is_none o ≡ false → IsDoneOrDenied (read_sub_effect a o).1
read_sub_decided a None h = cc
read_sub_decided a (Some s) h = tt

update_sub_decided : (salt : List ℕ) (a : Airspace) (uss : List ℕ) (id : ℕ) (put : SubPut) (o : Option Sub) → is_none o ≡ false → IsDoneOrDenied (update_sub_effect salt a uss id put o).1
update_sub_decided salt a uss id put None h = cc
update_sub_decided salt a uss id put (Some s) h = tt

delete_sub_decided : (a : Airspace) (id : ℕ) (o : Option Sub) → is_none o ≡ false → IsDoneOrDenied (delete_sub_effect a id o).1
delete_sub_decided a id None h = cc
delete_sub_decided a id (Some s) h = tt

effect_decided : (salt : List ℕ) (a : Airspace) (caller : Option Caller) (op : Operation) → FindsAll a caller op → IsDoneOrDenied (effect salt a caller op).1
effect_decided salt a None op is = let e = is.token in cc
effect_decided salt a (Some caller) NoRoute is = let e = is.route in cc
effect_decided salt a (Some caller) NoMethod is = let e = is.method in cc
effect_decided salt a (Some caller) (Malformed kind) is = let e = is.form in cc
effect_decided salt a (Some caller) (Query kind area) is = tt
effect_decided salt a (Some caller) (Read kind id) is = read_decided a caller.uss (get a.entities (kind, id)) is.found
effect_decided salt a (Some caller) (Create id put) is = tt
effect_decided salt a (Some caller) (Update id ovn put) is = update_decided salt a caller.uss id put (get a.entities (kind_of put.nature, id)) is.found
effect_decided salt a (Some caller) (Delete kind id ovn) is = delete_decided a caller.uss (kind, id) (get a.entities (kind, id)) is.found
effect_decided salt a (Some caller) (ReadAvail uss) is = tt
effect_decided salt a (Some caller) (SetAvail uss old availability) is = tt
effect_decided salt a (Some caller) (QuerySub area) is = tt
effect_decided salt a (Some caller) (ReadSub id) is = read_sub_decided a (get a.subscriptions id) is.found
effect_decided salt a (Some caller) (CreateSub id put) is = tt
effect_decided salt a (Some caller) (UpdateSub id version put) is = update_sub_decided salt a caller.uss id put (get a.subscriptions id) is.found
effect_decided salt a (Some caller) (DeleteSub id version) is = delete_sub_decided a id (get a.subscriptions id) is.found

pub steps_answer : StepsAnswer
unfolding step
steps_answer salt a t c =
    elim (first_broken a t c) as (λ r. first_broken a t c ≡ r → IsDoneOrDenied (step_by salt a c r).1) [
      | None ↦ λ h. effect_decided salt a c.caller c.op (finds_all a t c h)
      | Some p ↦ λ h. tt
    ] refl
