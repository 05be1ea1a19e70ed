-- Lemmas: each step of a valid airspace leaves a valid airspace.
use Rattle.std.specs.Prelude.{◌≡◌, ◌≤◌, ◌+◌, ℕ, refl, List, Option, Some, None}
use Rattle.std.proofs.Common.{arith}
use Rattle.std.specs.FinMap.{get}
use Rattle.entity_core.specs.Entity.{kind_of}
use Rattle.entity_core.specs.Airspace.{Airspace, IsAirspace, EntityKey}
use Rattle.entity_core.specs.Ovn.{ovn_text}
use Rattle.entity_core.specs.declared.entity.Entity.{Entity}
use Rattle.entity_core.proofs.Changes.{proper_with_told, proper_without_told, proper_stated, proper_sub, proper_without_sub}
use Rattle.entity_core.specs.declared.subscription.Sub.{Sub}
use Rattle.policy_core.specs.declared.scope.Caller.{Caller}
use Rattle.policy_core.specs.declared.call.Put.{Put}
use Rattle.policy_core.specs.declared.call.SubPut.{SubPut}
use Rattle.policy_core.specs.declared.call.Operation.{Operation}
use Rattle.policy_core.specs.declared.call.Operation.TheVariants.{NoRoute, NoMethod, Malformed, Query, Read, Create, Update, Delete, ReadAvail, SetAvail, QuerySub, ReadSub, CreateSub, UpdateSub, DeleteSub}
use Rattle.policy_core.specs.Policy.{first_broken}
use Rattle.service_step.specs.Step.{StepsPreserve, step, step_by, effect, created, updated, read_effect, update_effect, delete_effect, sub_stored_as, read_sub_effect, update_sub_effect, delete_sub_effect}

read_keeps : (a : Airspace) (uss : List ℕ) (o : Option Entity) → IsAirspace a → IsAirspace (read_effect a uss o).0
read_keeps a uss None proper = proper
read_keeps a uss (Some e) proper = proper

update_keeps : (salt : List ℕ) (a : Airspace) (uss : List ℕ) (id : ℕ) (put : Put) (o : Option Entity) → IsAirspace a → IsAirspace (update_effect salt a uss id put o).0
update_keeps salt a uss id put None proper = proper
update_keeps salt a uss id put (Some e) proper = proper_with_told a (updated salt (a.serial + 1) id put e) _ proper

delete_keeps : (a : Airspace) (uss : List ℕ) (k : EntityKey) (o : Option Entity) → IsAirspace a → IsAirspace (delete_effect a uss k o).0
delete_keeps a uss k None proper = proper
delete_keeps a uss k (Some e) proper = proper_without_told a k _ proper

-- The index of each subscription is at most the next serial.
pub told_within : (a : Airspace) (id : ℕ) (s : Sub) → IsAirspace a → get a.subscriptions id ≡ Some s → s.index ≤ a.serial + 1
told_within a id s proper there = let told : s.index ≤ a.serial = proper.told id s there in omega (arith, told)

update_sub_keeps : (salt : List ℕ) (a : Airspace) (uss : List ℕ) (id : ℕ) (put : SubPut) (o : Option Sub) → get a.subscriptions id ≡ o → IsAirspace a → IsAirspace (update_sub_effect salt a uss id put o).0
update_sub_keeps salt a uss id put None there proper = proper
update_sub_keeps salt a uss id put (Some s) there proper = proper_sub a (sub_stored_as salt (a.serial + 1) s.manager s.index id put) (told_within a id s proper there) proper

read_sub_keeps : (a : Airspace) (o : Option Sub) → IsAirspace a → IsAirspace (read_sub_effect a o).0
read_sub_keeps a None proper = proper
read_sub_keeps a (Some s) proper = proper

delete_sub_keeps : (a : Airspace) (id : ℕ) (o : Option Sub) → IsAirspace a → IsAirspace (delete_sub_effect a id o).0
delete_sub_keeps a id None proper = proper
delete_sub_keeps a id (Some s) proper = proper_without_sub a id proper

effect_keeps : (salt : List ℕ) (a : Airspace) (caller : Option Caller) (op : Operation) → IsAirspace a → IsAirspace (effect salt a caller op).0
effect_keeps salt a None op proper = proper
effect_keeps salt a (Some caller) NoRoute proper = proper
effect_keeps salt a (Some caller) NoMethod proper = proper
effect_keeps salt a (Some caller) (Malformed kind) proper = proper
effect_keeps salt a (Some caller) (Query kind area) proper = proper
effect_keeps salt a (Some caller) (Read kind id) proper = read_keeps a caller.uss (get a.entities (kind, id)) proper
effect_keeps salt a (Some caller) (Create id put) proper = proper_with_told a (created salt (a.serial + 1) caller.uss id put) _ proper
effect_keeps salt a (Some caller) (Update id ovn put) proper = update_keeps salt a caller.uss id put (get a.entities (kind_of put.nature, id)) proper
effect_keeps salt a (Some caller) (Delete kind id ovn) proper = delete_keeps a caller.uss (kind, id) (get a.entities (kind, id)) proper
effect_keeps salt a (Some caller) (ReadAvail uss) proper = proper
effect_keeps salt a (Some caller) (SetAvail uss old availability) proper = proper_stated a uss (availability, ovn_text salt (a.serial + 1)) proper
effect_keeps salt a (Some caller) (QuerySub area) proper = proper
effect_keeps salt a (Some caller) (ReadSub id) proper = read_sub_keeps a (get a.subscriptions id) proper
effect_keeps salt a (Some caller) (CreateSub id put) proper = proper_sub a (sub_stored_as salt (a.serial + 1) caller.uss 0 id put) (omega arith) proper
effect_keeps salt a (Some caller) (UpdateSub id version put) proper = update_sub_keeps salt a caller.uss id put (get a.subscriptions id) refl proper
effect_keeps salt a (Some caller) (DeleteSub id version) proper = delete_sub_keeps a id (get a.subscriptions id) proper

pub steps_keep : StepsPreserve
unfolding step
steps_keep salt a t c proper =
    elim (first_broken a t c) as (λ r. IsAirspace (step_by salt a c r).0) [
      | None ↦ effect_keeps salt a c.caller c.op proper
      | Some p ↦ proper
    ]
