-- The operation of a call and the data derived from it.
use Rattle.std.specs.Prelude.{ℕ, Bool, true, false, Option, Some, None}
use Rattle.grid_core.specs.Extent.{covered_by}
use Rattle.grid_core.specs.Volumes.{covered_sum}
use Rattle.entity_core.specs.Entity as entities
use Rattle.policy_core.specs.declared.call.OpKind.{OpKind}
use Rattle.policy_core.specs.declared.call.OpKind.TheVariants as kinds
use Rattle.policy_core.specs.declared.call.Operation.{Operation}
use Rattle.policy_core.specs.declared.call.Operation.TheVariants.{NoRoute, NoMethod, Malformed, Query, Read, Create, Update, Delete, ReadAvail, SetAvail, QuerySub, ReadSub, CreateSub, UpdateSub, DeleteSub}

-- The kind of an operation. Without a route and a method there is none.
abbrev pub kind_of : Operation → Option OpKind
kind_of NoRoute = None
kind_of NoMethod = None
kind_of (Malformed kind) = Some kind
kind_of (Query kind area) = Some (kinds.Query kind)
kind_of (Read kind id) = Some (kinds.Read kind)
kind_of (Create id put) = Some (kinds.Create (entities.kind_of put.nature))
kind_of (Update id ovn put) = Some (kinds.Update (entities.kind_of put.nature))
kind_of (Delete kind id ovn) = Some (kinds.Delete kind)
kind_of (ReadAvail uss) = Some kinds.ReadAvail
kind_of (SetAvail uss old availability) = Some kinds.SetAvail
kind_of (QuerySub area) = Some kinds.QuerySub
kind_of (ReadSub id) = Some kinds.ReadSub
kind_of (CreateSub id put) = Some kinds.CreateSub
kind_of (UpdateSub id version put) = Some kinds.UpdateSub
kind_of (DeleteSub id version) = Some kinds.DeleteSub

-- True if the operation changes the airspace unless a rule denies it.
abbrev pub is_change : Operation → Bool
is_change (Create id put) = true
is_change (Update id ovn put) = true
is_change (Delete kind id ovn) = true
is_change (SetAvail uss old availability) = true
is_change (CreateSub id put) = true
is_change (UpdateSub id version put) = true
is_change (DeleteSub id version) = true
is_change op = false

-- The number of level-13 cells that the areas of an operation count for.
abbrev pub covered_of : Operation → ℕ
covered_of (Query kind area) = covered_by area.cells
covered_of (Create id put) = covered_sum put.volumes
covered_of (Update id ovn put) = covered_sum put.volumes
covered_of (QuerySub area) = covered_by area.cells
covered_of (CreateSub id put) = covered_by put.volume.cells
covered_of (UpdateSub id version put) = covered_by put.volume.cells
covered_of op = 0

-- The subscription that the put of an entity references, if any.
abbrev pub named_by : Operation → Option ℕ
named_by (Create id put) = entities.subscription_of put.nature
named_by (Update id ovn put) = entities.subscription_of put.nature
named_by op = None

-- The subscription that an operation is about or that its put references, if any.
abbrev pub subject_of : Operation → Option ℕ
subject_of (ReadSub id) = Some id
subject_of (CreateSub id put) = Some id
subject_of (UpdateSub id version put) = Some id
subject_of (DeleteSub id version) = Some id
subject_of op = named_by op

-- True if the operation is about a subscription or about the caller's subscriptions.
abbrev pub is_about_sub : Operation → Bool
is_about_sub (QuerySub area) = true
is_about_sub (ReadSub id) = true
is_about_sub (CreateSub id put) = true
is_about_sub (UpdateSub id version put) = true
is_about_sub (DeleteSub id version) = true
is_about_sub op = false
