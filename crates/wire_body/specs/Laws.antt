-- Laws of bodies.
use Rattle.std.specs.Prelude.{◌≡◌, ◌≢◌, ◌≤◌, ◌⊎◌, ℕ, List, length, codes, sum_by, Some, None}
use Rattle.std.specs.List.{AllByRecursion}
use Rattle.serde_json.specs.Data.{Data}
use Rattle.grid_core.specs.Extent.{region_of, region_fault}
use Rattle.entity_core.specs.Entity.{subscription_of}
use Rattle.entity_core.specs.EntityId.{printed, spelled}
use Rattle.entity_core.specs.IdTexts.{name_fault, ovn_fault, url_fault}
use Rattle.entity_core.specs.declared.nature.Kind.{Kind}
use Rattle.entity_core.specs.declared.nature.Kind.TheVariants.{Intent, Constraint}
use Rattle.policy_core.specs.Call.{kind_of}
use Rattle.policy_core.specs.declared.call.OpKind.{OpKind}
use Rattle.policy_core.specs.declared.call.Operation.{Operation}
use Rattle.policy_core.specs.declared.call.Operation.TheVariants.{NoRoute, NoMethod, Malformed, Query, Read, Create, Update, Delete, ReadAvail, SetAvail, QuerySub, ReadSub, CreateSub, UpdateSub, DeleteSub}
use Rattle.policy_core.specs.declared.call.Put.{Put}
use Rattle.policy_core.specs.declared.call.SubPut.{SubPut}
use Rattle.wire_body.specs.Body.{IsBody, Words}
use Rattle.wire_body.specs.Member.{member_of}
use Rattle.wire_body.specs.Naming.{no_subscription, zero_id}
use Rattle.wire_body.specs.Put.{put_of}
use Rattle.wire_body.specs.SubPut.{sub_put_of}

-- States that path parameters and a body give at most one operation of a kind.
abbrev pub AsksForOne : Type 0
AsksForOne = (kind : OpKind) (words : Words) (bytes : List ℕ) (op other : Operation)
    → IsBody kind words bytes op → IsBody kind words bytes other → other ≡ op

-- States that the operation is of that kind.
abbrev pub KeepsKind : Type 0
KeepsKind = (kind : OpKind) (words : Words) (bytes : List ℕ) (op : Operation)
    → IsBody kind words bytes op → kind_of op ≡ Some kind

-- ---- limits

pub record IsPutWithinLimits (p : Put) : Type 0 where
  pub least : 1 ≤ length p.volumes
  pub most : length p.volumes ≤ 32
  pub cells : sum_by (λ e. length e.cells) p.volumes ≤ 2048
  pub volumes : AllByRecursion (λ e. region_fault (region_of e) ≡ None) p.volumes
  pub entries : length p.key ≤ 4096
  pub key : AllByRecursion (λ v. ovn_fault v ≡ None) p.key
  pub url : url_fault p.url ≡ None
  pub subscription : subscription_of p.nature ≢ Some zero_id

pub record IsSubPutWithinLimits (p : SubPut) : Type 0 where
  pub volume : region_fault (region_of p.volume) ≡ None
  pub url : url_fault p.url ≡ None

abbrev pub IsWithinLimits : Operation → Type 0
IsWithinLimits NoRoute = ⊥
IsWithinLimits NoMethod = ⊥
IsWithinLimits (Malformed kind) = ⊥
IsWithinLimits (Query kind area) = region_fault area ≡ None
IsWithinLimits (Read kind id) = Unit {0}
IsWithinLimits (Create id put) = IsPutWithinLimits put
IsWithinLimits (Update id ovn put) = (ovn_fault ovn ≡ None) × IsPutWithinLimits put
IsWithinLimits (Delete kind id ovn) = ovn_fault ovn ≡ None
IsWithinLimits (ReadAvail uss) = name_fault uss ≡ None
IsWithinLimits (SetAvail uss version availability) = (name_fault uss ≡ None)
    × (length version ≤ 128)
IsWithinLimits (QuerySub area) = region_fault area ≡ None
IsWithinLimits (ReadSub id) = Unit {0}
IsWithinLimits (CreateSub id put) = (id ≢ zero_id) × IsSubPutWithinLimits put
IsWithinLimits (UpdateSub id ovn put) = (id ≢ zero_id) × (ovn_fault ovn ≡ None)
    × IsSubPutWithinLimits put
IsWithinLimits (DeleteSub id ovn) = ovn_fault ovn ≡ None

-- States that the operation of a body is within all limits.
abbrev pub KeepsLimits : Type 0
KeepsLimits = (kind : OpKind) (words : Words) (bytes : List ℕ) (op : Operation)
    → IsBody kind words bytes op → IsWithinLimits op

-- ---- members

-- Holds if the put of an entity has a member with this name.
abbrev pub IsNamed : Kind → List ℕ → Type 0
IsNamed Intent name = (name ≡ codes "extents") ⊎ (name ≡ codes "uss_base_url")
    ⊎ (name ≡ codes "state") ⊎ (name ≡ codes "key") ⊎ (name ≡ codes "subscription_id")
IsNamed Constraint name = (name ≡ codes "extents") ⊎ (name ≡ codes "uss_base_url")

-- States that no other member affects the put.
abbrev pub IgnoresOthers : Type 0
IgnoresOthers = (kind : Kind) (d e : Data) → ((name : List ℕ) → IsNamed kind name
    → member_of name d ≡ member_of name e) → put_of kind d ≡ put_of kind e

-- Holds if the put of a subscription has a member with this name.
abbrev pub IsSubNamed : List ℕ → Type 0
IsSubNamed name = (name ≡ codes "extents") ⊎ (name ≡ codes "uss_base_url")
    ⊎ (name ≡ codes "notify_for_operational_intents") ⊎ (name ≡ codes "notify_for_constraints")

abbrev pub IgnoresOthersOfSubs : Type 0
IgnoresOthersOfSubs = (d e : Data) → ((name : List ℕ) → IsSubNamed name
    → member_of name d ≡ member_of name e) → sub_put_of d ≡ sub_put_of e

-- ---- the zero id

-- Holds if the text for no subscription is read as the zero id, which is printed as that text.
pub record IsZeroText : Type 0 where
  pub reads : spelled no_subscription ≡ Some zero_id
  pub prints : printed zero_id ≡ no_subscription
