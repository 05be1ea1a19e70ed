-- What the key of a put that breaks no rule has, and what is listed to a call whose key misses
-- something.
use Rattle.std.specs.Prelude.{◌≡◌, ℕ, ◌≤◌, Bool, true, false, List, map, Option, Some, None, Contains, ◌⊎◌}
use Rattle.std.specs.Ordering.{eq_by_cmp}
use Rattle.std.specs.FinMap.{get}
use Rattle.grid_core.specs.Extent.{any_meet, region_of}
use Rattle.entity_core.specs.Airspace.{Airspace, key_cmp, key_of}
use Rattle.entity_core.specs.Entity.{kind_of}
use Rattle.entity_core.specs.declared.entity.Entity.{Entity}
use Rattle.entity_core.specs.declared.nature.Kind.{Kind}
use Rattle.entity_core.specs.declared.nature.Kind.TheVariants as kinds
use Rattle.entity_core.specs.declared.nature.Nature.{Nature}
use Rattle.policy_core.specs.declared.scope.Caller.{Caller}
use Rattle.policy_core.specs.declared.call.Call.{Call}
use Rattle.policy_core.specs.declared.call.Put.{Put}
use Rattle.policy_core.specs.declared.call.Operation.{Operation}
use Rattle.policy_core.specs.declared.call.Operation.TheVariants.{Create, Update}
use Rattle.policy_core.specs.declared.reference.Missing.{Missing}
use Rattle.policy_core.specs.declared.reference.Reference.{Reference}
use Rattle.policy_core.specs.declared.rule.Rule.{Rule}
use Rattle.policy_core.specs.declared.rule.Rule.TheVariants.{Key, Subscription}
use Rattle.policy_core.specs.Call.{named_by}
use Rattle.policy_core.specs.Missing.{in_key, is_spared, key_shown, missing_for, needed, needs_key, needs_kind}
use Rattle.policy_core.specs.Policy.{first_broken}
use Rattle.policy_core.specs.Rule.{number_of}
use Rattle.policy_core.specs.Standing.{sub_of}
use Rattle.policy_core.specs.View.{view_of}

-- ---- what the key of a put has

-- The id and the put of a creation or an update.
abbrev pub put_of : Operation → Option (ℕ × Put)
put_of (Create id put) = Some (id, put)
put_of (Update id ovn put) = Some (id, put)
put_of op = None

-- True if a call needs to know entities of this nature. It needs all intents. It needs constraints
-- if the subscription that it references is for them. If it references none, it needs them if its
-- caller processes constraints.
abbrev pub call_needs : Airspace → Call → Nature → Bool
call_needs a c nature = needs_kind (kind_of nature) c.caller (named_by c.op) (sub_of a c.op)

-- States what the key of a put that breaks no rule has, if the intent is `Accepted` or `Activated`.
-- It has the current OVN of each other entity that it meets, that it needs to know and that is not
-- exempt.
abbrev pub PutsKnow : Type 0
PutsKnow = (a : Airspace) (now : ℕ) (c : Call) (id : ℕ) (put : Put) (y : Entity)
    → put_of c.op ≡ Some (id, put) → first_broken a now c ≡ None → needs_key put.nature ≡ true
    → get a.entities (key_of y) ≡ Some y
    → eq_by_cmp key_cmp (key_of y) (kind_of put.nature, id) ≡ false
    → any_meet y.volumes (map region_of put.volumes) ≡ true → call_needs a c y.nature ≡ true
    → is_spared a y ≡ false → Contains put.key y.ovn

-- ---- what is listed to a put

abbrev pub listed : Kind → Missing → List Reference
listed kinds.Intent m = m.intents
listed kinds.Constraint m = m.constraints

-- Holds if an entity is in the list of its kind, in the caller's view.
abbrev pub IsListed : Kind → Airspace → Option Caller → Entity → Missing → Type 0
IsListed kind a (Some caller) y m = Contains (listed kind m) (view_of a caller.uss y)
IsListed kind a None y m = ⊥

-- Holds for P1 to P14 and P16: the rules except the limits and P17.
abbrev pub MayDeny : Rule → Type 0
MayDeny rule = (number_of rule ≤ 14) ⊎ (rule ≡ Subscription)

-- Holds if one of P1 to P14 and P16 is the first broken rule. If it is P14, the entity is listed.
pub record IsDeniedFor (kind : Kind) (a : Airspace) (now : ℕ) (c : Call) (y : Entity) : Type 0 where
  pub rule : Rule
  pub first : first_broken a now c ≡ Some rule
  pub number : MayDeny rule
  pub listed : rule ≡ Key → IsListed kind a c.caller y (missing_for a c.caller c.op)

-- States that a call is denied if its key does not have the current OVN of an entity that it needs
-- to know.
abbrev pub MissingIsDenied : Type 0
MissingIsDenied = (a : Airspace) (now : ℕ) (c : Call) (kind : Kind) (y : Entity)
    → Contains (needed kind a c.caller c.op) y → in_key (key_shown c.op) y.ovn ≡ false
    → IsDeniedFor kind a now c y
