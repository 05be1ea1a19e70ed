-- What USSs knew when they put the stored entities.
use Rattle.std.specs.Prelude.{◌≡◌, ℕ, ◌<◌, ◌&&◌, not, Bool, true, false, List, [], ◌∷◌, map, Option, Some, None, if◌then◌else◌, Contains}
use Rattle.std.specs.Ordering.{eq_by_cmp}
use Rattle.std.specs.FinMap.{get}
use Rattle.grid_core.specs.Extent.{Extent, region_of, any_meet}
use Rattle.entity_core.specs.Airspace.{Airspace, IsAirspace, EntityKey, key_cmp, key_of}
use Rattle.entity_core.specs.Entity.{kind_of}
use Rattle.entity_core.specs.declared.entity.Entity.{Entity}
use Rattle.policy_core.specs.declared.call.Call.{Call}
use Rattle.policy_core.specs.declared.call.Operation.{Operation}
use Rattle.policy_core.specs.declared.call.Operation.TheVariants.{Create, Update}
use Rattle.policy_core.specs.Known.{call_needs}
use Rattle.policy_core.specs.Missing.{is_spared, key_shown, needs_key}
use Rattle.service_step.specs.declared.reply.Reply.{Reply}
use Rattle.service_step.specs.declared.reply.Reply.TheVariants.{Done, Denied, Fault, Stopped}
use Rattle.service_calls.specs.Run.{TimedCall}
use Rattle.service_step.specs.Step.{step}

-- ---- the last put of an entity

-- A call, and the airspace in which it was made.
pub record MadeCall : Type 0 where
  pub before : Airspace
  pub call : Call

-- Returns true if an operation creates or updates the entity of this key.
abbrev pub puts : EntityKey → Operation → Bool
puts k (Create id put) = eq_by_cmp key_cmp k (kind_of put.nature, id)
puts k (Update id ovn put) = eq_by_cmp key_cmp k (kind_of put.nature, id)
puts k op = false

abbrev pub is_done : Reply → Bool
is_done (Done answer) = true
is_done (Denied p m) = false
is_done Fault = false
is_done Stopped = false

-- The airspace after a call with this reply. Only a call with the reply `Done` may change it.
abbrev pub left_by : List ℕ → Airspace → TimedCall → Reply → Airspace
left_by salt a c r = if is_done r then (step salt a c.0 c.1).0 else a

-- The later value if it exists, otherwise the earlier one.
abbrev pub later_or : {X : Type 0} → Option X → Option X → Option X
later_or (Some x) earlier = Some x
later_or None earlier = earlier

-- The call if it was answered `Done` and put the entity of this key.
abbrev pub put_in : EntityKey → Airspace → Call → Reply → Option MadeCall
put_in k a c r = if is_done r && puts k c.op then Some (record { before = a; call = c }) else None

-- The last call that was answered `Done` and created or updated the entity of a key. The calls were
-- made from the airspace `a` on.
abbrev pub last_writer : List ℕ → EntityKey → Airspace → List TimedCall → List Reply → Option MadeCall
last_writer salt k a [] rs = None
last_writer salt k a (c ∷ cs) [] = None
last_writer salt k a (c ∷ cs) (r ∷ rs) =
    later_or (last_writer salt k (left_by salt a c r) cs rs) (put_in k a c.1 r)

-- ---- what a put knew

-- Returns true if a call needed to know an entity: it needed to know that kind, and the entity was
-- not spared then.
abbrev pub is_owed : MadeCall → Entity → Bool
is_owed made y = call_needs made.before made.call y.nature && not (is_spared made.before y)

-- Holds if some call made the put, and the other entity existed before it as it is now. If the call
-- needed to know that entity, its key had the entity's current OVN.
pub record Knew (put : Option MadeCall) (y : Entity) : Type 0 where
  pub made : MadeCall
  pub last : put ≡ Some made
  pub stood : get made.before.entities (key_of y) ≡ Some y
  pub knew : is_owed made y ≡ true → Contains (key_shown made.call.op) y.ovn

-- Holds if of each two meeting entities, the last put of the later one knew the other. It applies
-- if the later one, by serial, is an intent that is planned or flown as planned.
abbrev pub KnewOthers : (EntityKey → Option MadeCall) → Airspace → Type 0
KnewOthers last a = (k l : EntityKey) (x y : Entity) → get a.entities k ≡ Some x
    → get a.entities l ≡ Some y → y.serial < x.serial → needs_key x.nature ≡ true
    → any_meet y.volumes (map region_of x.volumes) ≡ true → Knew (last k) y

-- States that meeting is symmetric.
abbrev pub MeetingIsMutual : Type 0
MeetingIsMutual =
    (es fs : List Extent) → any_meet es (map region_of fs) ≡ any_meet fs (map region_of es)

-- Holds if no two entities have the same serial.
abbrev pub SerialsDiffer : Airspace → Type 0
SerialsDiffer a = (k l : EntityKey) (x y : Entity) → get a.entities k ≡ Some x
    → get a.entities l ≡ Some y → x.serial ≡ y.serial → k ≡ l

-- Holds if serials differ, and of each two meeting entities the last put of the later one knew the
-- other. It applies if the later one is an intent that is planned or flown as planned. The calls
-- were made from the airspace `from` on.
pub record Aware (salt : List ℕ) (from : Airspace) (cs : List TimedCall) (rs : List Reply)
    (a : Airspace) : Type 0 where
  pub proper : IsAirspace a
  pub serials : SerialsDiffer a
  pub knew : KnewOthers (λ k. last_writer salt k from cs rs) a
