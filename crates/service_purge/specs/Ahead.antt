-- Forward-looking calls: calls that get the same reply before and after a purge.
use Rattle.std.specs.Prelude.{◌≡◌, ◌⊎◌, ℕ, ◌≤◌, nat_lt, Bool, true, false, List, [], ◌∷◌, map, Option, Some, None}
use Rattle.std.specs.List.{AllByRecursion}
use Rattle.std.specs.FinMap.{get}
use Rattle.grid_core.specs.Extent.{Extent, Region, region_of}
use Rattle.entity_core.specs.Airspace.{Airspace, EntityKey, IsAirspace}
use Rattle.entity_core.specs.Entity.{kind_of, subscription_of}
use Rattle.entity_core.specs.Search.{is_id, is_naming, is_own_near}
use Rattle.entity_core.specs.declared.availability.Availability.{Availability}
use Rattle.entity_core.specs.declared.entity.Entity.{Entity}
use Rattle.entity_core.specs.declared.nature.Kind.{Kind}
use Rattle.entity_core.specs.declared.subscription.Sub.{Sub}
use Rattle.policy_core.specs.declared.scope.Caller.{Caller}
use Rattle.policy_core.specs.declared.call.Call.{Call}
use Rattle.policy_core.specs.declared.call.Put.{Put}
use Rattle.policy_core.specs.declared.call.SubPut.{SubPut}
use Rattle.policy_core.specs.declared.call.Operation.{Operation}
use Rattle.policy_core.specs.declared.call.Operation.TheVariants.{NoRoute, NoMethod, Malformed, Query, Read, Create, Update, Delete, ReadAvail, SetAvail, QuerySub, ReadSub, CreateSub, UpdateSub, DeleteSub}
use Rattle.policy_core.specs.Call.{named_by, subject_of}
use Rattle.policy_core.specs.Standing.{found_of}
use Rattle.service_notify.specs.Notices.{notifies}
use Rattle.service_step.specs.Step.{step}
use Rattle.service_step.specs.declared.reply.Reply.{Reply}
use Rattle.service_calls.specs.Run.{TimedCall, airspace_after, replies_of}
use Rattle.entity_purge.specs.Purge.{IsPartlyPurged, ReferencesExist, SameOncePurged, is_due_for_purge, has_ended, sub_has_ended, purged}

-- ---- forward-looking calls

-- The area of a query, or the areas of a put.
abbrev pub areas_of : Operation → List Region
areas_of (Query kind area) = area ∷ []
areas_of (Create id put) = map region_of put.volumes
areas_of (Update id ovn put) = map region_of put.volumes
areas_of (QuerySub area) = area ∷ []
areas_of (CreateSub id put) = region_of put.volume ∷ []
areas_of (UpdateSub id version put) = region_of put.volume ∷ []
areas_of op = []

-- Returns true if an area has a first time and it is after `until`. An area without one reaches the
-- past.
abbrev pub is_after : ℕ → Option ℕ → Bool
is_after until None = false
is_after until (Some first) = nat_lt until first

-- Holds if each area begins after `until`.
abbrev pub BeginAfter : ℕ → List Region → Type 0
BeginAfter until areas = AllByRecursion (λ area. is_after until area.first ≡ true) areas

-- Returns true if a subscription belongs to the caller and meets an area.
abbrev pub is_own_of : Option Caller → Region → ℕ × Sub → Bool
is_own_of None area s = false
is_own_of (Some caller) area s = is_own_near caller.uss area s

-- Holds if a call returns the subscription of an id, with the intents that depend on it.
abbrev pub ReturnsSub : Airspace → Option Caller → Operation → ℕ → Type 0
ReturnsSub a caller (QuerySub area) id =
    (s : Sub) × (get a.subscriptions id ≡ Some s) × (is_own_of caller area (id, s) ≡ true)
ReturnsSub a caller (ReadSub shown) id = shown ≡ id
ReturnsSub a caller (CreateSub shown put) id = shown ≡ id
ReturnsSub a caller (UpdateSub shown version put) id = shown ≡ id
ReturnsSub a caller (DeleteSub shown version) id = shown ≡ id
ReturnsSub a caller op id = ⊥

-- Holds if no ended entity references the subscription of an id.
abbrev pub IsUnnamed : ℕ → Airspace → ℕ → Type 0
IsUnnamed until a id = (k : EntityKey) (e : Entity) → get a.entities k ≡ Some e
    → has_ended until e ≡ true → is_naming id (k, e) ≡ false

-- Holds if a call is forward-looking from a time in an airspace. The time of the call and its key
-- do not matter.
pub record LooksAhead (until : ℕ) (a : Airspace) (c : Call) : Type 0 where
  -- The areas that it queries or puts begin after that time.
  pub begins : BeginAfter until (areas_of c.op)
  -- The entity that it reads or changes, or that has the id of its creation, has not ended.
  pub names : (e : Entity) → found_of a c.op ≡ Some e → has_ended until e ≡ false
  -- The subscription that it is about, or that its put references, is not due.
  pub names_sub : (id : ℕ) (s : Sub) → subject_of c.op ≡ Some id
      → get a.subscriptions id ≡ Some s → is_due_for_purge until a (id, s) ≡ false
  -- No subscription that it notifies is due.
  pub told : (id : ℕ) (s : Sub) → get a.subscriptions id ≡ Some s
      → notifies a c.op (id, s) ≡ true → is_due_for_purge until a (id, s) ≡ false
  -- No ended entity references a subscription that it returns.
  pub shows : (id : ℕ) → ReturnsSub a c.caller c.op id → IsUnnamed until a id

-- ---- forms of forward-looking calls

-- Holds if these volumes begin after `until`.
abbrev pub BeginsAfter : ℕ → List Extent → Type 0
BeginsAfter until volumes = BeginAfter until (map region_of volumes)

-- Holds if an entity has not ended and each of its volumes begins after `until`.
pub record EntityIsAhead (until : ℕ) (e : Entity) : Type 0 where
  pub lasts : has_ended until e ≡ false
  pub begins : BeginsAfter until e.volumes

-- Holds if a put references no subscription that is due.
abbrev pub NamesNoneThatGoes : ℕ → Airspace → Put → Type 0
NamesNoneThatGoes until a put = (id : ℕ) (s : Sub) → subscription_of put.nature ≡ Some id
    → get a.subscriptions id ≡ Some s → is_due_for_purge until a (id, s) ≡ false

-- Holds if calls of these forms are forward-looking in an airspace.
pub record WhoLooksAhead (until : ℕ) (a : Airspace) (caller : Option Caller) : Type 0 where
  -- A query of an area that begins later.
  pub query : (kind : Kind) (area : Region) → is_after until area.first ≡ true
      → LooksAhead until a (record { caller = caller; op = Query kind area })
  -- A read of an entity that has not ended, or that does not exist.
  pub reading : (kind : Kind) (id : ℕ)
      → ((e : Entity) → get a.entities (kind, id) ≡ Some e → has_ended until e ≡ false)
      → LooksAhead until a (record { caller = caller; op = Read kind id })
  -- A creation under a free id, of volumes that begin later, that references no subscription that
  -- is due.
  pub creation : (id : ℕ) (put : Put) → BeginsAfter until put.volumes
      → NamesNoneThatGoes until a put → get a.entities (kind_of put.nature, id) ≡ None
      → LooksAhead until a (record { caller = caller; op = Create id put })
  -- An update with such volumes and references, of an entity whose volumes also begin later.
  pub update : (id : ℕ) (ovn : List ℕ) (put : Put) → BeginsAfter until put.volumes
      → NamesNoneThatGoes until a put
      → ((e : Entity) → get a.entities (kind_of put.nature, id) ≡ Some e → EntityIsAhead until e)
      → LooksAhead until a (record { caller = caller; op = Update id ovn put })
  -- A deletion of an entity whose volumes begin later.
  pub deletion : (kind : Kind) (id : ℕ) (ovn : List ℕ)
      → ((e : Entity) → get a.entities (kind, id) ≡ Some e → EntityIsAhead until e)
      → LooksAhead until a (record { caller = caller; op = Delete kind id ovn })
  -- A creation of a subscription under a free id, with a volume that begins later, if every
  -- referenced subscription exists.
  pub sub_creation : (id : ℕ) (put : SubPut) → is_after until (region_of put.volume).first ≡ true
      → ReferencesExist a → get a.subscriptions id ≡ None
      → LooksAhead until a (record { caller = caller; op = CreateSub id put })
  -- A read or a setting of an availability.
  pub availability : (uss : List ℕ)
      → LooksAhead until a (record { caller = caller; op = ReadAvail uss })
  pub setting : (uss old : List ℕ) (availability : Availability)
      → LooksAhead until a (record { caller = caller; op = SetAvail uss old availability })

abbrev pub TheseLookAhead : Type 0
TheseLookAhead = (until : ℕ) (a : Airspace) (caller : Option Caller) → WhoLooksAhead until a caller

-- ---- the law for one call

-- States that a forward-looking call gets the same reply, byte for byte, before and after a purge.
abbrev pub PurgeIsInvisible : Type 0
PurgeIsInvisible = (until : ℕ) (salt : List ℕ) (a : Airspace) (now : ℕ) (c : Call) → IsAirspace a
    → LooksAhead until a c
    → (step salt (purged until a) now c).1 ≡ (step salt a now c).1

-- States that a forward-looking call leaves airspaces that differ only by a purge.
abbrev pub PurgeStaysAlone : Type 0
PurgeStaysAlone = (until : ℕ) (salt : List ℕ) (a : Airspace) (now : ℕ) (c : Call)
    → LooksAhead until a c
    → SameOncePurged until (step salt (purged until a) now c).0 (step salt a now c).0

-- The entity that an update replaces or a deletion removes.
abbrev pub replaced_of : Airspace → Operation → Option Entity
replaced_of a (Update id ovn put) = get a.entities (kind_of put.nature, id)
replaced_of a (Delete kind id ovn) = get a.entities (kind, id)
replaced_of a op = None

-- Holds if a call frees no ended subscription: none that the replaced entity references and the new
-- one does not.
abbrev pub FreesNone : ℕ → Airspace → Operation → Type 0
FreesNone until a op = (e : Entity) (id : ℕ) (s : Sub) → replaced_of a op ≡ Some e
    → subscription_of e.nature ≡ Some id → is_id id (named_by op) ≡ false
    → get a.subscriptions id ≡ Some s → sub_has_ended until s ≡ false

-- Holds if a call at the time of a purge or later is forward-looking and frees no ended
-- subscription.
pub record LooksOn (until : ℕ) (a : Airspace) (c : TimedCall) : Type 0 where
  pub moment : until ≤ c.0
  pub ahead : LooksAhead until a c.1
  pub frees : FreesNone until a c.1.op

-- States that a purge before such a call leaves the same as a purge after it.
abbrev pub PurgeCommutes : Type 0
PurgeCommutes = (until : ℕ) (salt : List ℕ) (a : Airspace) (c : TimedCall) → LooksOn until a c
    → (step salt (purged until a) c.0 c.1).0 ≡ purged until (step salt a c.0 c.1).0

-- ---- the law for lists of calls

-- Holds if each call of a list is forward-looking in its airspace.
abbrev pub AllLookAhead : ℕ → List ℕ → List TimedCall → Airspace → Type 0
AllLookAhead until salt [] a = Unit {0}
AllLookAhead until salt (c ∷ cs) a =
    LooksAhead until a c.1 × AllLookAhead until salt cs (step salt a c.0 c.1).0

-- States that over an airspace that is partly purged, forward-looking calls get the same replies
-- and leave a partly purged airspace. Each call must be forward-looking in its airspace without
-- purges.
abbrev pub RunIsInvisible : Type 0
RunIsInvisible = (until : ℕ) (salt : List ℕ) (cs : List TimedCall) (a b : Airspace) → IsAirspace a
    → IsPartlyPurged until a b → AllLookAhead until salt cs a
    → (replies_of salt b cs ≡ replies_of salt a cs)
    × IsPartlyPurged until (airspace_after salt a cs) (airspace_after salt b cs)

-- Holds if each call of a list has this property in its airspace.
abbrev pub AllLookOn : ℕ → List ℕ → List TimedCall → Airspace → Type 0
AllLookOn until salt [] a = Unit {0}
AllLookOn until salt (c ∷ cs) a =
    LooksOn until a c × AllLookOn until salt cs (step salt a c.0 c.1).0

-- States that a purge before such calls leaves the same as a purge after them.
abbrev pub RunCommutes : Type 0
RunCommutes = (until : ℕ) (salt : List ℕ) (cs : List TimedCall) (a : Airspace)
    → AllLookOn until salt cs a
    → airspace_after salt (purged until a) cs ≡ purged until (airspace_after salt a cs)

-- ---- the law for lists of calls in which readers look back

-- True for an operation that changes nothing.
abbrev pub only_reads : Operation → Bool
only_reads NoRoute = true
only_reads NoMethod = true
only_reads (Malformed kind) = true
only_reads (Query kind area) = true
only_reads (Read kind id) = true
only_reads (ReadAvail uss) = true
only_reads (QuerySub area) = true
only_reads (ReadSub id) = true
only_reads op = false

-- Holds if each call of a list changes nothing, or is forward-looking in its airspace.
abbrev pub AllReadOrLookAhead : ℕ → List ℕ → List TimedCall → Airspace → Type 0
AllReadOrLookAhead until salt [] a = Unit {0}
AllReadOrLookAhead until salt (c ∷ cs) a =
    ((only_reads c.1.op ≡ true) ⊎ LooksAhead until a c.1)
    × AllReadOrLookAhead until salt cs (step salt a c.0 c.1).0

-- Holds if two lists of replies to these calls have the same reply to each call that is
-- forward-looking in its airspace.
abbrev pub AgreeAhead : ℕ → List ℕ → Airspace → List TimedCall → (rs qs : List Reply) → Type 0
AgreeAhead until salt a [] rs qs = (rs ≡ []) × (qs ≡ [])
AgreeAhead until salt a (c ∷ cs) [] qs = ⊥
AgreeAhead until salt a (c ∷ cs) (r ∷ rs) [] = ⊥
AgreeAhead until salt a (c ∷ cs) (r ∷ rs) (q ∷ qs) =
    (LooksAhead until a c.1 → r ≡ q) × AgreeAhead until salt (step salt a c.0 c.1).0 cs rs qs

-- States that over an airspace that is partly purged, forward-looking calls get the same replies
-- and leave a partly purged airspace. Other calls between them may look back if they change nothing.
abbrev pub ReadersDoNotDisturb : Type 0
ReadersDoNotDisturb = (until : ℕ) (salt : List ℕ) (cs : List TimedCall) (a b : Airspace)
    → IsAirspace a → IsPartlyPurged until a b → AllReadOrLookAhead until salt cs a
    → AgreeAhead until salt a cs (replies_of salt b cs) (replies_of salt a cs)
    × IsPartlyPurged until (airspace_after salt a cs) (airspace_after salt b cs)
