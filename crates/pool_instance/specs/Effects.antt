-- What the private operations of an instance leave.
use Rattle.std.specs.Prelude.{◌≡◌, ◌==◌, ◌+◌, ◌⊎◌, ℕ, Bool, true, false, List, [], ◌∷◌, ◌++◌, Contains, IfSome, Option, Some, None, length}
use Rattle.std.specs.declared.vec.Vec.{Vec}
use Rattle.space_core.specs.declared.space.Space as spaces
use Rattle.service_calls.specs.Held.{is_shut}
use Rattle.service_step.specs.declared.reply.Reply.{Reply}
use Rattle.service_calls.specs.Run.{TimedCall}
use Rattle.pool_core.specs.Acts.{Act, Makes}
use Rattle.pool_core.specs.Log.{LogEntry}
use Rattle.pool_core.specs.Purging.{Keeps}
use Rattle.pool_core.specs.declared.log.Log as logs
use Rattle.pool_core.specs.declared.log.LogFault.{LogFault}
use Rattle.pool_core.specs.declared.log.LogFault.TheVariants as faults
use Rattle.pool_entry.specs.Acts.{acts_of}
use Rattle.pool_instance.specs.Lists.{DidActs, told_of}
use Rattle.pool_instance.specs.Parts.{count_taken, heard_in, is_ended, log_of, readings_in, retention_in, sent_in, unsent_in}
use Rattle.pool_instance.specs.declared.fault.InstanceFault.{InstanceFault}
use Rattle.pool_instance.specs.declared.fault.InstanceFault.TheVariants.{Ended, NoMemory}
use Rattle.pool_instance.specs.declared.instance.Instance.{Instance}
use Rattle.pool_instance.specs.declared.request.Request.{Request}
use Rattle.pool_instance.specs.declared.waiting.Held.{Held}
use Rattle.pool_instance.specs.declared.waiting.Reading.{Reading}
use Rattle.pool_instance.specs.declared.waiting.Stage.TheVariants.{Fresh}

-- The instance after it has ended.
abbrev pub with_end : {L S : Type 0} → Instance L S → Instance L S
with_end x = record x { ended = true }

-- Holds if a fault of the log became this fault of the instance.
abbrev pub FailsLog : {L S : Type 0} → LogFault → Instance L S → Instance L S → InstanceFault → Type 0
FailsLog faults.NoMemory old new fault = (fault ≡ NoMemory) × (new ≡ old)
FailsLog faults.Lost old new fault = (fault ≡ Ended) × (new ≡ with_end old)

-- Holds if the instance stayed the same but for its requests that were not offered.
pub record KeepsRest {L S : Type 0} (old new : Instance L S) : Type 0 where
  pub service : new.service ≡ old.service
  pub log : log_of new ≡ log_of old
  pub in_flight : new.in_flight ≡ old.in_flight
  pub taken : count_taken new ≡ count_taken old
  pub received : new.received ≡ old.received
  pub ended : is_ended new ≡ is_ended old
  pub retention : retention_in new ≡ retention_in old
  pub heard : heard_in new ≡ heard_in old

-- Holds if one more request waits for the end of the log.
pub record HoldsReading {L S : Type 0} (id : ℕ) (request : Request) (old new : Instance L S)
    : Type 0 where
  pub one : Reading
  pub readings : readings_in new ≡ readings_in old ++ one ∷ []
  pub unsent : unsent_in new ≡ unsent_in old
  pub number : one.held.id ≡ id
  pub asks : one.held.request ≡ request
  pub stage : one.stage ≡ Fresh

-- Holds if one more change waits for the next batch.
pub record HoldsChange {L S : Type 0} (id : ℕ) (request : Request) (old new : Instance L S)
    : Type 0 where
  pub one : Held
  pub unsent : unsent_in new ≡ unsent_in old ++ one ∷ []
  pub readings : readings_in new ≡ readings_in old
  pub number : one.id ≡ id
  pub asks : one.request ≡ request

-- Holds if one more request waits, and nothing else changed.
pub record Holds {L S : Type 0} (id : ℕ) (request : Request) (old new : Instance L S)
    : Type 0 where
  pub rest : KeepsRest old new
  pub waits : HoldsReading id request old new ⊎ HoldsChange id request old new

-- Holds if the same requests wait, and nothing else changed.
pub record HoldsNoMore {L S : Type 0} (old new : Instance L S) : Type 0 where
  pub rest : KeepsRest old new
  pub readings : readings_in new ≡ readings_in old
  pub unsent : unsent_in new ≡ unsent_in old

-- ---- entries

-- Holds if these are the replies to the own requests in an entry, and this is the batch in flight
-- after it.
abbrev pub TellsOwn : {A : Type 0} → (is_own : Bool) → Option (Vec (Option ℕ) A)
    → Option (Vec (Option ℕ) A) → List Reply → List (ℕ × Reply) → Type 0
TellsOwn false old new replies told = (told ≡ []) × (new ≡ old)
TellsOwn true None new replies told = ⊥
TellsOwn true (Some sent) new replies told = (length sent.items ≡ length replies)
    × (told ≡ told_of sent.items replies) × (new ≡ None)

-- Holds if the acts have a call with this time, if there is one.
abbrev pub IsLastTime : List Act → Option ℕ → Type 0
IsLastTime acts last =
    IfSome last (λ time. (timed : TimedCall) × Contains acts (Makes timed) × (timed.0 ≡ time))

-- Holds if the instance has heard what it had heard, or a call of an entry of another instance.
abbrev pub HearsEntry : (is_own : Bool) → List Act → (old new : Option ℕ) → Type 0
HearsEntry true acts old new = new ≡ old
HearsEntry false acts old new = (new ≡ old) ⊎ IsLastTime acts new

-- Holds if the instance did the acts of an entry and took it, with these replies to its own
-- requests in it.
pub record MadeEntry {L S : Type 0} (gl : logs.Ghosts L) (gs : spaces.Ghosts S) (entry : LogEntry)
    (old new : Instance L S) (told : List (ℕ × Reply)) : Type 0 where
  pub taken : count_taken new ≡ count_taken old + 1
  pub replies : List Reply
  pub made : is_shut old.service ≡ false
      → DidActs gs (acts_of entry.bytes) old.service new.service replies
  pub own : TellsOwn (entry.writer == gl.writer (log_of old)) old.in_flight new.in_flight replies told
  pub hears : HearsEntry (entry.writer == gl.writer (log_of old)) (acts_of entry.bytes)
      (heard_in old) (heard_in new)

-- Holds if the instance did the acts of an entry, or failed.
pub record MakesEntry {L S A : Type 0} (gl : logs.Ghosts L) (gs : spaces.Ghosts S)
    (entry : LogEntry) (old new : Instance L S) (result : Option (Vec (ℕ × Reply) A)) : Type 0 where
  pub log : log_of new ≡ log_of old
  pub readings : readings_in new ≡ readings_in old
  pub unsent : unsent_in new ≡ unsent_in old
  pub received : new.received ≡ old.received
  pub ended : is_ended new ≡ is_ended old
  pub stays : Keeps gs old.service new.service
  pub retention : retention_in new ≡ retention_in old
  pub fails : result ≡ None → sent_in new ≡ sent_in old
  pub deaf : result ≡ None → heard_in new ≡ heard_in old
  pub makes : IfSome result (λ told. MadeEntry gl gs entry old new told.items)

-- ---- requests of the batch in flight

abbrev pub ForgetsIn : {A : Type 0} → ℕ → Option (Vec (Option ℕ) A) → Option (Vec (Option ℕ) A)
    → Type 0
ForgetsIn id None new = ⊥
ForgetsIn id (Some sent) None = ⊥
ForgetsIn id (Some sent) (Some left) = (front : List (Option ℕ)) × ((back : List (Option ℕ))
    × (sent.items ≡ front ++ Some id ∷ back) × (left.items ≡ front ++ None ∷ back))

-- Holds if the instance removed the number of a request of the batch in flight, if it was there.
abbrev pub Forgets : {L S : Type 0} → ℕ → Instance L S → Instance L S → Bool → Type 0
Forgets id old new true = ForgetsIn id old.in_flight new.in_flight
    × (new ≡ record old { in_flight = new.in_flight })
Forgets id old new false = (new ≡ old) × (Contains (sent_in old) (Some id) → ⊥)
