-- The parts of an instance.
use Rattle.std.specs.Prelude.{◌≡◌, ◌==◌, ◌&&◌, ◌||◌, ℕ, Bool, true, false, nat_lt, not, List, [], ◌∷◌, ◌++◌, Option, Some, None, map, slice_get, if◌then◌else◌}
use Rattle.std.specs.List.{flat_map}
use Rattle.std.specs.declared.vec.Vec.{Vec}
use Rattle.policy_core.specs.declared.call.Call.{Call}
use Rattle.service_calls.specs.Held.{salt_of, space_of}
use Rattle.pool_core.specs.Unlogged.{reads}
use Rattle.pool_instance.specs.Request.{call_of}
use Rattle.pool_instance.specs.declared.instance.Instance.{Instance}
use Rattle.pool_instance.specs.declared.purge_totals.PurgeTotals.{PurgeTotals}
use Rattle.pool_instance.specs.declared.waiting.Held.{Held}
use Rattle.pool_instance.specs.declared.waiting.Reading.{Reading}
use Rattle.pool_instance.specs.declared.waiting.Stage.{Stage}
use Rattle.pool_instance.specs.declared.waiting.Stage.TheVariants.{Asked, Fresh, Until}

-- Returns true if the instance has ended.
abbrev pub is_ended : {L S : Type 0} → Instance L S → Bool
is_ended x = x.ended

abbrev pub log_of : {L S : Type 0} → Instance L S → L
log_of x = x.log

abbrev pub space_in : {L S : Type 0} → Instance L S → S
space_in x = space_of x.service

abbrev pub salt_in : {L S : Type 0} → Instance L S → List ℕ
salt_in x = salt_of x.service

-- After how many seconds the instance purges what has ended, if it does.
abbrev pub retention_in : {L S : Type 0} → Instance L S → Option ℕ
retention_in x = x.retention

-- The time of the last call of another instance that the instance heard, if it heard one.
abbrev pub heard_in : {L S : Type 0} → Instance L S → Option ℕ
heard_in x = x.heard

-- The purges that the instance took.
abbrev pub purges_in : {L S : Type 0} → Instance L S → PurgeTotals
purges_in x = x.purges

-- How many entries the instance took.
abbrev pub count_taken : {L S : Type 0} → Instance L S → ℕ
count_taken x = x.taken

-- How many requests the instance received. The next one gets this number.
abbrev pub count_received : {L S : Type 0} → Instance L S → ℕ
count_received x = x.received

-- ---- requests

-- The readings that wait for the end of the log, in the order of their receipt.
abbrev pub readings_in : {L S : Type 0} → Instance L S → List Reading
readings_in x = x.readings.items

-- The changes that wait for the next batch, in the order of their receipt.
abbrev pub unsent_in : {L S : Type 0} → Instance L S → List Held
unsent_in x = x.unsent.items

-- The requests of a batch whose entry has not come. One that failed meanwhile has no number.
abbrev pub sent_by : {A : Type 0} → Option (Vec (Option ℕ) A) → List (Option ℕ)
sent_by None = []
sent_by (Some sent) = sent.items

abbrev pub sent_in : {L S : Type 0} → Instance L S → List (Option ℕ)
sent_in x = sent_by x.in_flight

abbrev pub number_of : Option ℕ → List ℕ
number_of None = []
number_of (Some id) = id ∷ []

abbrev pub is_number : ℕ → Option ℕ → Bool
is_number id None = false
is_number id (Some number) = number == id

-- The numbers of readings and changes that were not offered.
abbrev pub unsent_ids : List Reading → List Held → List ℕ
unsent_ids rs hs = map (λ (r : Reading). r.held.id) rs ++ map (λ (h : Held). h.id) hs

abbrev pub ids_of : List Reading → List Held → List (Option ℕ) → List ℕ
ids_of rs hs sent = unsent_ids rs hs ++ flat_map number_of sent

abbrev pub ids_unsent : {L S : Type 0} → Instance L S → List ℕ
ids_unsent x = unsent_ids (readings_in x) (unsent_in x)

abbrev pub ids_sent : {L S : Type 0} → Instance L S → List ℕ
ids_sent x = flat_map number_of (sent_in x)

-- The numbers of the requests that have neither a reply nor failed.
abbrev pub ids_in : {L S : Type 0} → Instance L S → List ℕ
ids_in x = ids_of (readings_in x) (unsent_in x) (sent_in x)

-- ---- stages

-- Returns true if the next question is for the request. While a batch is in flight it is not for a
-- change, whose denial then says that the batch came before it.
abbrev pub is_unasked_by : (in_flight : Bool) → Call → Stage → Bool
is_unasked_by in_flight call Fresh = not in_flight || reads call.op
is_unasked_by in_flight call stage = false

abbrev pub is_unasked : (in_flight : Bool) → Reading → Bool
is_unasked in_flight r = is_unasked_by in_flight (call_of r.held.request) r.stage

-- Returns true if an instance that took so many entries can answer the reading.
abbrev pub is_due_by : ℕ → Stage → Bool
is_due_by taken (Until count) = not (nat_lt taken count)
is_due_by taken stage = false

abbrev pub is_due : ℕ → Reading → Bool
is_due taken r = is_due_by taken r.stage

-- The same of the reading with a number.
abbrev pub is_due_as : (id taken : ℕ) → Reading → Bool
is_due_as id taken r = r.held.id == id && is_due taken r

-- Holds if the reading at this index has this number, and can be answered.
abbrev pub IsDueAt : (taken : ℕ) → List Reading → (index id : ℕ) → Type 0
IsDueAt taken rs index id = (r : Reading) × (slice_get rs index ≡ Some r) × (r.held.id ≡ id)
    × (is_due taken r ≡ true)

-- The stage after a question.
abbrev pub asked_stage : (in_flight : Bool) → (question : ℕ) → Reading → Stage
asked_stage in_flight question r =
    if is_unasked in_flight r then Asked question else r.stage

-- The stage after the answer to a question.
abbrev pub stage_after : (question : ℕ) → (count : ℕ) → Stage → Stage
stage_after question count (Asked q) = if question == q then Until count else Asked q
stage_after question count stage = stage
