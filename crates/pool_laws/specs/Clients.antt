-- What the clients of all instances of a pool are sent: the texts of one list of calls and purges.
use Rattle.std.specs.Prelude.{◌≡◌, ◌<◌, ◌⊎◌, ℕ, Bool, true, false, List, [], ◌∷◌, ◌++◌, Contains}
use Rattle.std.specs.List.{concat}
use Rattle.entity_core.specs.Airspace.{Airspace}
use Rattle.policy_core.specs.declared.call.Call.{Call}
use Rattle.service_step.specs.declared.reply.Reply.{Reply}
use Rattle.service_step.specs.declared.reply.Reply.TheVariants.{Fault}
use Rattle.space_core.specs.declared.space.Space as spaces
use Rattle.wire_http.specs.Text.{unavailable_text}
use Rattle.wire_http.specs.Wire.{RequestCall}
use Rattle.wire_http.specs.declared.explaining.Explaining.{Explaining}
use Rattle.wire_http.specs.declared.moments.Moments as moments
use Rattle.wire_http.specs.declared.unavailable.Unavailable.{Unavailable}
use Rattle.wire_http.specs.declared.unavailable.Unavailable.TheVariants as unavailable
use Rattle.server_watch.specs.declared.token_watch.TokenSource as sources
use Rattle.server_backend.specs.declared.backend.Backend as backends
use Rattle.server_backend.specs.declared.outcome.Received.{Received}
use Rattle.server_backend.specs.declared.outcome.Received.TheVariants as came
use Rattle.server_clients.specs.ClientEvents.{Asks}
use Rattle.server_clients.specs.ClientState.{ClientState, slot_for}
use Rattle.server_clients.specs.Clients.{StaysOpen, sent_to, text_for, texts_to}
use Rattle.server_clients.specs.Replies.{IsTextOf}
use Rattle.server_clients.specs.ServerEvents.{Accepts, Acts, ServerEvent}
use Rattle.server_clients.specs.Texts.{RequestTexts}
use Rattle.pool_core.specs.Events.{Answers, Basis, PoolEvent, Receives}
use Rattle.pool_core.specs.FromFiles.{IsOneListFrom, IsPoolFrom, file_of}
use Rattle.pool_core.specs.OneList.{ListedAct, RequestName, Stands, StandsWith, at}
use Rattle.pool_core.specs.declared.log.Log as logs
use Rattle.pool_entry.specs.Acts.{acts_of}
use Rattle.pool_backend.specs.declared.pool.PoolInstance.{PoolInstance}
use Rattle.pool_laws.specs.Steps.{ServesIn, Step, pool_events, server_events_at}

-- ---- one response

-- Holds if a request that an instance received so has this number.
abbrev pub HasNumber : Received → (id : ℕ) → Type 0
HasNumber (came.Answered reply) id = Unit {0}
HasNumber (came.Drafted ticket reply) id = ⊥
HasNumber (came.Waits ticket) id = ticket ≡ id
HasNumber (came.Refused reason) id = ⊥

-- Holds if a reason for status 503 is true of a request that waited at an instance: it is not in the
-- list if it is said to be unreachable, or not to be the instance's. Nothing is known of one with the
-- reason `Unknown`. A request that was not received has no number.
abbrev pub IsTrueOf : List ListedAct → RequestName → Unavailable → Type 0
IsTrueOf list x unavailable.Unknown = Unit {0}
IsTrueOf list x unavailable.Unreachable = (n : ℕ) → Stands list x n → ⊥
IsTrueOf list x unavailable.Unassigned = (n : ℕ) → Stands list x n → ⊥

abbrev pub IsReason : List ListedAct → (i : ℕ) → Received → Unavailable → Type 0
IsReason list i (came.Waits ticket) reason =
    IsTrueOf list (record { instance = i; id = ticket }) reason
IsReason list i (came.Answered reply) reason = Unit {0}
IsReason list i (came.Drafted ticket reply) reason = Unit {0}
IsReason list i (came.Refused told) reason = Unit {0}

module _ (salt : List ℕ) (start : Airspace) (list : List ListedAct) where
  -- Holds if a request has this reply in these events: it is that of the policy at the place of the
  -- request in the list, or the request failed for lack of memory and is not in the list.
  abbrev pub IsReplyTo : List PoolEvent → RequestName → Reply → Type 0
  IsReplyTo events x reply =
      ((basis : Basis) × Contains events (at x (Answers x.id basis reply))
      × StandsWith acts_of salt start list x reply)
      ⊎ ((reply ≡ Fault) × ((n : ℕ) → Stands list x n → ⊥))

  -- Holds if the text is that of the reply to a request, which the instance received with this call
  -- and answered in these events.
  pub record IsAnswered (explaining : Explaining) (events : List PoolEvent) (i : ℕ)
      (asked : RequestCall) (made : Call) (received : Received) (texts : RequestTexts)
      (text : List ℕ) : Type 0 where
    pub id : ℕ
    pub has : HasNumber received id
    pub receives : Contains events (at (record { instance = i; id = id }) (Receives id made))
    pub reply : Reply
    pub is_text : IsTextOf explaining (slot_for asked texts) reply text
    pub is_reply : IsReplyTo events (record { instance = i; id = id }) reply

  -- Holds if the text is that of the response to a request: its reply, or a true reason for 503.
  -- It is empty if memory ran out, and as long as the request waits.
  abbrev pub IsResponse : Explaining → List PoolEvent → ℕ → RequestCall → Call → Received
      → RequestTexts → List ℕ → Type 0
  IsResponse explaining events i asked made received texts text = (text ≡ [])
      ⊎ (IsAnswered explaining events i asked made received texts text
      ⊎ ((reason : Unavailable) × (text ≡ unavailable_text asked.closing reason)
      × IsReason list i received reason))

  -- Holds if a client of an instance was sent, or may be sent, the texts of its requests, in order,
  -- each once, and each is that of a response. It was accepted under a key just before the events
  -- `during` of the server. The events of the pool are those up to now.
  pub record IsSent (explaining : Explaining) (events : List PoolEvent) (i key name : ℕ)
      (during : List ServerEvent) : Type 0 where
    pub client : ClientState
    pub name_is : client.name ≡ name
    pub sent : sent_to key during ++ client.ready ≡ concat (texts_to key during)
    pub each : (earlier later : List ServerEvent) (asked : RequestCall) (made : Call)
        (received : Received) (texts : RequestTexts)
        → during ≡ earlier ++ Acts key name (Asks asked made received texts false) ∷ later
        → IsResponse explaining events i asked made received texts
        (text_for received (slot_for asked texts) later)

-- ---- real time

-- Holds if each request that was answered in the first steps is earlier in the list than each that
-- was received after them. A response of which a byte was sent has its answer before the byte.
abbrev pub IsInRealTime : (serves : ℕ → Bool) → List ListedAct → (first more : List Step) → Type 0
IsInRealTime serves list first more = (x y : RequestName) (basis : Basis) (reply : Reply)
    (call : Call) → serves x.instance ≡ true → serves y.instance ≡ true
    → Contains (pool_events first) (at x (Answers x.id basis reply))
    → Contains (pool_events more) (at y (Receives y.id call))
    → (n k : ℕ) → Stands list x n → Stands list y k → n < k

-- ---- the law

module _ {L S M T : Type 0} (I : Type 0) (gl : logs.Ghosts L) (gs : spaces.Ghosts S)
    (b : backends.Ghosts (PoolInstance L I S)) (m : moments.Ghosts M) (t : sources.Ghosts T) where
  -- Holds if the list explains what the clients of these instances are sent, at each moment: after
  -- each first part of the steps.
  pub record Explains (salt : List ℕ) (start : Airspace) (serves : ℕ → Bool) (steps : List Step)
      (doors : (i : ℕ) → serves i ≡ true → (from : Airspace) × ServesIn gl gs b m t steps salt from i)
      (list : List ListedAct) : Type 0 where
    pub sent : (i : ℕ) (is : serves i ≡ true) (first more : List Step) → steps ≡ first ++ more
        → (before during : List ServerEvent) (key name : ℕ)
        → server_events_at i first ≡ before ++ Accepts key name ∷ during → StaysOpen key during
        → IsSent salt start list (doors i is).1.setup.explaining (pool_events first) i key name during
    pub order : (first more : List Step) → steps ≡ first ++ more
        → IsInRealTime serves list first more

  -- States that such a list exists: that of the pool, which its instances share. Each instance started
  -- from a file with the first entries of the log.
  abbrev pub PoolServesEachClient : Type 0
  PoolServesEachClient = (salt : List ℕ) (start : Airspace) (offsets : ℕ → ℕ) (serves : ℕ → Bool)
      (steps : List Step) (pool : IsPoolFrom offsets (pool_events steps))
      (doors : (i : ℕ) → serves i ≡ true
      → ServesIn gl gs b m t steps salt (file_of acts_of salt start pool.log (offsets i)) i)
      → (list : List ListedAct)
      × IsOneListFrom acts_of salt start offsets serves (pool_events steps) pool.log list
      × Explains salt start serves steps
      (λ i is. (file_of acts_of salt start pool.log (offsets i), doors i is)) list
