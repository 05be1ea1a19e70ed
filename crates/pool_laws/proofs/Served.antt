-- What the clients of all instances are sent.
use Rattle.std.proofs.Common.{◌≡◌, ◌∙◌, ◌==◌, ◌<◌, ℕ, Bool, true, false, List, [], ◌∷◌, ◌++◌, Option, Some, None, if◌then◌else◌, inl, inr, arith, refl, sym, ap, subst}
use Rattle.std.specs.Prelude.{Contains}
use Rattle.std.proofs.lemmas.Bool.{eq-eqb, eqb-true}
use Rattle.std.proofs.lemmas.List.{append-nil, append_assoc}
use Rattle.std.proofs.lemmas.List.Concat.{flat_map-append}
use Rattle.entity_core.specs.Airspace.{Airspace}
use Rattle.policy_core.specs.declared.call.Call.{Call}
use Rattle.service_step.specs.declared.reply.Reply.{Reply}
use Rattle.space_core.specs.declared.space.Space as spaces
use Rattle.wire_http.specs.SetAt.{set_at}
use Rattle.wire_http.specs.Wire.{RequestCall}
use Rattle.wire_http.specs.declared.moments.Moments as moments
use Rattle.wire_http.specs.declared.unavailable.Unavailable.{Unavailable}
use Rattle.wire_http.specs.declared.unavailable.Unavailable.TheVariants as unavailable
use Rattle.server_watch.specs.declared.token_watch.TokenSource as sources
use Rattle.server_backend.specs.BackendEvent.{BackendEvent, Receives as Takes}
use Rattle.server_backend.specs.Told.{reply_after}
use Rattle.server_backend.specs.declared.backend.Backend as backends
use Rattle.server_backend.specs.declared.outcome.Outcome.{Outcome}
use Rattle.server_backend.specs.declared.outcome.Outcome.TheVariants as outcomes
use Rattle.server_backend.specs.declared.outcome.Received.{Received}
use Rattle.server_backend.specs.declared.outcome.Received.TheVariants as came
use Rattle.server_clients.specs.Backends.{all_backend_events}
use Rattle.server_clients.specs.ClientEvents.{Asks}
use Rattle.server_clients.specs.ClientState.{ClientState, new_client, slot_for}
use Rattle.server_clients.specs.Clients.{EachClientIsServed, StaysOpen, text_for}
use Rattle.server_clients.specs.Replies.{IsTextFor, TextsAreOfReplies}
use Rattle.server_clients.specs.ServerEvents.{Accepts, Acts, FollowAll, ServerEvent, ServerState, Setup, backend_events_of}
use Rattle.server_clients.specs.Texts.{RequestTexts, outcome_text}
use Rattle.pool_core.specs.Events.{Answers, Basis, Drops, InstanceEvent, PoolEvent, Receives, events_at}
use Rattle.pool_core.specs.FromFiles.{IsOneListFrom, IsPoolFrom, file_of}
use Rattle.pool_core.specs.OneList.{ListedAct, RequestName, Stands, at}
use Rattle.pool_core.specs.Serves.{ServesPool}
use Rattle.pool_core.specs.declared.log.Log as logs
use Rattle.pool_core.proofs.FromFiles.{from_files}
use Rattle.pool_core.proofs.Lists.{contains_split}
use Rattle.pool_entry.specs.Acts.{acts_of}
use Rattle.pool_instance.specs.Parts.{salt_in}
use Rattle.pool_backend.specs.Pool.{AreGivenIn, failure_for, instance_of, retention_of}
use Rattle.pool_backend.specs.Served.{AreKnown, AreParts, events_in}
use Rattle.pool_backend.specs.declared.pool.PoolInstance.{PoolInstance}
use Rattle.pool_laws.specs.Clients.{IsReplyTo, IsResponse, IsSent, IsTrueOf, PoolServesEachClient}
use Rattle.pool_laws.specs.Steps.{ArePartsOf, ServesIn, Step, parts_at, parts_in, pool_events, server_events_at, server_events_in}
use Rattle.pool_laws.proofs.Answered.{IsAnsweredIn, IsOfRequest, request_in}
use Rattle.pool_laws.proofs.Reasons.{failed_in, first_outcome, no_reply, reply_is, reply_with, told_of}
use Rattle.pool_laws.proofs.Within.{contains_first, event_of, in_steps, pool_append}

-- ---- parts of lists

none_given : AreGivenIn [] []
none_given k d lt = absurd (omega (arith, lt))

parts_more : (retention : Option ℕ) (events more : List BackendEvent) (parts others : List (List InstanceEvent)) → AreParts retention events parts → AreParts retention more others → AreParts retention (events ++ more) (parts ++ others)
parts_more retention [] more [] others h h' = h'
parts_more retention [] more (part ∷ parts) others h h' = absurd h
parts_more retention (event ∷ events) more [] others h h' = absurd h
parts_more retention (event ∷ events) more (part ∷ parts) others h h' = (h.0, parts_more retention events more parts others h.1 h')

known_first : (retention : Option ℕ) (acc : List InstanceEvent) (events more : List BackendEvent) (parts others : List (List InstanceEvent)) → AreParts retention events parts → AreKnown acc (events ++ more) (parts ++ others) → AreKnown acc events parts
known_first retention acc [] more [] others h k = tt
known_first retention acc [] more (part ∷ parts) others h k = absurd h
known_first retention acc (event ∷ events) more [] others h k = absurd h
known_first retention acc (event ∷ events) more (part ∷ parts) others h k = (k.0, known_first retention (acc ++ part) events more parts others h.1 k.1)

at_self : (values : ℕ → Option ClientState) (key : ℕ) (value : Option ClientState) → set_at values key value key ≡ value
at_self values key value = ap (λ (v : Bool). if v then value else values key) (eq-eqb key key refl)

servers_append : (i : ℕ) (first more : List Step) → server_events_at i (first ++ more) ≡ server_events_at i first ++ server_events_at i more
servers_append i first more = flat_map-append (λ (step : Step). if i == step.instance then server_events_in step.event else []) first more

parts_append : (i : ℕ) (first more : List Step) → parts_at i (first ++ more) ≡ parts_at i first ++ parts_at i more
parts_append i first more = flat_map-append (λ (step : Step). if i == step.instance then parts_in step.event step.parts else []) first more

step_parts : (retention : Option ℕ) (event : Option ServerEvent) (parts : List (List InstanceEvent)) → ArePartsOf retention event parts → AreParts retention (all_backend_events (server_events_in event)) (parts_in event parts)
step_parts retention None parts h = tt
step_parts retention (Some event) parts h = subst (λ (v : List BackendEvent). AreParts retention v parts) (sym (append-nil (backend_events_of event))) h

one_step : (i : ℕ) (retention : Option ℕ) (step : Step) (same : Bool) → (i == step.instance) ≡ same → (step.instance ≡ i → ArePartsOf retention step.event step.parts)
    → AreParts retention (all_backend_events (if same then server_events_in step.event else [])) (if same then parts_in step.event step.parts else [])
one_step i retention step true is h = step_parts retention step.event step.parts (h (sym (eqb-true i step.instance is)))
one_step i retention step false is h = tt

-- What an instance did in the events of its server.
all_parts : (i : ℕ) (retention : Option ℕ) (steps : List Step) → ((step : Step) (first after : List Step) → steps ≡ first ++ step ∷ after → step.instance ≡ i → ArePartsOf retention step.event step.parts)
    → AreParts retention (all_backend_events (server_events_at i steps)) (parts_at i steps)
all_parts i retention [] each = tt
all_parts i retention (step ∷ steps) each =
    let here = if i == step.instance then server_events_in step.event else [] in
    subst (λ (v : List BackendEvent). AreParts retention v (parts_at i (step ∷ steps))) (sym (flat_map-append backend_events_of here (server_events_at i steps)))
    (parts_more retention (all_backend_events here) (all_backend_events (server_events_at i steps)) (if i == step.instance then parts_in step.event step.parts else []) (parts_at i steps)
    (one_step i retention step (i == step.instance) refl (each step [] steps refl))
    (all_parts i retention steps (λ other first after split name. each other (step ∷ first) after (ap (λ (v : List Step). step ∷ v) split) name)))

module _ {L I S M T : Type 0} (gl : logs.Ghosts L) (gs : spaces.Ghosts S) (b : backends.Ghosts (PoolInstance L I S)) (m : moments.Ghosts M) (t : sources.Ghosts T) (each : EachClientIsServed b m t) (of_replies : TextsAreOfReplies b m t) where
  parted : (setup : Setup) (before after : List ServerEvent) (old new : ServerState (PoolInstance L I S) M T) → FollowAll b m t setup (before ++ after) old new
      → (mid : ServerState (PoolInstance L I S) M T) × FollowAll b m t setup before old mid × FollowAll b m t setup after mid new
  parted setup [] after old new h = (old, refl, h)
  parted setup (event ∷ before) after old new h =
      let found = parted setup before after h.0 new h.2 in
      (found.0, (h.0, h.1, found.1), found.2)

  serves_pool : (steps : List Step) (salt : List ℕ) (start : Airspace) (i : ℕ) → ServesIn gl gs b m t steps salt start i → ServesPool acts_of salt start i (events_at i (pool_events steps))
  serves_pool steps salt start i door =
      let on = door.story.serves door.past start door.before door.after in
      subst (λ (v : List InstanceEvent). ServesPool acts_of salt start i v) (sym door.all)
      (subst (λ (v : List ℕ). ServesPool acts_of v start i (door.before ++ events_in door.story.parts)) door.salt_is
      (subst (λ (v : ℕ). ServesPool acts_of (salt_in (instance_of door.old.backend)) start v (door.before ++ events_in door.story.parts)) door.name_is (on.serves door.sound)))

  module _ (salt : List ℕ) (start : Airspace) (offsets : ℕ → ℕ) (serves : ℕ → Bool) (steps : List Step) (log : IsPoolFrom offsets (pool_events steps)) (list : List ListedAct)
      (one : IsOneListFrom acts_of salt start offsets serves (pool_events steps) log.log list) where
    in_all : (first more : List Step) (e : PoolEvent) → steps ≡ first ++ more → Contains (pool_events first) e → Contains (pool_events steps) e
    in_all first more e split h =
        subst (λ (v : List Step). Contains (pool_events v) e) (sym split) (subst (λ (v : List PoolEvent). Contains v e) (sym (pool_append first more)) (contains_first (pool_events first) (pool_events more) e h))

    unsent_is : (i : ℕ) → serves i ≡ true → (first more : List Step) → steps ≡ first ++ more → (id : ℕ) → Contains (events_in (parts_at i first)) (Drops id) → (n : ℕ) → Stands list (record { instance = i; id = id }) n → ⊥
    unsent_is i is first more split id h =
        let there = contains_split (pool_events steps) (event_of i (Drops id)) (in_all first more (event_of i (Drops id)) split (in_steps i (Drops id) first h)) in
        one.unsent (record { instance = i; id = id }) is (record { before = there.front; after = there.back; split = there.split })

    is_reply : (i : ℕ) → serves i ≡ true → (first more : List Step) → steps ≡ first ++ more → (id : ℕ) (reply : Reply) → IsAnsweredIn (events_in (parts_at i first)) id reply
        → IsReplyTo salt start list (pool_events first) (record { instance = i; id = id }) reply
    is_reply i is first more split id reply h = elim h [
      | inl it ↦ let there = in_steps i (Answers id it.0 reply) first it.1 in
          inl (it.0, there, one.answered (record { instance = i; id = id }) it.0 reply is (in_all first more (event_of i (Answers id it.0 reply)) split there))
      | inr it ↦ inr (it.0, unsent_is i is first more split id it.1)
    ]

    true_if_failed : (i : ℕ) → serves i ≡ true → (first more : List Step) → steps ≡ first ++ more → (id : ℕ) (reason : Unavailable) → Contains (events_in (parts_at i first)) (failure_for reason id) → IsTrueOf list (record { instance = i; id = id }) reason
    true_if_failed i is first more split id unavailable.Unknown h = tt
    true_if_failed i is first more split id unavailable.Unreachable h = unsent_is i is first more split id h
    true_if_failed i is first more split id unavailable.Unassigned h = unsent_is i is first more split id h

    in_real_time : (first more : List Step) → steps ≡ first ++ more → (x y : RequestName) (basis : Basis) (reply : Reply) (call : Call) → serves x.instance ≡ true → serves y.instance ≡ true
        → Contains (pool_events first) (at x (Answers x.id basis reply)) → Contains (pool_events more) (at y (Receives y.id call)) → (n k : ℕ) → Stands list x n → Stands list y k → n < k
    in_real_time first more split x y basis reply call sx sy answered received n k at_n at_k =
        let p = contains_split (pool_events first) (at x (Answers x.id basis reply)) answered in
        let q = contains_split (pool_events more) (at y (Receives y.id call)) received in
        let all : pool_events steps ≡ p.front ++ at x (Answers x.id basis reply) ∷ ((p.back ++ q.front) ++ at y (Receives y.id call) ∷ q.back) =
        ap (λ (v : List Step). pool_events v) split ∙ pool_append first more ∙ ap (λ (v : List PoolEvent). v ++ pool_events more) p.split ∙ ap (λ (v : List PoolEvent). (p.front ++ at x (Answers x.id basis reply) ∷ p.back) ++ v) q.split
        ∙ append_assoc p.front (at x (Answers x.id basis reply) ∷ p.back) (q.front ++ at y (Receives y.id call) ∷ q.back)
        ∙ ap (λ (v : List PoolEvent). p.front ++ at x (Answers x.id basis reply) ∷ v) (sym (append_assoc p.back q.front (at y (Receives y.id call) ∷ q.back))) in
        one.order x y sx sy (record { before = p.front; basis = basis; reply = reply; between = p.back ++ q.front; call = call; after = q.back; split = all }) n k at_n at_k

    module _ (i : ℕ) (is : serves i ≡ true) (from : Airspace) (door : ServesIn gl gs b m t steps salt from i) (first more : List Step) (split : steps ≡ first ++ more) where
      abbrev retention : Option ℕ
      retention = retention_of door.old.backend

      first_parts : AreParts retention (all_backend_events (server_events_at i first)) (parts_at i first)
      first_parts = all_parts i retention first (λ step before after at name. door.each step before (after ++ more) (split ∙ ap (λ (v : List Step). v ++ more) at ∙ append_assoc before (step ∷ after) more) name)

      first_known : AreKnown [] (all_backend_events (server_events_at i first)) (parts_at i first)
      first_known =
          let given = subst (λ (v : List (List InstanceEvent)). AreKnown [] (all_backend_events (server_events_at i steps)) v) door.parts (door.given [] (subst (λ (v : List (ℕ × Outcome)). AreGivenIn [] v) (sym door.none) none_given)) in
          let events : all_backend_events (server_events_at i steps) ≡ all_backend_events (server_events_at i first) ++ all_backend_events (server_events_at i more) =
          ap (λ (v : List Step). all_backend_events (server_events_at i v)) split ∙ ap all_backend_events (servers_append i first more) ∙ flat_map-append backend_events_of (server_events_at i first) (server_events_at i more) in
          let parts : parts_at i steps ≡ parts_at i first ++ parts_at i more = ap (λ (v : List Step). parts_at i v) split ∙ parts_append i first more in
          known_first retention [] (all_backend_events (server_events_at i first)) (all_backend_events (server_events_at i more)) (parts_at i first) (parts_at i more) first_parts
          (subst (λ (v : List BackendEvent). AreKnown [] v (parts_at i first ++ parts_at i more)) events (subst (λ (v : List (List InstanceEvent)). AreKnown [] (all_backend_events (server_events_at i steps)) v) parts given))

      -- The reply to a request among these events.
      request_of : (earlier later : List ServerEvent) (key name : ℕ) (asked : RequestCall) (made : Call) (received : Received) (texts : RequestTexts) → server_events_at i first ≡ earlier ++ Acts key name (Asks asked made received texts false) ∷ later
          → (reply : Reply) → reply_after received (all_backend_events later) ≡ Some reply → IsOfRequest received made reply (events_in (parts_at i first))
      request_of earlier later key name asked made received texts where_it_is reply told =
          let events : all_backend_events (server_events_at i first) ≡ all_backend_events earlier ++ Takes asked.moment made received ∷ all_backend_events later =
          ap all_backend_events where_it_is ∙ flat_map-append backend_events_of earlier (Acts key name (Asks asked made received texts false) ∷ later) in
          request_in retention [] (all_backend_events earlier) asked.moment made received (all_backend_events later) (parts_at i first)
          (subst (λ (v : List BackendEvent). AreParts retention v (parts_at i first)) events first_parts) (subst (λ (v : List BackendEvent). AreKnown [] v (parts_at i first)) events first_known) reply told

      -- A reason that the instance gave is true.
      reason_true : (earlier later : List ServerEvent) (key name : ℕ) (asked : RequestCall) (made : Call) (ticket : ℕ) (texts : RequestTexts) → server_events_at i first ≡ earlier ++ Acts key name (Asks asked made (came.Waits ticket) texts false) ∷ later
          → (reason : Unavailable) → first_outcome ticket (all_backend_events later) ≡ Some (outcomes.Unavailable reason) → IsTrueOf list (record { instance = i; id = ticket }) reason
      reason_true earlier later key name asked made ticket texts where_it_is reason told =
          let events : all_backend_events (server_events_at i first) ≡ all_backend_events earlier ++ Takes asked.moment made (came.Waits ticket) ∷ all_backend_events later =
          ap all_backend_events where_it_is ∙ flat_map-append backend_events_of earlier (Acts key name (Asks asked made (came.Waits ticket) texts false) ∷ later) in
          true_if_failed i is first more split ticket reason (failed_in retention [] (all_backend_events earlier) asked.moment made ticket (all_backend_events later) (parts_at i first)
          (subst (λ (v : List BackendEvent). AreParts retention v (parts_at i first)) events first_parts) (subst (λ (v : List BackendEvent). AreKnown [] v (parts_at i first)) events first_known) reason told)

      waits_reason : (earlier later : List ServerEvent) (key name : ℕ) (asked : RequestCall) (made : Call) (ticket : ℕ) (texts : RequestTexts) (text : List ℕ) → server_events_at i first ≡ earlier ++ Acts key name (Asks asked made (came.Waits ticket) texts false) ∷ later
          → reply_after (came.Waits ticket) (all_backend_events later) ≡ None → (outcome : Outcome) → first_outcome ticket (all_backend_events later) ≡ Some outcome → text ≡ outcome_text (slot_for asked texts) None outcome
          → IsResponse salt start list door.setup.explaining (pool_events first) i asked made (came.Waits ticket) texts text
      waits_reason earlier later key name asked made ticket texts text where_it_is none outcomes.Stands told h = inr (inr (unavailable.Unknown, h, tt))
      waits_reason earlier later key name asked made ticket texts text where_it_is none (outcomes.Replied reply) told h =
          no_reply reply (sym none ∙ reply_is ticket (all_backend_events later) ∙ ap reply_with told)
      waits_reason earlier later key name asked made ticket texts text where_it_is none (outcomes.Unavailable reason) told h =
          inr (inr (reason, h, reason_true earlier later key name asked made ticket texts where_it_is reason told))

      response_none : (earlier later : List ServerEvent) (key name : ℕ) (asked : RequestCall) (made : Call) (received : Received) (texts : RequestTexts) (mid end : ServerState (PoolInstance L I S) M T)
          → server_events_at i first ≡ earlier ++ Acts key name (Asks asked made received texts false) ∷ later → FollowAll b m t door.setup later mid end
          → reply_after received (all_backend_events later) ≡ None → IsTextFor door.setup.explaining (slot_for asked texts) None (text_for received (slot_for asked texts) later)
          → IsResponse salt start list door.setup.explaining (pool_events first) i asked made received texts (text_for received (slot_for asked texts) later)
      response_none earlier later key name asked made (came.Waits ticket) texts mid end where_it_is follow told h = elim (told_of b m t door.setup ticket (slot_for asked texts) later mid end follow) [
        | inl none ↦ inl none
        | inr it ↦ waits_reason earlier later key name asked made ticket texts (text_for (came.Waits ticket) (slot_for asked texts) later) where_it_is told it.0 it.1 it.2
      ]
      response_none earlier later key name asked made (came.Answered reply) texts mid end where_it_is follow told h = no_reply reply (sym told)
      response_none earlier later key name asked made (came.Drafted ticket reply) texts mid end where_it_is follow told h = elim h [
        | inl none ↦ inl none
        | inr why ↦ inr (inr (why.0, why.1, tt))
      ]
      response_none earlier later key name asked made (came.Refused reason) texts mid end where_it_is follow told h = elim h [
        | inl none ↦ inl none
        | inr why ↦ inr (inr (why.0, why.1, tt))
      ]

      response_by : (earlier later : List ServerEvent) (key name : ℕ) (asked : RequestCall) (made : Call) (received : Received) (texts : RequestTexts) (mid end : ServerState (PoolInstance L I S) M T)
          → server_events_at i first ≡ earlier ++ Acts key name (Asks asked made received texts false) ∷ later → FollowAll b m t door.setup later mid end
          → (told : Option Reply) → reply_after received (all_backend_events later) ≡ told → IsTextFor door.setup.explaining (slot_for asked texts) told (text_for received (slot_for asked texts) later)
          → IsResponse salt start list door.setup.explaining (pool_events first) i asked made received texts (text_for received (slot_for asked texts) later)
      response_by earlier later key name asked made received texts mid end where_it_is follow (Some reply) told h = elim h [
        | inl none ↦ inl none
        | inr is_text ↦ let of = request_of earlier later key name asked made received texts where_it_is reply told in
            inr (inl (record {
              id = of.id;
              has = of.has;
              receives = in_steps i (Receives of.id made) first of.receives;
              reply = reply;
              is_text = is_text;
              is_reply = is_reply i is first more split of.id reply of.answered;
            }))
      ]
      response_by earlier later key name asked made received texts mid end where_it_is follow None told h = response_none earlier later key name asked made received texts mid end where_it_is follow told h

      is_sent : (before during : List ServerEvent) (key name : ℕ) → server_events_at i first ≡ before ++ Accepts key name ∷ during → StaysOpen key during → IsSent salt start list door.setup.explaining (pool_events first) i key name during
      is_sent before during key name at stays =
          let all : server_events_at i steps ≡ server_events_at i first ++ server_events_at i more = ap (λ (v : List Step). server_events_at i v) split ∙ servers_append i first more in
          let whole = parted door.setup (server_events_at i first) (server_events_at i more) door.old door.new (subst (λ (v : List ServerEvent). FollowAll b m t door.setup v door.old door.new) all door.follow) in
          let outer = parted door.setup before (Accepts key name ∷ during) door.old whole.0 (subst (λ (v : List ServerEvent). FollowAll b m t door.setup v door.old whole.0) at whole.1) in
          let accepts = outer.2 in
          let begun = accepts.0 in
          let accepted : begun.clients key ≡ Some (new_client name) = ap (λ (s : ServerState (PoolInstance L I S) M T). s.clients key) accepts.1.1 ∙ at_self outer.0.clients key (Some (new_client name)) in
          let served = each door.setup during begun whole.0 key name accepts.2 accepted stays in
          record {
            client = served.0;
            name_is = served.2;
            sent = served.3;
            each = λ earlier later asked made received texts there.
                let behind = parted door.setup earlier (Acts key name (Asks asked made received texts false) ∷ later) begun whole.0 (subst (λ (v : List ServerEvent). FollowAll b m t door.setup v begun whole.0) there accepts.2) in
                response_by (before ++ Accepts key name ∷ earlier) later key name asked made received texts behind.2.0 whole.0
                (at ∙ ap (λ (v : List ServerEvent). before ++ Accepts key name ∷ v) there ∙ sym (append_assoc before (Accepts key name ∷ earlier) (Acts key name (Asks asked made received texts false) ∷ later)))
                behind.2.2
                (reply_after received (all_backend_events later)) refl
                (of_replies door.setup earlier later key name asked made received texts begun whole.0 (subst (λ (v : List ServerEvent). FollowAll b m t door.setup v begun whole.0) there accepts.2));
          }

  pub serves_each_client : PoolServesEachClient I gl gs b m t
  serves_each_client salt start offsets serves steps log doors =
      let found = from_files acts_of salt start offsets serves (pool_events steps) log (λ i is. serves_pool steps salt (file_of acts_of salt start log.log (offsets i)) i (doors i is)) in (
        found.0,
        found.1,
        record {
          sent = λ i is first more split before during key name at stays.
              is_sent salt start offsets serves steps log found.0 found.1 i is (file_of acts_of salt start log.log (offsets i)) (doors i is) first more split before during key name at stays;
          order = λ first more split x y basis reply call sx sy answered received n k at_n at_k. in_real_time salt start offsets serves steps log found.0 found.1 first more split x y basis reply call sx sy answered received n k at_n at_k;
        },
      )
