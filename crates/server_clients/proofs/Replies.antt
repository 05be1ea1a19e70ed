-- The text of a response is that of the reply of its request.
use Rattle.std.proofs.Common.{◌≡◌, ◌==◌, ℕ, Bool, true, false, List, [], ◌∷◌, ◌++◌, Option, Some, None, if◌then◌else◌, refl, sym, ap, subst, inl, inr}
use Rattle.service_step.specs.declared.reply.Reply.{Reply}
use Rattle.service_step.specs.declared.reply.Reply.TheVariants as replies
use Rattle.wire_http.specs.Notes.{MayBeNotes}
use Rattle.wire_http.specs.Text.{unavailable_text}
use Rattle.wire_http.specs.declared.explaining.Explaining.{Explaining}
use Rattle.wire_http.specs.declared.explaining.Explaining.TheVariants.{Off, On}
use Rattle.wire_http.specs.declared.moments.Moments as moments
use Rattle.wire_http.specs.declared.unavailable.Unavailable.TheVariants as unavailable
use Rattle.server_watch.specs.declared.token_watch.TokenSource as sources
use Rattle.server_backend.specs.BackendEvent.{Advances, Announces, Answers, BackendEvent, Forgets, Gives, GivesNone, Receives as Takes, Settles, Stops as StopsBackend, is_own, outcome_in}
use Rattle.server_backend.specs.Told.{reply_after, reply_by, reply_in as reply_of_event, reply_under}
use Rattle.server_backend.specs.declared.backend.Backend as backends
use Rattle.server_backend.specs.declared.outcome.Outcome.{Outcome}
use Rattle.server_backend.specs.declared.outcome.Outcome.TheVariants as outcomes
use Rattle.server_backend.specs.declared.outcome.Received.{Received}
use Rattle.server_backend.specs.declared.outcome.Received.TheVariants as came
use Rattle.server_clients.specs.Backends.{all_backend_events}
use Rattle.server_clients.specs.ClientEvents.{Asks, EndsStream, ReadsClock, Steps}
use Rattle.server_clients.specs.ClientState.{Waiting, drafted, slot_for, waiting}
use Rattle.server_clients.specs.Clients.{text_for, told_text}
use Rattle.server_clients.specs.Replies.{IsTextFor, IsTextOf, TextsAreOfReplies}
use Rattle.server_clients.specs.ServerEvents.{Accepts, Acts, Closes, Confirms, FollowAll, Looks, Moves, Refuses, ServerEvent, ServerState, Setup, Stops, Tells, Works}
use Rattle.server_clients.specs.Texts.{MayHaveTexts, RequestTexts, Slot, outcome_text, reply_in, texts_for, without_texts}

-- ---- texts

no_notes : (explaining : Explaining) → MayBeNotes explaining []
no_notes Off = refl
no_notes On = tt

notes_for : (explaining : Explaining) (t : RequestTexts) (reply : Reply) → MayHaveTexts explaining t → MayBeNotes explaining (texts_for t reply)
notes_for explaining t (replies.Done answer) may = may.1
notes_for explaining t (replies.Denied _ _) may = may.0
notes_for explaining t replies.Fault may = no_notes explaining
notes_for explaining t replies.Stopped may = no_notes explaining

is_text_of : (explaining : Explaining) (slot : Slot) (reply : Reply) → MayHaveTexts explaining slot.texts → IsTextOf explaining slot reply (reply_in slot reply)
is_text_of explaining slot reply may = (texts_for slot.texts reply, notes_for explaining slot.texts reply may, refl)

nothing : (explaining : Explaining) (slot : Slot) (reply : Option Reply) → IsTextFor explaining slot reply []
nothing explaining slot None = inl refl
nothing explaining slot (Some reply) = inl refl

-- ---- outcomes

-- What a request that waits keeps: its slot, with texts or without, and the text of its draft.
pub record Keeps (explaining : Explaining) (slot : Slot) (draft : Option Reply) (w : Waiting) : Type 0 where
  pub may : MayHaveTexts explaining w.slot.texts
  pub closing : w.slot.closing ≡ slot.closing
  pub told : (reply : Reply) → IsTextOf explaining slot reply (reply_in w.slot reply)
  pub stands : IsTextFor explaining slot draft (outcome_text w.slot w.draft outcomes.Stands)

-- The text of an outcome.
outcome_is : (explaining : Explaining) (slot : Slot) (draft : Option Reply) (w : Waiting) → Keeps explaining slot draft w → (outcome : Outcome) → IsTextFor explaining slot (reply_by draft outcome) (outcome_text w.slot w.draft outcome)
outcome_is explaining slot draft w k outcomes.Stands = k.stands
outcome_is explaining slot draft w k (outcomes.Replied reply) = inr (k.told reply)
outcome_is explaining slot draft w k (outcomes.Unavailable reason) = inr (reason, ap (λ (v : Bool). unavailable_text v reason) k.closing)

outcome_here : (explaining : Explaining) (slot : Slot) (draft : Option Reply) (w : Waiting) → Keeps explaining slot draft w → (c lost : Bool) (outcome : Outcome) (later : Option Reply) (text : List ℕ)
    → IsTextFor explaining slot later text
    → IsTextFor explaining slot (if c then reply_by draft outcome else later) (if c then (if lost then [] else outcome_text w.slot w.draft outcome) else text)
outcome_here explaining slot draft w k true true outcome later text h = nothing explaining slot (reply_by draft outcome)
outcome_here explaining slot draft w k true false outcome later text h = outcome_is explaining slot draft w k outcome
outcome_here explaining slot draft w k false lost outcome later text h = h

-- An event of the backend without an outcome does not count.
own_gives_none : (event : BackendEvent) → is_own event ≡ true → outcome_in event ≡ None
own_gives_none (Takes moment call received) h = refl
own_gives_none Settles h = refl
own_gives_none (Advances moment held now) h = refl
own_gives_none (Gives ticket outcome) h = absurd (let no : false ≡ true = h in cc)
own_gives_none GivesNone h = refl
own_gives_none (Announces ticket) h = refl
own_gives_none (Answers moment ticket outcome) h = absurd (let no : false ≡ true = h in cc)
own_gives_none (Forgets ticket) h = refl
own_gives_none StopsBackend h = refl

module _ {B M T : Type 0} (b : backends.Ghosts B) (m : moments.Ghosts M) (t : sources.Ghosts T)
    (setup : Setup) where
  module _ (ticket : ℕ) (slot : Slot) (draft : Option Reply) (w : Waiting) (k : Keeps setup.explaining slot draft w) (ticket_is : w.ticket ≡ ticket) where
    abbrev Goal : List ServerEvent → Type 0
    Goal events = IsTextFor setup.explaining slot (reply_under ticket draft (all_backend_events events)) (told_text (Some w) events)

    -- The text of the first outcome under the ticket is that of its reply.
    told_is : (events : List ServerEvent) (old new : ServerState B M T) → FollowAll b m t setup events old new → Goal events
    told_is [] old new h = inl refl
    told_is (Tells event other outcome lost ∷ events) old new h =
        let later = reply_under ticket draft (all_backend_events events) in
        subst (λ (v : Option (ℕ × Outcome)). IsTextFor setup.explaining slot (reply_of_event ticket draft v later) (told_text (Some w) (Tells event other outcome lost ∷ events))) (sym h.1.2)
        (subst (λ (n : ℕ). IsTextFor setup.explaining slot (if n == other then reply_by draft outcome else later) (told_text (Some w) (Tells event other outcome lost ∷ events))) ticket_is
        (outcome_here setup.explaining slot draft w k (w.ticket == other) lost outcome later (told_text (Some w) events) (told_is events h.0 new h.2)))
    told_is (Accepts key name ∷ events) old new h = told_is events h.0 new h.2
    told_is (Refuses name ∷ events) old new h = told_is events h.0 new h.2
    told_is (Acts key name (Steps step) ∷ events) old new h = told_is events h.0 new h.2
    told_is (Acts key name (Asks asked made received texts lost) ∷ events) old new h = told_is events h.0 new h.2
    told_is (Acts key name (EndsStream end) ∷ events) old new h = told_is events h.0 new h.2
    told_is (Acts key name (ReadsClock moment) ∷ events) old new h = told_is events h.0 new h.2
    told_is (Works event ∷ events) old new h =
        subst (λ (v : Option (ℕ × Outcome)). IsTextFor setup.explaining slot (reply_of_event ticket draft v (reply_under ticket draft (all_backend_events events))) (told_text (Some w) events)) (sym (own_gives_none event h.1.1))
        (told_is events h.0 new h.2)
    told_is (Moves moment held now ∷ events) old new h = told_is events h.0 new h.2
    told_is (Looks now found ∷ events) old new h = told_is events h.0 new h.2
    told_is (Confirms ∷ events) old new h = told_is events h.0 new h.2
    told_is (Stops ∷ events) old new h = told_is events h.0 new h.2
    told_is (Closes key ∷ events) old new h = told_is events h.0 new h.2

  text_is : (slot : Slot) → MayHaveTexts setup.explaining slot.texts → (received : Received) (events : List ServerEvent) (old new : ServerState B M T) → FollowAll b m t setup events old new
      → IsTextFor setup.explaining slot (reply_after received (all_backend_events events)) (text_for received slot events)
  text_is slot may (came.Answered reply) events old new h = inr (is_text_of setup.explaining slot reply may)
  text_is slot may (came.Drafted ticket reply) events old new h =
      told_is ticket slot (Some reply) (drafted ticket slot reply) (record {
        may = (no_notes setup.explaining, no_notes setup.explaining);
        closing = refl;
        told = λ other. is_text_of setup.explaining (without_texts slot) other (no_notes setup.explaining, no_notes setup.explaining);
        stands = inr (is_text_of setup.explaining slot reply may);
      }) refl events old new h
  text_is slot may (came.Waits ticket) events old new h =
      told_is ticket slot None (waiting ticket slot) (record {
        may = may;
        closing = refl;
        told = λ other. is_text_of setup.explaining slot other may;
        stands = inr (unavailable.Unknown, refl);
      }) refl events old new h
  text_is slot may (came.Refused reason) events old new h = inr (reason, refl)

  -- The events after some others go on from where those lead.
  goes_on : (before after : List ServerEvent) (old new : ServerState B M T) → FollowAll b m t setup (before ++ after) old new → (mid : ServerState B M T) × FollowAll b m t setup after mid new
  goes_on [] after old new h = (old, h)
  goes_on (event ∷ before) after old new h = goes_on before after h.0 new h.2

module _ {B M T : Type 0} (b : backends.Ghosts B) (m : moments.Ghosts M) (t : sources.Ghosts T) where
  pub are_of_replies : TextsAreOfReplies b m t
  are_of_replies setup before after key name asked made received texts old new h =
      let rest = goes_on b m t setup before (Acts key name (Asks asked made received texts false) ∷ after) old new h in
      let last = rest.1 in
      text_is b m t setup (slot_for asked texts) last.1.4.3.texts_are received after last.0 new last.2
