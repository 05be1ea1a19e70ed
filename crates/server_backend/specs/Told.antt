-- The replies that a backend gave to its requests, given its events.
use Rattle.std.specs.Prelude.{◌==◌, ℕ, List, [], ◌∷◌, Option, Some, None, if◌then◌else◌}
use Rattle.service_step.specs.declared.reply.Reply.{Reply}
use Rattle.server_backend.specs.BackendEvent.{Advances, Announces, Answers, BackendEvent, Forgets, Gives, GivesNone, Receives, Settles, Stops, outcome_in}
use Rattle.server_backend.specs.declared.outcome.Outcome.{Outcome}
use Rattle.server_backend.specs.declared.outcome.Outcome.TheVariants as outcomes
use Rattle.server_backend.specs.declared.outcome.Received.{Received}
use Rattle.server_backend.specs.declared.outcome.Received.TheVariants as came

-- The reply to a request with this draft, if it has one, given its outcome. It is none if no reply
-- is known.
abbrev pub reply_by : (draft : Option Reply) → Outcome → Option Reply
reply_by draft outcomes.Stands = draft
reply_by draft (outcomes.Replied reply) = Some reply
reply_by draft (outcomes.Unavailable reason) = None

-- The same, given an outcome with its ticket, if there is one: `later` if it has another ticket.
abbrev pub reply_in : (ticket : ℕ) → (draft : Option Reply) → Option (ℕ × Outcome)
    → (later : Option Reply) → Option Reply
reply_in ticket draft None later = later
reply_in ticket draft (Some given) later =
    if ticket == given.0 then reply_by draft given.1 else later

-- The reply to a request with a ticket, given the events after its receipt: that of the first
-- outcome under its ticket. There is none if no outcome was given.
abbrev pub reply_under : (ticket : ℕ) → (draft : Option Reply) → List BackendEvent → Option Reply
reply_under ticket draft [] = None
reply_under ticket draft (event ∷ events) =
    reply_in ticket draft (outcome_in event) (reply_under ticket draft events)

-- The reply to a request, if the backend gave one, given the events after its receipt.
abbrev pub reply_after : Received → (after : List BackendEvent) → Option Reply
reply_after (came.Answered reply) after = Some reply
reply_after (came.Drafted ticket reply) after = reply_under ticket (Some reply) after
reply_after (came.Waits ticket) after = reply_under ticket None after
reply_after (came.Refused reason) after = None

-- The replies that the backend gave to its requests, in the order of their receipts. There is none
-- for a request that has none yet.
abbrev pub told_replies : List BackendEvent → List (Option Reply)
told_replies [] = []
told_replies (Receives moment call received ∷ events) =
    reply_after received events ∷ told_replies events
told_replies (Settles ∷ events) = told_replies events
told_replies (Advances moment held now ∷ events) = told_replies events
told_replies (Gives ticket outcome ∷ events) = told_replies events
told_replies (GivesNone ∷ events) = told_replies events
told_replies (Announces ticket ∷ events) = told_replies events
told_replies (Answers moment ticket outcome ∷ events) = told_replies events
told_replies (Forgets ticket ∷ events) = told_replies events
told_replies (Stops ∷ events) = told_replies events
