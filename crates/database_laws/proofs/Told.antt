-- The replies that the backend gave do not depend on the calls of the requests.
use Rattle.std.proofs.Common.{◌≡◌, ℕ, List, [], ◌∷◌, Option, Some, None, refl, ap, ◌∙◌}
use Rattle.service_step.specs.declared.reply.Reply.{Reply}
use Rattle.server_backend.specs.BackendEvent.{Advances, Announces, Answers, BackendEvent, Forgets, Gives, GivesNone, Receives, Settles, Stops as StopsBackend, outcome_in}
use Rattle.server_backend.specs.Told.{reply_after, reply_in, reply_under, told_replies}
use Rattle.server_backend.specs.declared.outcome.Received.{Received}
use Rattle.server_backend.specs.declared.outcome.Received.TheVariants as came
use Rattle.server_clients.specs.Backends.{all_backend_events}
use Rattle.server_clients.specs.ClientEvents.{Asks, EndsStream, ReadsClock, Steps}
use Rattle.server_clients.specs.ServerEvents.{Accepts, Acts, Closes, Confirms, Looks, Moves, Refuses, ServerEvent, Stops, Tells, Works}
use Rattle.database_laws.proofs.Asked.{asked_events}

-- The reply under a ticket, after one more event.
under_more : (ticket : ℕ) (draft : Option Reply) (event : BackendEvent) (xs ys : List BackendEvent) → reply_under ticket draft xs ≡ reply_under ticket draft ys
    → reply_under ticket draft (event ∷ xs) ≡ reply_under ticket draft (event ∷ ys)
under_more ticket draft event xs ys same = ap (λ (v : Option Reply). reply_in ticket draft (outcome_in event) v) same

same_under : (ticket : ℕ) (draft : Option Reply) (events : List ServerEvent) → reply_under ticket draft (asked_events events) ≡ reply_under ticket draft (all_backend_events events)
same_under ticket draft [] = refl
same_under ticket draft (Accepts key name ∷ events) = same_under ticket draft events
same_under ticket draft (Refuses name ∷ events) = same_under ticket draft events
same_under ticket draft (Acts key name (Steps step) ∷ events) = same_under ticket draft events
same_under ticket draft (Acts key name (Asks asked made received texts lost) ∷ events) = same_under ticket draft events
same_under ticket draft (Acts key name (EndsStream end) ∷ events) = same_under ticket draft events
same_under ticket draft (Acts key name (ReadsClock moment) ∷ events) = same_under ticket draft events
same_under ticket draft (Tells event other outcome lost ∷ events) = under_more ticket draft event (asked_events events) (all_backend_events events) (same_under ticket draft events)
same_under ticket draft (Works event ∷ events) = under_more ticket draft event (asked_events events) (all_backend_events events) (same_under ticket draft events)
same_under ticket draft (Moves moment held now ∷ events) = same_under ticket draft events
same_under ticket draft (Looks now found ∷ events) = same_under ticket draft events
same_under ticket draft (Confirms ∷ events) = same_under ticket draft events
same_under ticket draft (Stops ∷ events) = same_under ticket draft events
same_under ticket draft (Closes key ∷ events) = same_under ticket draft events

same_after : (received : Received) (events : List ServerEvent) → reply_after received (asked_events events) ≡ reply_after received (all_backend_events events)
same_after (came.Answered reply) events = refl
same_after (came.Drafted ticket reply) events = same_under ticket (Some reply) events
same_after (came.Waits ticket) events = same_under ticket None events
same_after (came.Refused reason) events = refl

-- The replies, after one more event of the backend.
told_more : (event : BackendEvent) (events : List ServerEvent) → told_replies (asked_events events) ≡ told_replies (all_backend_events events)
    → told_replies (event ∷ asked_events events) ≡ told_replies (event ∷ all_backend_events events)
told_more (Receives moment call received) events same =
    ap (λ (v : Option Reply). v ∷ told_replies (asked_events events)) (same_after received events)
    ∙ ap (λ (v : List (Option Reply)). reply_after received (all_backend_events events) ∷ v) same
told_more Settles events same = same
told_more (Advances moment held now) events same = same
told_more (Gives ticket outcome) events same = same
told_more GivesNone events same = same
told_more (Announces ticket) events same = same
told_more (Answers moment ticket outcome) events same = same
told_more (Forgets ticket) events same = same
told_more StopsBackend events same = same

pub same_told : (events : List ServerEvent) → told_replies (asked_events events) ≡ told_replies (all_backend_events events)
same_told [] = refl
same_told (Accepts key name ∷ events) = same_told events
same_told (Refuses name ∷ events) = same_told events
same_told (Acts key name (Steps step) ∷ events) = same_told events
same_told (Acts key name (Asks asked made received texts lost) ∷ events) = told_more (Receives asked.moment made received) events (same_told events)
same_told (Acts key name (EndsStream end) ∷ events) = same_told events
same_told (Acts key name (ReadsClock moment) ∷ events) = same_told events
same_told (Tells event ticket outcome lost ∷ events) = told_more event events (same_told events)
same_told (Works event ∷ events) = told_more event events (same_told events)
same_told (Moves moment held now ∷ events) = same_told events
same_told (Looks now found ∷ events) = same_told events
same_told (Confirms ∷ events) = same_told events
same_told (Stops ∷ events) = same_told events
same_told (Closes key ∷ events) = same_told events
