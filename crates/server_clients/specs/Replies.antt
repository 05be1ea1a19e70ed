-- The texts of responses, and the replies that the backend gave.
use Rattle.std.specs.Prelude.{◌≡◌, ◌⊎◌, ℕ, false, List, [], ◌∷◌, ◌++◌, Option, Some, None}
use Rattle.policy_core.specs.declared.call.Call.{Call}
use Rattle.service_step.specs.declared.reply.Reply.{Reply}
use Rattle.wire_http.specs.Notes.{MayBeNotes}
use Rattle.wire_http.specs.Text.{noted_text, unavailable_text}
use Rattle.wire_http.specs.Wire.{RequestCall}
use Rattle.wire_http.specs.declared.explaining.Explaining.{Explaining}
use Rattle.wire_http.specs.declared.moments.Moments as moments
use Rattle.wire_http.specs.declared.unavailable.Unavailable.{Unavailable}
use Rattle.server_watch.specs.declared.token_watch.TokenSource as sources
use Rattle.server_backend.specs.Told.{reply_after}
use Rattle.server_backend.specs.declared.backend.Backend as backends
use Rattle.server_backend.specs.declared.outcome.Received.{Received}
use Rattle.server_clients.specs.Backends.{all_backend_events}
use Rattle.server_clients.specs.ClientEvents.{Asks}
use Rattle.server_clients.specs.ClientState.{slot_for}
use Rattle.server_clients.specs.Clients.{text_for}
use Rattle.server_clients.specs.ServerEvents.{Acts, FollowAll, ServerEvent, ServerState, Setup}
use Rattle.server_clients.specs.Texts.{RequestTexts, Slot}

-- Holds if the text is that of the response to this reply, with some texts. Without the option to
-- explain there are none.
abbrev pub IsTextOf : Explaining → Slot → Reply → (text : List ℕ) → Type 0
IsTextOf explaining slot reply text = (notes : List (List ℕ)) × MayBeNotes explaining notes
    × (text ≡ noted_text notes slot.endpoint slot.closing reply)

-- Holds if the text is that of the response to this reply, if there is one, and otherwise that of
-- status 503. It is empty if memory ran out, and as long as no outcome was given.
abbrev pub IsTextFor : Explaining → Slot → Option Reply → (text : List ℕ) → Type 0
IsTextFor explaining slot (Some reply) text = (text ≡ []) ⊎ IsTextOf explaining slot reply text
IsTextFor explaining slot None text =
    (text ≡ []) ⊎ ((reason : Unavailable) × (text ≡ unavailable_text slot.closing reason))

module _ {B M T : Type 0} (b : backends.Ghosts B) (m : moments.Ghosts M) (t : sources.Ghosts T)
  where
    -- States that the text of the response to each request is that of the reply that the backend
    -- gave to it, at once or by an outcome under its ticket.
    abbrev pub TextsAreOfReplies : Type 0
    TextsAreOfReplies = (setup : Setup) (before after : List ServerEvent) (key name : ℕ)
        (asked : RequestCall) (made : Call) (received : Received) (texts : RequestTexts)
        (old new : ServerState B M T)
        → FollowAll b m t setup
        (before ++ Acts key name (Asks asked made received texts false) ∷ after) old new
        → IsTextFor setup.explaining (slot_for asked texts)
        (reply_after received (all_backend_events after))
        (text_for received (slot_for asked texts) after)
