-- The use of a backend, as a list of events.
use Rattle.std.specs.Prelude.{◌≡◌, List, [], ◌∷◌}
use Rattle.server_backend.specs.BackendEvent.{BackendEvent}

-- Holds if these events lead from the backend `old` to `new`, in this order, given how one event
-- leads from one backend to the next.
abbrev pub DoesAll : {B : Type 0} → (B → BackendEvent → B → Type 0) → List BackendEvent → B → B
    → Type 0
DoesAll steps [] old new = new ≡ old
DoesAll {B} steps (event ∷ events) old new =
    (mid : B) × steps old event mid × DoesAll steps events mid new
