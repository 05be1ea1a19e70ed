-- The history that simulated sockets record.
use Rattle.std.specs.Prelude.{◌≡◌, List, ◌++◌, ◌∷◌, [], map}
use Rattle.std.proofs.lemmas.List.{map_push}
use Rattle.test_simulation.specs.Record.{event_of}
use Rattle.test_simulation.specs.declared.record.Noted.{Noted}

-- A recorded event is the next one of the history.
pub noted_after : (xs : List Noted) (y : Noted) → map event_of (xs ++ y ∷ []) ≡ map event_of xs ++ event_of y ∷ []
noted_after xs y = map_push event_of xs y
