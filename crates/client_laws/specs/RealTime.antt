-- The order of the list of calls is the order that clients can observe.
use Rattle.std.specs.Prelude.{◌≡◌, ◌+◌, ◌<◌, ◌==◌, ◌&&◌, ℕ, List, [], ◌∷◌, ◌++◌, drop, length, map, IfSome, Option, Some, None, if◌then◌else◌}
use Rattle.std.specs.List.{AllByRecursion}
use Rattle.space_core.specs.declared.group_commit.GroupCommit as settles
use Rattle.wire_http.specs.Text.{end_texts}
use Rattle.wire_http.specs.Wire.{timed}
use Rattle.wire_http.specs.declared.moments.Moments as moments
use Rattle.server_watch.specs.declared.token_watch.TokenSource as sources
use Rattle.server_backend.specs.declared.backend.Backend as backends
use Rattle.database_backend.specs.declared.database.Database.{Database}
use Rattle.database_laws.specs.Requests.{all_requests}
use Rattle.database_laws.specs.Responses.{Cause, Finishes, Requests, all_causes}
use Rattle.client_laws.specs.Executions.{Client, Execution, calls_in, count_up_to, place_of, sent_of}

-- For each text to the client under a key, in order: the place of its request in the list of calls,
-- and nothing for the text that ends the stream. The first request has the place `from`.
abbrev pub places_to : (key from : ℕ) → List Cause → List (Option ℕ)
places_to key from [] = []
places_to key from (Requests other asked responds ∷ more) =
    (if key == other && responds then Some from ∷ [] else []) ++ places_to key (from + 1) more
places_to key from (Finishes other end ∷ more) =
    (if key == other then map (λ text. None) (end_texts end) else []) ++ places_to key from more

module _ {S M T : Type 0} (k : settles.Ghosts S) (b : backends.Ghosts (Database S))
    (m : moments.Ghosts M) (t : sources.Ghosts T) where
  -- Holds if each text of which the client was sent a byte, or may be sent one now, is at an earlier
  -- place than each request that comes later.
  pub record IsInRealTime (run : Execution k b m t) (client : Client k b m t run) : Type 0 where
    pub places : List (Option ℕ)
    pub places_are :
        places ≡ places_to client.key (place_of k b m t run client) (all_causes client.during)
    pub one_each : length (sent_of k b m t run client).sent.texts ≡ length places
    pub earlier : AllByRecursion (λ place. IfSome place (λ n. n < count_up_to k b m t run client))
        places
    pub later : drop (count_up_to k b m t run client) (calls_in k b m t run)
        ≡ map timed (all_requests client.rest)

  -- ---- the law

  -- States that this holds of each client, at each moment.
  abbrev pub ResponsesAreInRealTime : Type 0
  ResponsesAreInRealTime =
      (run : Execution k b m t) (client : Client k b m t run) → IsInRealTime run client
