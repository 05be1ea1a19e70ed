-- What a USS is sent does not depend on OVNs that it does not know.
use Rattle.std.specs.Prelude.{◌≡◌, ◌==◌, ℕ, Bool, true, false, List, [], ◌∷◌, map, if◌then◌else◌}
use Rattle.std.specs.List.{AllByRecursion, flat_map}
use Rattle.entity_core.specs.Airspace.{IsAirspace}
use Rattle.policy_core.specs.Blind.{IsLike, is_by}
use Rattle.service_calls.specs.Blind.{AllCalledAlike}
use Rattle.service_calls.specs.Run.{answered_calls, has_stopped}
use Rattle.service_purge.specs.Segments.{LookAheadOncePurged}
use Rattle.service_step.specs.declared.reply.Reply.{Reply}
use Rattle.service_step.specs.declared.reply.Reply.TheVariants.{Done, Denied, Fault, Stopped}
use Rattle.space_core.specs.declared.group_commit.GroupCommit as settles
use Rattle.wire_http.specs.Wire.{RequestCall}
use Rattle.wire_http.specs.declared.end.End.{End}
use Rattle.wire_http.specs.declared.explaining.Explaining.TheVariants.{Off}
use Rattle.wire_http.specs.declared.moments.Moments as moments
use Rattle.server_watch.specs.declared.token_watch.TokenSource as sources
use Rattle.server_backend.specs.declared.backend.Backend as backends
use Rattle.database_backend.specs.declared.database.Database.{Database}
use Rattle.database_laws.specs.Responses.{Cause, Finishes, Requests, all_causes}
use Rattle.client_laws.specs.Executions.{Client, Execution, bytes_for, calls_in, place_of, replies_in, salt_in}

-- ---- what one client causes

-- What causes a response, as one client sees it: its request, and whether that has a response; the
-- request of another client; or the end of its stream.
pub data Seen : Type 0 where
  Own : (asked : RequestCall) → (responds : Bool) → Seen
  Other : Seen
  Ends : (end : End) → Seen

abbrev pub seen_by : (key : ℕ) → Cause → List Seen
seen_by key (Requests other asked responds) =
    if key == other then Own asked responds ∷ [] else Other ∷ []
seen_by key (Finishes other end) = if key == other then Ends end ∷ [] else []

abbrev pub all_seen_by : (key : ℕ) → List Cause → List Seen
all_seen_by key causes = flat_map (seen_by key) causes

-- Holds if a request of the client is made by the USS.
abbrev pub IsBy : (uss : List ℕ) → Seen → Type 0
IsBy uss (Own asked responds) = is_by uss asked.call ≡ true
IsBy uss Other = Unit {0}
IsBy uss (Ends end) = Unit {0}

-- ---- executions

abbrev pub has_failed : Reply → Bool
has_failed (Done answer) = false
has_failed (Denied _ _) = false
has_failed Fault = true
has_failed Stopped = true

module _ {S M T : Type 0} (k : settles.Ghosts S) (b : backends.Ghosts (Database S))
    (m : moments.Ghosts M) (t : sources.Ghosts T) where
  -- Holds if no purge is visible in an execution, no reply was `Stopped`, and responses have no
  -- explanations.
  pub record IsPlain (run : Execution k b m t) : Type 0 where
    pub valid : IsAirspace run.start
    pub goes : has_stopped (replies_in k b m t run) ≡ false
    pub ahead : LookAheadOncePurged (salt_in k b m t run) run.start run.policy.segments
        run.policy.batches
    pub brief : run.setup.explaining ≡ Off

  -- Holds if two executions differ, for a USS, only in OVNs and versions that it does not know. They
  -- begin in airspaces that are alike to it, and have the same calls, of which the same ones failed.
  -- No call knows more in one than in the other.
  pub record AreAlike (uss : List ℕ) (one two : Execution k b m t) : Type 0 where
    pub salt : salt_in k b m t two ≡ salt_in k b m t one
    pub start : IsLike uss one.start two.start
    pub calls : calls_in k b m t two ≡ calls_in k b m t one
    pub failed :
        map has_failed (replies_in k b m t two) ≡ map has_failed (replies_in k b m t one)
    pub known : AllCalledAlike (salt_in k b m t one) uss
        (answered_calls (calls_in k b m t one) (replies_in k b m t one)) one.start two.start

  -- Holds if a client of each execution makes the same requests at the same places, all by the USS,
  -- each with a response in both or in none, and its stream ends in the same way.
  pub record AreSame (uss : List ℕ) {one two : Execution k b m t} (c : Client k b m t one)
      (d : Client k b m t two) : Type 0 where
    pub place : place_of k b m t two d ≡ place_of k b m t one c
    pub seen : all_seen_by d.key (all_causes d.during) ≡ all_seen_by c.key (all_causes c.during)
    pub own : AllByRecursion (IsBy uss) (all_seen_by c.key (all_causes c.during))

  -- ---- the law

  -- States that the client is sent the same bytes in both.
  abbrev pub ClientsAreBlind : Type 0
  ClientsAreBlind = (uss : List ℕ) (one two : Execution k b m t) (c : Client k b m t one)
      (d : Client k b m t two) → AreAlike uss one two → IsPlain one → IsPlain two
      → AreSame uss c d → bytes_for k b m t two d ≡ bytes_for k b m t one c
