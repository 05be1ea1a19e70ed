-- Lemmas: a server over a new database.
use Rattle.std.proofs.Common.{◌≡◌, ◌≤◌, ℕ, List, Option, refl, sym, subst, ◌∙◌, arith}
use Rattle.service_calls.specs.Held.{space_of}
use Rattle.service_calls.specs.declared.service.Service.{Service}
use Rattle.space_core.specs.declared.group_commit.GroupCommit as settles
use Rattle.space_core.specs.declared.space.Space as spaces
use Rattle.wire_http.specs.declared.moments.Moments as moments
use Rattle.server_base.specs.History.{HistoryEvent}
use Rattle.server_watch.specs.declared.clock_watch.ClockWatch.{ClockWatch}
use Rattle.server_watch.specs.declared.token_watch.TokenSource as sources
use Rattle.server_watch.specs.declared.token_watch.TokenWatch.{TokenWatch}
use Rattle.server_backend.specs.declared.backend.Backend as backends
use Rattle.database_backend.specs.Database.{IsNewDatabase, service_of, tickets_of, told_of}
use Rattle.database_backend.specs.declared.database.Database.{Database}
use Rattle.server_clients.specs.ServerEvents.{Setup}
use Rattle.server.specs.Rounds.{RoundsAreSettled, ServesClients, start}
use Rattle.database_laws.specs.OneList.{CallsOfClientsAreOneList}
use Rattle.dss_command.specs.Service.{IsServiceOver, ServesClients as Serves}

none_below : (n : ℕ) → n ≤ 0 → n ≡ 0
none_below n h = omega arith

none_told : {S : Type 0} (service : Service S) (keep : Option ℕ) (d : Database S) → IsNewDatabase service keep d → told_of d ≡ tickets_of d
none_told service keep d new =
    none_below (told_of d) (subst (λ (n : ℕ). told_of d ≤ n) (new.quiet.settled ∙ new.tickets) new.quiet.told) ∙ sym new.tickets

module _ {S M T : Type 0} (g : spaces.Ghosts S) (k : settles.Ghosts S) (b : backends.Ghosts (Database S)) (m : moments.Ghosts M) (t : sources.Ghosts T)
    (one_list : CallsOfClientsAreOneList g k b m t) (settled : RoundsAreSettled b m t) where
  -- The calls that the server made are one list, and the clients were sent their replies.
  pub serves_clients : (setup : Setup) (keep : Option ℕ) (first : Service S) (old new : S) (d d' : Database S) (known : ClockWatch) (watch : TokenWatch T) (clock clock' : M) (past now : Option (List HistoryEvent))
      → IsNewDatabase first keep d → IsServiceOver setup.first old first → new ≡ space_of (service_of d') → ServesClients b m t setup known watch d d' clock clock' past now
      → Serves g k b m t setup keep watch old new clock clock' past now
  serves_clients setup keep first old new d d' known watch clock clock' past now is_new over ends serves = record {
    begins = d;
    known = known;
    end = serves.end;
    starts = subst (λ (s : Service S). IsServiceOver setup.first old s) (sym is_new.service_is) over;
    keeps = is_new.retention_is;
    runs = serves.runs;
    calls = one_list setup _ (start b m t setup d clock known watch) serves.end serves.runs.follow
        (record { table = refl; quiet = is_new.quiet; told = none_told first keep d is_new }) (settled setup _ serves.end past now serves.runs);
    clock_is = serves.clock_is;
    ends = subst (λ (v : Database S). new ≡ space_of (service_of v)) (sym serves.backend_is) ends;
  }
