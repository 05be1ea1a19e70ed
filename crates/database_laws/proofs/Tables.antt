-- The token tables that the events of a server load, and the requests under each.
use Rattle.std.proofs.Common.{◌≡◌, List, [], ◌∷◌, Some, None, refl, ap, subst}
use Rattle.std.specs.Prelude.{All}
use Rattle.std.specs.List.{flat_map}
use Rattle.std.proofs.lemmas.List.Elements.{All-cons, All-nil}
use Rattle.token_conf.specs.TokenFile.{TokenFile, callers_of}
use Rattle.wire_http.specs.Wire.{RequestCall}
use Rattle.wire_http.specs.declared.moments.Moments as moments
use Rattle.server_base.specs.Calls.{IsAskedBy}
use Rattle.server_watch.specs.Tokens.{IsTakenAfter}
use Rattle.server_watch.specs.declared.token_watch.TokenSource as sources
use Rattle.server_backend.specs.declared.backend.Backend as backends
use Rattle.server_clients.specs.ClientEvents.{Asks, EndsStream, ReadsClock, Steps}
use Rattle.server_clients.specs.ServerEvents.{Accepts, Acts, Closes, Confirms, FollowAll, Looks, Moves, Refuses, ServerEvent, ServerState, Setup, Stops, Tells, Works}
use Rattle.database_laws.specs.Requests.{all_requests}
use Rattle.database_laws.specs.Serve.{AskedUnder}

abbrev tables_in : ServerEvent → List TokenFile
tables_in (Accepts key name) = []
tables_in (Refuses name) = []
tables_in (Acts key name event) = []
tables_in (Tells event ticket outcome lost) = []
tables_in (Works event) = []
tables_in (Moves moment held now) = []
tables_in (Looks now (Some table)) = table ∷ []
tables_in (Looks now None) = []
tables_in Confirms = []
tables_in Stops = []
tables_in (Closes key) = []

abbrev pub tables : List ServerEvent → List TokenFile
tables events = flat_map tables_in events

-- One more request under the first table, or one more table before it.
asked_first : (table : TokenFile) (more : List TokenFile) (asked : RequestCall) (all : List RequestCall) → IsAskedBy (callers_of table) asked → AskedUnder (table ∷ more) all
    → AskedUnder (table ∷ more) (asked ∷ all)
asked_first table more asked all is h =
    (asked ∷ h.0, h.1, ap (λ (v : List RequestCall). asked ∷ v) h.2, All-cons (IsAskedBy (callers_of table)) asked h.0 is h.3, h.4)

table_first : (table : TokenFile) (more : List TokenFile) (all : List RequestCall) → AskedUnder more all → AskedUnder (table ∷ more) all
table_first table more all h = ([], all, refl, All-nil (IsAskedBy (callers_of table)), h)

module _ {B M T : Type 0} (b : backends.Ghosts B) (m : moments.Ghosts M) (t : sources.Ghosts T) (setup : Setup) where
  -- The table stays.
  stays : (old mid : ServerState B M T) (more : List TokenFile) (all : List RequestCall) → mid.table ≡ old.table → AskedUnder (mid.table ∷ more) all → AskedUnder (old.table ∷ more) all
  stays old mid more all same h = subst (λ (v : TokenFile). AskedUnder (v ∷ more) all) same h

  pub asked_under : (events : List ServerEvent) (old new : ServerState B M T) → FollowAll b m t setup events old new → AskedUnder (old.table ∷ tables events) (all_requests events)
  asked_under [] old new h = ([], [], refl, All-nil (IsAskedBy (callers_of old.table)), refl)
  asked_under (Accepts key name ∷ events) old new h =
      stays old h.0 (tables events) (all_requests events) (ap (λ (s : ServerState B M T). s.table) h.1.1) (asked_under events h.0 new h.2)
  asked_under (Refuses name ∷ events) old new h =
      stays old h.0 (tables events) (all_requests events) (ap (λ (s : ServerState B M T). s.table) h.1) (asked_under events h.0 new h.2)
  asked_under (Acts key name (Steps step) ∷ events) old new h =
      stays old h.0 (tables events) (all_requests events) (ap (λ (s : ServerState B M T). s.table) h.1.5) (asked_under events h.0 new h.2)
  asked_under (Acts key name (Asks asked made received texts lost) ∷ events) old new h =
      let asks = h.1.4.3.asks [] in
      asked_first old.table (tables events) asked (all_requests events) (asks.body, asks.call)
      (stays old h.0 (tables events) (all_requests events) (ap (λ (s : ServerState B M T). s.table) h.1.5) (asked_under events h.0 new h.2))
  asked_under (Acts key name (EndsStream end) ∷ events) old new h =
      stays old h.0 (tables events) (all_requests events) (ap (λ (s : ServerState B M T). s.table) h.1.5) (asked_under events h.0 new h.2)
  asked_under (Acts key name (ReadsClock moment) ∷ events) old new h =
      stays old h.0 (tables events) (all_requests events) (ap (λ (s : ServerState B M T). s.table) h.1.5) (asked_under events h.0 new h.2)
  asked_under (Tells event ticket outcome lost ∷ events) old new h =
      stays old h.0 (tables events) (all_requests events) (ap (λ (s : ServerState B M T). s.table) h.1.5) (asked_under events h.0 new h.2)
  asked_under (Works event ∷ events) old new h =
      stays old h.0 (tables events) (all_requests events) (ap (λ (s : ServerState B M T). s.table) h.1.3) (asked_under events h.0 new h.2)
  asked_under (Moves moment held now ∷ events) old new h =
      stays old h.0 (tables events) (all_requests events) (ap (λ (s : ServerState B M T). s.table) h.1.7) (asked_under events h.0 new h.2)
  asked_under (Looks now None ∷ events) old new h =
      stays old h.0 (tables events) (all_requests events) (ap (λ (s : ServerState B M T). s.table) h.1.3) (asked_under events h.0 new h.2)
  asked_under (Looks now (Some table) ∷ events) old new h =
      table_first old.table (table ∷ tables events) (all_requests events)
      (subst (λ (v : TokenFile). AskedUnder (v ∷ tables events) (all_requests events)) (ap (λ (s : ServerState B M T). s.table) h.1.3) (asked_under events h.0 new h.2))
  asked_under (Confirms ∷ events) old new h =
      stays old h.0 (tables events) (all_requests events) (ap (λ (s : ServerState B M T). s.table) h.1.3) (asked_under events h.0 new h.2)
  asked_under (Stops ∷ events) old new h =
      stays old h.0 (tables events) (all_requests events) (ap (λ (s : ServerState B M T). s.table) h.1.1) (asked_under events h.0 new h.2)
  asked_under (Closes key ∷ events) old new h =
      stays old h.0 (tables events) (all_requests events) (ap (λ (s : ServerState B M T). s.table) h.1.3) (asked_under events h.0 new h.2)

  pub all_taken : (events : List ServerEvent) (old new : ServerState B M T) → FollowAll b m t setup events old new → All (IsTakenAfter t.gives setup.first) (tables events)
  all_taken [] old new h = All-nil (IsTakenAfter t.gives setup.first)
  all_taken (Accepts key name ∷ events) old new h = all_taken events h.0 new h.2
  all_taken (Refuses name ∷ events) old new h = all_taken events h.0 new h.2
  all_taken (Acts key name event ∷ events) old new h = all_taken events h.0 new h.2
  all_taken (Tells event ticket outcome lost ∷ events) old new h = all_taken events h.0 new h.2
  all_taken (Works event ∷ events) old new h = all_taken events h.0 new h.2
  all_taken (Moves moment held now ∷ events) old new h = all_taken events h.0 new h.2
  all_taken (Looks now None ∷ events) old new h = all_taken events h.0 new h.2
  all_taken (Looks now (Some table) ∷ events) old new h =
      All-cons (IsTakenAfter t.gives setup.first) table (tables events) h.1.2 (all_taken events h.0 new h.2)
  all_taken (Confirms ∷ events) old new h = all_taken events h.0 new h.2
  all_taken (Stops ∷ events) old new h = all_taken events h.0 new h.2
  all_taken (Closes key ∷ events) old new h = all_taken events h.0 new h.2
