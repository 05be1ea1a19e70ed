-- Lemmas: the setup of a server.
use Rattle.std.proofs.Common.{◌≡◌, Bool, List, Option, subst}
use Rattle.token_conf.specs.TokenFile.{TokenFile}
use Rattle.wire_http.specs.declared.explaining.Explaining.{Explaining}
use Rattle.wire_http.specs.declared.moments.Moments as moments
use Rattle.server_base.specs.History.{HistoryEvent}
use Rattle.server_watch.specs.declared.clock_watch.ClockWatch.{ClockWatch}
use Rattle.server_watch.specs.declared.token_watch.TokenSource as sources
use Rattle.server_watch.specs.declared.token_watch.TokenWatch.{TokenWatch}
use Rattle.server_backend.specs.declared.backend.Backend as backends
use Rattle.server.specs.Rounds.{ServesClients}
use Rattle.server.specs.Watches.{setup_of}

-- A server has an admin port exactly if it was configured.
pub operated_as : {B M T : Type 0} (b : backends.Ghosts B) (m : moments.Ghosts M) (t : sources.Ghosts T) (explaining : Explaining) (first : TokenFile) (has is_operated is_counted : Bool) (known : ClockWatch) (watch : TokenWatch T)
    (old new : B) (clock clock' : M) (past now : Option (List HistoryEvent)) → has ≡ is_operated → ServesClients b m t (setup_of explaining first has is_counted) known watch old new clock clock' past now
    → ServesClients b m t (setup_of explaining first is_operated is_counted) known watch old new clock clock' past now
operated_as {B} {M} {T} b m t explaining first has is_operated is_counted known watch old new clock clock' past now same serves =
    subst (λ (v : Bool). ServesClients b m t (setup_of explaining first v is_counted) known watch old new clock clock' past now) same serves
