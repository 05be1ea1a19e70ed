-- How a command reports a stream that it serves, with one time for all calls.
use Rattle.std.specs.Prelude.{◌≡◌, ◌⊎◌, ℕ, List, Option}
use Rattle.dss_command.specs.Fault.{IsOfStream}
use Rattle.dss_command.specs.Service.{IsServiceOver}
use Rattle.dss_command.specs.declared.fault.Fault.{Fault}
use Rattle.dss_command.specs.declared.fault.Fault.TheVariants.{Memory}
use Rattle.service_calls.specs.Held.{space_of}
use Rattle.service_calls.specs.declared.service.Service.{Service}
use Rattle.entity_core.specs.Airspace.{empty_at}
use Rattle.space_core.specs.Space.{IsContent}
use Rattle.space_core.specs.declared.space.Space.{Ghosts}
use Rattle.token_conf.specs.TokenFile.{TokenFile, callers_of}
use Rattle.wire_http.specs.Count.{max_requests}
use Rattle.wire_http.specs.Input.{IsInput}
use Rattle.wire_http.specs.Moments.{moment_of}
use Rattle.wire_http.specs.Wire.{Serves, ServesPart}
use Rattle.wire_http.specs.declared.end.Served.{Served}
use Rattle.wire_http.specs.declared.fault.StreamFault.{StreamFault}
use Rattle.wire_http.specs.declared.moments.FixedClock.{FixedClock}

-- The results of a fixed clock: always its time, and no change.
abbrev pub StandsStill : FixedClock → ℕ → FixedClock → Type 0
StandsStill old moment new = (moment ≡ moment_of old) × (new ≡ old)

module _ {S : Type 0} (g : Ghosts S) (tokens : TokenFile) (now : ℕ)
    (remaining before after : Option (List ℕ)) where
  -- States that a service executed the requests of a reader's input, each call at that time, and
  -- that the responses were written.
  pub record ServesAt (old new : Service S) (served : Served) : Type 0 where
    pub input : List ℕ
    pub clock : FixedClock
    pub clock' : FixedClock
    pub stands : moment_of clock ≡ now
    pub input_is : IsInput remaining input
    pub serves : Serves g StandsStill (callers_of tokens) max_requests input old new clock clock'
        before after served

  -- States that it executed the first requests, and that their responses were written, before the
  -- stream was aborted.
  pub record ServesPartAt (old new : Service S) (fault : Fault) : Type 0 where
    pub why : StreamFault
    pub fault_is : IsOfStream why fault
    pub input : List ℕ
    pub clock : FixedClock
    pub clock' : FixedClock
    pub stands : moment_of clock ≡ now
    pub input_is : IsInput remaining input
    pub serves : ServesPart g StandsStill (callers_of tokens) max_requests input old new clock
        clock' before after why

  -- States the same of a service over a space, which is returned as it then is.
  pub record ServesOver (old new : S) : Type 0 where
    pub first : Service S
    pub last : Service S
    pub served : Served
    pub starts : IsServiceOver tokens old first
    pub serves : ServesAt first last served
    pub ends : new ≡ space_of last

  -- States the same of a stream that was aborted. If memory ran out for the routes, nothing was
  -- executed or written.
  abbrev pub ServesPartOver : (old new : S) → Fault → Type 0
  ServesPartOver old new fault =
      ((fault ≡ Memory) × (new ≡ old) × (after ≡ before))
      ⊎ ((first : Service S) × (last : Service S) × IsServiceOver tokens old first
      × ServesPartAt first last fault × (new ≡ space_of last))

  -- States the same of a space whose content is the empty airspace.
  abbrev pub ServesEmpty : Type 0
  ServesEmpty = (old : S) × (new : S) × IsContent g.holds old (empty_at 0) × ServesOver old new
