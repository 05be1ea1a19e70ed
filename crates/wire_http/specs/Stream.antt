-- What is served of a stream from a reader, of at most 100 requests.
use Rattle.std.specs.Prelude.{ℕ, List, Option}
use Rattle.space_core.specs.declared.space.Space.{Ghosts}
use Rattle.service_calls.specs.declared.service.Service.{Service}
use Rattle.token_conf.specs.TokenFile.{TokenFile, callers_of}
use Rattle.wire_http.specs.declared.end.Served.{Served}
use Rattle.wire_http.specs.declared.fault.StreamFault.{StreamFault}
use Rattle.wire_http.specs.Count.{max_requests}
use Rattle.wire_http.specs.Input.{IsInput}
use Rattle.wire_http.specs.Wire.{Serves, ServesPart}

-- The service, the clock, and the written bytes as far as they are known, at one point of a stream.
abbrev pub Stage : Type 0 → Type 0 → Type 0
Stage S M = Service S × M × Option (List ℕ)

module _ {S M : Type 0} (g : Ghosts S) (Gives : M → ℕ → M → Type 0) (tokens : TokenFile)
    (remaining : Option (List ℕ)) (was is : Stage S M) where
  -- Holds if the calls that the input of the reader represents were made and answered.
  abbrev pub ServesStream : Served → Type 0
  ServesStream served = (input : List ℕ) × IsInput remaining input
      × Serves g Gives (callers_of tokens) max_requests input
      was.0 is.0 was.1 is.1 was.2 is.2 served

  -- Holds if the first requests of the input were answered before a fault.
  abbrev pub ServesStreamPart : StreamFault → Type 0
  ServesStreamPart fault = (input : List ℕ) × IsInput remaining input
      × ServesPart g Gives (callers_of tokens) max_requests input
      was.0 is.0 was.1 is.1 was.2 is.2 fault
