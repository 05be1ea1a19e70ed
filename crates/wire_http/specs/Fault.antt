-- Reasons to abort a stream.
use Rattle.std.specs.Prelude.{◌≡◌, ◌⊎◌, ℕ, Bool, List, Result, Err, codes}
use Rattle.wire_http.specs.declared.fault.StreamFault.{StreamFault}
use Rattle.wire_http.specs.declared.fault.StreamFault.TheVariants.{Read, Write, Clock, Memory, Turns}
use Rattle.wire_http.specs.declared.counted.Counted.{Counted}
use Rattle.wire_http.specs.declared.source.Source.{Source}
use Rattle.wire_http.specs.Count.{FailsLast, one_more}
use Rattle.wire_http.specs.Counted.{failures_of, has_failed}

abbrev pub number_of : StreamFault → ℕ
number_of Read = 1
number_of Write = 2
number_of Clock = 3
number_of Memory = 4
number_of Turns = 5

abbrev pub name_of : StreamFault → List ℕ
name_of Read = codes "Read"
name_of Write = codes "Write"
name_of Clock = codes "Clock"
name_of Memory = codes "Memory"
name_of Turns = codes "Turns"

-- Holds if the fault can abort a response: a write failed, or memory ran out.
abbrev pub IsOfAnswering : StreamFault → Type 0
IsOfAnswering Write = Unit {0}
IsOfAnswering Memory = Unit {0}
IsOfAnswering Read = ⊥
IsOfAnswering Clock = ⊥
IsOfAnswering Turns = ⊥

-- Holds if the fault can prevent a call: no request was complete, the clock failed, or memory ran
-- out.
abbrev pub IsOfAsking : StreamFault → Type 0
IsOfAsking Read = Unit {0}
IsOfAsking Clock = Unit {0}
IsOfAsking Memory = Unit {0}
IsOfAsking Turns = Unit {0}
IsOfAsking Write = ⊥

-- Holds if this is why reading was aborted: the last read failed, or none did and no turn is left
-- or memory ran out.
abbrev pub AbortedReading : {R : Type 0} → Source R → Source R → StreamFault → Type 0
AbortedReading old new Read =
    FailsLast (failures_of old.reader.now) (failures_of new.reader.now) (has_failed new.reader.now)
AbortedReading old new Turns =
    (new.turns ≡ 0) × (failures_of new.reader.now ≡ failures_of old.reader.now)
AbortedReading old new Memory = failures_of new.reader.now ≡ failures_of old.reader.now
AbortedReading old new Write = ⊥
AbortedReading old new Clock = ⊥

-- Holds if this is why the call was not made: the clock failed once, or it did not and memory ran
-- out.
abbrev pub AbortedCall : StreamFault → ℕ → ℕ → Type 0
AbortedCall Clock failures failures' = failures' ≡ one_more failures
AbortedCall Memory failures failures' = failures' ≡ failures
AbortedCall Read failures failures' = ⊥
AbortedCall Write failures failures' = ⊥
AbortedCall Turns failures failures' = ⊥

-- Holds if this is why a response was aborted: the last write failed, or none did and memory ran
-- out.
abbrev pub AbortedResponse : ℕ → ℕ → Bool → StreamFault → Type 0
AbortedResponse failures failures' failed Write = FailsLast failures failures' failed
AbortedResponse failures failures' failed Memory = failures' ≡ failures
AbortedResponse failures failures' failed Read = ⊥
AbortedResponse failures failures' failed Clock = ⊥
AbortedResponse failures failures' failed Turns = ⊥

-- Holds if the reported device failed once, and a reader or a writer was not called after it. No
-- other count of failures rose. If the fault says that no turn is left, none is left.
pub record ReportsFailure {R W T : Type 0} (old new : Source R) (writer writer' : Counted W)
    (clock clock' : ℕ) (result : Result T StreamFault) : Type 0 where
  pub read : result ≡ Err Read → FailsLast (failures_of old.reader.now)
      (failures_of new.reader.now) (has_failed new.reader.now)
  pub write : result ≡ Err Write
      → FailsLast (failures_of writer) (failures_of writer') (has_failed writer')
  pub clock_failed : result ≡ Err Clock → clock' ≡ one_more clock
  pub no_turns : result ≡ Err Turns → new.turns ≡ 0
  pub good_reader : (result ≡ Err Read) ⊎ (failures_of new.reader.now ≡ failures_of old.reader.now)
  pub good_writer : (result ≡ Err Write) ⊎ (failures_of writer' ≡ failures_of writer)
  pub good_clock : (result ≡ Err Clock) ⊎ (clock' ≡ clock)
