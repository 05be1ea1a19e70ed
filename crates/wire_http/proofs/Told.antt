-- Lemmas: what a turn of a stream reports of its devices.
use Rattle.std.proofs.Common.{◌≡◌, ℕ, Ok, Err, inl, inr, refl}
use Rattle.wire_http.specs.declared.counted.Counted.{Counted}
use Rattle.wire_http.specs.declared.fault.StreamFault.{StreamFault}
use Rattle.wire_http.specs.declared.fault.StreamFault.TheVariants as faults
use Rattle.wire_http.specs.declared.source.Source.{Source}
use Rattle.wire_http.specs.Counted.{failures_of, has_failed}
use Rattle.wire_http.specs.Fault.{AbortedResponse, ReportsFailure}

module _ {R W T : Type 0} (old new : Source R) (writer writer' : Counted W) (clock clock' : ℕ) (reads : failures_of new.reader.now ≡ failures_of old.reader.now) (ticks : clock' ≡ clock) where
  -- Nothing failed.
  pub tells_good : (x : T) → failures_of writer' ≡ failures_of writer → ReportsFailure old new writer writer' clock clock' (Ok x)
  tells_good x writes = record {
    read = λ e. absurd (let is = e in cc);
    write = λ e. absurd (let is = e in cc);
    clock_failed = λ e. absurd (let is = e in cc);
    no_turns = λ e. absurd (let is = e in cc);
    good_reader = inr reads;
    good_writer = inr writes;
    good_clock = inr ticks;
  }

  -- Responding was aborted.
  pub tells_answering : (fault : StreamFault) → AbortedResponse (failures_of writer) (failures_of writer') (has_failed writer') fault → ReportsFailure {T = T} old new writer writer' clock clock' (Err fault)
  tells_answering faults.Write failed = record {
    read = λ e. absurd (let is = e in cc);
    write = λ e. failed;
    clock_failed = λ e. absurd (let is = e in cc);
    no_turns = λ e. absurd (let is = e in cc);
    good_reader = inr reads;
    good_writer = inl refl;
    good_clock = inr ticks;
  }
  tells_answering faults.Memory failed = record {
    read = λ e. absurd (let is = e in cc);
    write = λ e. absurd (let is = e in cc);
    clock_failed = λ e. absurd (let is = e in cc);
    no_turns = λ e. absurd (let is = e in cc);
    good_reader = inr reads;
    good_writer = inr failed;
    good_clock = inr ticks;
  }
  tells_answering faults.Read failed = absurd failed
  tells_answering faults.Clock failed = absurd failed
  tells_answering faults.Turns failed = absurd failed
