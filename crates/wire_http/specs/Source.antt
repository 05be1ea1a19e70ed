-- The input of a stream, and the effect of reading.
use Rattle.std.specs.Prelude.{◌≡◌, ℕ, List, Option, Result, Ok, Err}
use Rattle.wire_http.specs.declared.fault.StreamFault.{StreamFault}
use Rattle.wire_http.specs.declared.source.Source.{Source}
use Rattle.wire_http.specs.Count.{Spends}
use Rattle.wire_http.specs.Counted.{inner_of, calls_of, failures_of}
use Rattle.wire_http.specs.Fault.{AbortedReading}
use Rattle.wire_http.specs.Input.{BufferGrew}

-- The bytes that were read and belong to no earlier request.
abbrev pub bytes_of : {R : Type 0} → Source R → List ℕ
bytes_of source = source.buffer.now.items

-- The bytes that the reader has not given yet, as far as they are known.
abbrev pub ahead_of : {R : Type 0} → (R → Option (List ℕ)) → Source R → Option (List ℕ)
ahead_of remaining source = remaining (inner_of source.reader.now)

-- Holds if reading used turns, and the source still has the same reader.
pub record HasSpent {R : Type 0} (old new : Source R) : Type 0 where
  pub turns : Spends old.turns new.turns (calls_of old.reader.now) (calls_of new.reader.now)
  pub reader : new.reader.ghost_name ≡ old.reader.ghost_name

-- Holds if the buffer grew by the bytes that the reader gave, and no read failed.
pub record HasRead {R : Type 0} (remaining : R → Option (List ℕ)) (old new : Source R)
    : Type 0 where
  pub spent : HasSpent old new
  pub came : BufferGrew (ahead_of remaining old) (ahead_of remaining new) (bytes_of old) (bytes_of new)
  pub good : failures_of new.reader.now ≡ failures_of old.reader.now

-- Holds if reading used turns and was aborted.
pub record HasGivenUp {R : Type 0} (old new : Source R) (fault : StreamFault) : Type 0 where
  pub spent : HasSpent old new
  pub why : AbortedReading old new fault

-- Holds if this is the effect of reading, given its result.
abbrev pub ReadsSource : {R A : Type 0} → (R → Option (List ℕ)) → Source R → Source R
    → Result A StreamFault → Type 0
ReadsSource remaining old new (Ok a) = HasRead remaining old new
ReadsSource remaining old new (Err fault) = HasGivenUp old new fault
