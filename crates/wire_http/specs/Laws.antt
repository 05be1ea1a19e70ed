-- Laws of the calls that a stream represents.
use Rattle.std.specs.Prelude.{◌≡◌, ℕ, List}
use Rattle.token_conf.specs.TokenFile.{Callers}
use Rattle.wire_http.specs.declared.end.End.{End}
use Rattle.wire_http.specs.Stop.{AreSameEnds}
use Rattle.wire_http.specs.Wire.{RequestCall, Finishes, Leads}

-- Holds if in each state a clock gives only one time, and has only one next state.
abbrev pub OneMoment : {M : Type 0} → (M → ℕ → M → Type 0) → Type 0
OneMoment {M} Gives = (c : M) (m n : ℕ) (d e : M) → Gives c m d → Gives c n e → (n ≡ m) × (e ≡ d)

-- States that with such a clock the bytes of a stream represent one list of calls, and one end. The
-- exception is a rest with two valid ends.
abbrev pub OneStream : {M : Type 0} → (M → ℕ → M → Type 0) → Type 0
OneStream {M} Gives = OneMoment Gives
    → (callers : Callers) (bound : ℕ) (rest : List ℕ) (clock : M)
    → (all others : List RequestCall) (n m : ℕ) (left last : List ℕ) (d e : M) (end other : End)
    → Leads Gives callers bound rest clock all n left d → Finishes n left end
    → Leads Gives callers bound rest clock others m last e → Finishes m last other
    → (others ≡ all) × (last ≡ left) × (e ≡ d) × AreSameEnds left end other
