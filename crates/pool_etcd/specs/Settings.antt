-- The numbers of settings.
use Rattle.std.specs.Prelude.{ℕ, List, ◌∷◌, ◌++◌, codes, take}
use Rattle.std.specs.Fmt.{decimal}
use Rattle.std.specs.Int.{from_be_bytes, w64}
use Rattle.sha2.specs.Sha256.{sha256}

-- The numbers of the policy and of the airspace at the beginning of the log.
abbrev pub settings_numbers : (policy beginning : ℕ) → List ℕ
settings_numbers policy beginning = decimal policy ++ 32 ∷ decimal beginning

-- Three lines: what it is, the two numbers, and the salt. No line feed ends the last one.
abbrev pub settings_message : (policy beginning : ℕ) (salt : List ℕ) → List ℕ
settings_message policy beginning salt =
    codes "dss-settings 3" ++ 10 ∷ settings_numbers policy beginning ++ 10 ∷ salt

-- The number of the settings with which an instance evaluates calls.
abbrev pub settings_number : (policy beginning : ℕ) (salt : List ℕ) → ℕ
settings_number policy beginning salt =
    from_be_bytes w64 (take 8 (sha256 (settings_message policy beginning salt)))
