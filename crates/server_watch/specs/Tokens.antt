-- How a service loads a changed token file.
use Rattle.std.specs.Prelude.{◌≡◌, ◌≢◌, ◌+◌, ◌-◌, ◌^◌, ◌==◌, ◌⊎◌, ℕ, Bool, true, false, List, Option, Some, None, Result, Ok, Err, if◌then◌else◌, min}
use Rattle.std.specs.Str.{IsUtf8}
use Rattle.token_conf.specs.TokenFile.{Fails, TokenFile, file_of, salt_of}
use Rattle.token_conf.specs.declared.conf_fault.ConfFault.TheVariants as conf
use Rattle.server_base.specs.declared.server_log.TokenReloadFault.{TokenReloadFault}
use Rattle.server_base.specs.declared.server_log.TokenReloadFault.TheVariants as fault

-- Holds if the token file may have bytes that represent this table, and the table has the same salt
-- as the first one.
abbrev pub IsTakenAfter : (gives : List ℕ → Type 0) → (first table : TokenFile) → Type 0
IsTakenAfter gives first table =
    (text : List ℕ) × gives text × (file_of text ≡ Ok table) × (salt_of table ≡ salt_of first)

-- The result of a text of the token file. Its table is loaded if it has the salt of the first one;
-- otherwise the reason is returned. Out of memory may be returned for any text.
abbrev pub ComesOf : (first : TokenFile) → (text : List ℕ) → Result TokenFile TokenReloadFault → Type 0
ComesOf first text (Ok table) = (file_of text ≡ Ok table) × (salt_of table ≡ salt_of first)
ComesOf first text (Err (fault.Wrong why)) = Fails why (file_of text)
ComesOf first text (Err fault.OtherSalt) =
    (table : TokenFile) × (file_of text ≡ Ok table) × (salt_of table ≢ salt_of first)
ComesOf first text (Err fault.Unread) = ⊥

-- What a reading found: a table to load, nothing new, or why a table was rejected.
abbrev pub Finding : Type 0
Finding = Result (Option TokenFile) TokenReloadFault

-- True if memory ran out at this fault, so that the bytes are checked again.
abbrev pub lacks_memory : TokenReloadFault → Bool
lacks_memory fault.Unread = false
lacks_memory fault.OtherSalt = false
lacks_memory (fault.Wrong conf.Memory) = true
lacks_memory (fault.Wrong conf.Toml) = false
lacks_memory (fault.Wrong conf.Salt) = false
lacks_memory (fault.Wrong conf.Token) = false
lacks_memory (fault.Wrong conf.Uss) = false
lacks_memory (fault.Wrong conf.Scopes) = false
lacks_memory (fault.Wrong conf.Repeated) = false

abbrev pub lacks : Finding → Bool
lacks (Ok table) = false
lacks (Err why) = lacks_memory why

-- One more, saturating at the maximum of `u32`.
abbrev pub one_miss_more : ℕ → ℕ
one_miss_more n = min (n + 1) (2 ^ 32 - 1)

-- The finding if the file could not be read so many times in a row. The second time is reported.
abbrev pub found_after : (misses : ℕ) → Finding
found_after misses = if misses == 2 then Err fault.Unread else Ok None

-- Holds if this was found when the file could not be read, or memory ran out for reading it.
abbrev pub IsMissed : (misses misses' : ℕ) → Finding → Type 0
IsMissed misses misses' found = ((misses' ≡ misses) × (found ≡ Err (fault.Wrong conf.Memory)))
    ⊎ ((misses' ≡ one_miss_more misses) × (found ≡ found_after misses'))

-- Holds if bytes of the file say this.
abbrev pub IsVerdict : (first : TokenFile) → (bytes : List ℕ) → Result TokenFile TokenReloadFault
    → Type 0
IsVerdict first bytes (Ok table) = ComesOf first bytes (Ok table)
IsVerdict first bytes (Err fault.Unread) = IsUtf8 bytes → ⊥
IsVerdict first bytes (Err (fault.Wrong why)) = ComesOf first bytes (Err (fault.Wrong why))
IsVerdict first bytes (Err fault.OtherSalt) = ComesOf first bytes (Err fault.OtherSalt)

-- The finding in bytes that say this.
abbrev pub found_in : Result TokenFile TokenReloadFault → Finding
found_in (Ok table) = Ok (Some table)
found_in (Err why) = Err why

-- Holds if this was found in the bytes of the file, given those that were last checked. Other bytes
-- are checked, and noted as checked unless memory runs out.
abbrev pub Checks : (first : TokenFile) → (bytes checked checked' : List ℕ) → Finding → Type 0
Checks first bytes checked checked' found =
    ((bytes ≡ checked) × (checked' ≡ checked) × (found ≡ Ok None))
    ⊎ ((bytes ≢ checked) × (checked' ≡ (if lacks found then checked else bytes))
    × ((verdict : Result TokenFile TokenReloadFault) × IsVerdict first bytes verdict
    × (found ≡ found_in verdict)))
