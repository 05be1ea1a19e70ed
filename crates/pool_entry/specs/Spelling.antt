-- The bytes of a batch of calls: a first line, then the fields of each call. The bytes of a purge:
-- a first line, then its time. Each batch and each purge has one spelling.
use Rattle.std.specs.Prelude.{◌≡◌, ◌<◌, ◌≤◌, ◌^◌, ℕ, Bool, true, false, List, [], ◌∷◌, ◌++◌, length, codes, decimal, None, IsUtf8}
use Rattle.std.specs.List.{flat_map, AllByRecursion}
use Rattle.entity_core.specs.IdTexts.{name_fault}
use Rattle.policy_core.specs.Scope.{Scopes}
use Rattle.pool_entry.specs.declared.pool_call.PoolCall.{PoolCall}
use Rattle.pool_entry.specs.declared.limits.TheConstants.{MAX_CALLS, MAX_BYTES}

-- A number in decimal digits, and the byte that ends it.
abbrev pub number_text : ℕ → ℕ → List ℕ
number_text last n = decimal n ++ last ∷ []

-- The length of a text, a colon, the text, and the byte that ends it. The text has any bytes.
abbrev pub counted_text : ℕ → List ℕ → List ℕ
counted_text last text = number_text 58 (length text) ++ (text ++ last ∷ [])

-- The letter of a scope, or `-`.
abbrev pub flag : ℕ → Bool → ℕ
flag letter true = letter
flag letter false = 45

-- Five letters, `smpca` for all scopes, and a space.
abbrev pub scopes_text : Scopes → List ℕ
scopes_text s = flag 115 s.strategic_coordination ∷ flag 109 s.conformance_monitoring
    ∷ flag 112 s.constraint_processing ∷ flag 99 s.constraint_management
    ∷ flag 97 s.availability_arbitration ∷ 32 ∷ []

-- The fields of a call. Each ends with a space, the body with a line feed.
abbrev pub call_text : PoolCall → List ℕ
call_text c = number_text 32 c.moment
    ++ (counted_text 32 c.caller.uss
    ++ (scopes_text c.caller.scopes
    ++ (counted_text 32 c.method ++ (counted_text 32 c.path ++ counted_text 10 c.body))))

-- The first line of a batch, with the version of the format.
abbrev pub header : List ℕ
header = codes "dss-batch 1" ++ 10 ∷ []

-- The bytes of a batch.
abbrev pub batch_text : List PoolCall → List ℕ
batch_text calls = header ++ flat_map call_text calls

-- Holds if a call can be spelled: its time is a number of 64 bits, its caller has a USS id, and its
-- path is UTF-8. No text is longer than memory can hold.
pub record IsCall (c : PoolCall) : Type 0 where
  pub moment : c.moment < 2 ^ 64
  pub uss : name_fault c.caller.uss ≡ None
  pub method : length c.method < 2 ^ 64
  pub path : IsUtf8 c.path
  pub path_len : length c.path < 2 ^ 64
  pub body : length c.body < 2 ^ 64

-- Holds if these calls are a batch: not too many, and their bytes not too long.
pub record IsBatch (calls : List PoolCall) : Type 0 where
  pub count : length calls ≤ MAX_CALLS
  pub size : length (batch_text calls) ≤ MAX_BYTES
  pub fits : AllByRecursion IsCall calls

-- Holds if the bytes represent these calls.
pub record SpellsBatch (bytes : List ℕ) (calls : List PoolCall) : Type 0 where
  pub bytes_are : bytes ≡ batch_text calls
  pub batch : IsBatch calls

-- ---- purges

-- The first line of a purge, with the version of the format. It is as long as that of a batch.
abbrev pub purge_header : List ℕ
purge_header = codes "dss-purge 1" ++ 10 ∷ []

-- The bytes of a purge up to a time: the first line, and the time with a line feed.
abbrev pub purge_text : ℕ → List ℕ
purge_text until = purge_header ++ number_text 10 until

-- Holds if the bytes represent a purge up to this time, which is a number of 64 bits.
pub record SpellsPurge (bytes : List ℕ) (until : ℕ) : Type 0 where
  pub bytes_are : bytes ≡ purge_text until
  pub fits : until < 2 ^ 64
