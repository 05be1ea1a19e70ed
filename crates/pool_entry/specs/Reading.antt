-- Reading the bytes of an entry from left to right, up to the first fault.
use Rattle.std.specs.Prelude.{◌≡◌, ◌==◌, ◌&&◌, ◌+◌, ◌^◌, ℕ, zero, suc, Bool, true, false, nat_lt, List, [], ◌∷◌, length, take, drop, get_or, decimal, position, Option, Some, None, is_none, option_map, Result, Ok, Err, if◌then◌else◌}
use Rattle.std.specs.Str.{bytes_eq, is_utf8}
use Rattle.std.specs.Str.Parse.{digits_value}
use Rattle.entity_core.specs.IdTexts.{name_fault}
use Rattle.policy_core.specs.Scope.{Scopes}
use Rattle.pool_entry.specs.declared.batch_fault.Field.TheVariants as fields
use Rattle.pool_entry.specs.declared.batch_fault.BatchFault.{BatchFault}
use Rattle.pool_entry.specs.declared.batch_fault.BatchFault.TheVariants.{TooLong, Header, TooMany, Call, Until}
use Rattle.pool_entry.specs.declared.batch_fault.ReadError.{ReadError}
use Rattle.pool_entry.specs.declared.batch_fault.ReadError.TheVariants as errors
use Rattle.pool_entry.specs.declared.pool_call.PoolCall.{PoolCall}
use Rattle.pool_entry.specs.declared.read.EntryContent.{EntryContent}
use Rattle.pool_entry.specs.declared.read.EntryContent.TheVariants.{Batch, Purge}
use Rattle.pool_entry.specs.declared.limits.TheConstants.{MAX_CALLS, MAX_BYTES}
use Rattle.pool_entry.specs.Spelling.{header, purge_header}

infixl 10 ◌>>=◌
abbrev pub ◌>>=◌ : {A B : Type 0} → Result A BatchFault → (A → Result B BatchFault)
    → Result B BatchFault
(Ok x) >>= f = f x
(Err e) >>= f = Err e

-- ---- results of readers

-- Holds if the error is possible: memory may always run out, and a fault is the one of the reading.
abbrev pub Fails : {Y : Type 0} → ReadError → Result Y BatchFault → Type 0
Fails errors.Memory read = Unit {0}
Fails (errors.Fault fault) read = read ≡ Err fault

-- Holds if the result is that of the reading, under a view, or memory ran out.
abbrev pub Gives : {X Y : Type 0} → (X → Y) → Result X ReadError → Result Y BatchFault → Type 0
Gives view (Ok x) read = read ≡ Ok (view x)
Gives view (Err e) read = Fails e read

-- ---- fields

-- The number of a text: the one whose decimal digits it is.
unfoldable pub number_in : BatchFault → List ℕ → Result ℕ BatchFault
number_in fault text =
    if nat_lt (digits_value 10 text) (2 ^ 64) && bytes_eq (decimal (digits_value 10 text)) text
    then Ok (digits_value 10 text) else Err fault

-- The bytes before and after the first byte that is `stop`.
abbrev pub cut_at : ℕ → List ℕ → Option (List ℕ × List ℕ)
cut_at stop bytes =
    option_map (λ i. (take i bytes, drop (i + 1) bytes)) (position (λ b. b == stop) bytes)

abbrev pub number_before : BatchFault → Option (List ℕ × List ℕ) → Result (ℕ × List ℕ) BatchFault
number_before fault None = Err fault
number_before fault (Some parts) = number_in fault parts.0 >>= λ n. Ok (n, parts.1)

unfoldable pub number_at : BatchFault → ℕ → List ℕ → Result (ℕ × List ℕ) BatchFault
number_at fault stop bytes = number_before fault (cut_at stop bytes)

unfoldable pub counted_at : BatchFault → ℕ → List ℕ → Result (List ℕ × List ℕ) BatchFault
counted_at fault last bytes = do
  n ← number_at fault 58 bytes
  if nat_lt n.0 (length n.1) && (get_or n.1 n.0 0 == last)
      then Ok (take n.0 n.1, drop (n.0 + 1) n.1) else Err fault

unfoldable pub flag_in : BatchFault → ℕ → ℕ → Result Bool BatchFault
flag_in fault letter b =
    if b == letter then Ok true else (if b == 45 then Ok false else Err fault)

unfoldable pub scopes_at : BatchFault → List ℕ → Result (Scopes × List ℕ) BatchFault
scopes_at fault (s ∷ m ∷ p ∷ c ∷ a ∷ last ∷ rest) = do
  strategic ← flag_in fault 115 s
  conformance ← flag_in fault 109 m
  processing ← flag_in fault 112 p
  management ← flag_in fault 99 c
  arbitration ← flag_in fault 97 a
  if last == 32 then Ok (
    record {
      strategic_coordination = strategic;
      conformance_monitoring = conformance;
      constraint_processing = processing;
      constraint_management = management;
      availability_arbitration = arbitration;
    },
    rest,
  ) else Err fault
scopes_at fault bytes = Err fault

-- A text that is a USS id.
unfoldable pub uss_in : BatchFault → List ℕ → Result (List ℕ) BatchFault
uss_in fault text = if is_none (name_fault text) then Ok text else Err fault

-- A text that is UTF-8.
unfoldable pub path_in : BatchFault → List ℕ → Result (List ℕ) BatchFault
path_in fault text = if is_utf8 text then Ok text else Err fault

-- ---- calls

-- The call at the front, which has this index, and the bytes after it.
unfoldable pub call_at : ℕ → List ℕ → Result (PoolCall × List ℕ) BatchFault
call_at index bytes = do
  moment ← number_at (Call index fields.Moment) 32 bytes
  name ← counted_at (Call index fields.Uss) 32 moment.1
  uss ← uss_in (Call index fields.Uss) name.0
  scopes ← scopes_at (Call index fields.Scopes) name.1
  method ← counted_at (Call index fields.Method) 32 scopes.1
  target ← counted_at (Call index fields.Path) 32 method.1
  path ← path_in (Call index fields.Path) target.0
  body ← counted_at (Call index fields.Body) 10 target.1
  Ok (
    record {
      moment = moment.0;
      caller = record { uss = uss; scopes = scopes.0 };
      method = method.0;
      path = path;
      body = body.0;
    },
    body.1,
  )

-- The calls up to the end of the bytes, at most `left`. The first has this index.
unfoldable pub calls_at : ℕ → ℕ → List ℕ → Result (List PoolCall) BatchFault
calls_at zero index [] = Ok []
calls_at zero index (b ∷ bytes) = Err TooMany
calls_at (suc left) index [] = Ok []
calls_at (suc left) index (b ∷ bytes) = do
  first ← call_at index (b ∷ bytes)
  others ← calls_at left (index + 1) first.1
  Ok (first.0 ∷ others)

-- The calls that the bytes of an entry represent, or the first fault.
unfoldable pub batch_in : List ℕ → Result (List PoolCall) BatchFault
batch_in bytes =
    if nat_lt MAX_BYTES (length bytes) then Err TooLong
    else (if bytes_eq (take (length header) bytes) header
    then calls_at MAX_CALLS 0 (drop (length header) bytes) else Err Header)

-- ---- purges

-- A number, if no bytes are after it.
abbrev pub alone : BatchFault → ℕ × List ℕ → Result ℕ BatchFault
alone fault (n, []) = Ok n
alone fault (n, b ∷ rest) = Err fault

-- The time that is all of the bytes, with a line feed.
unfoldable pub until_in : List ℕ → Result ℕ BatchFault
until_in bytes = number_at Until 10 bytes >>= alone Until

-- ---- entries

-- What an entry is: a batch of calls, or a purge up to a time.
pub data EntryForm : Type 0 where
  BatchOf : (calls : List PoolCall) → EntryForm
  PurgeUpTo : (until : ℕ) → EntryForm

-- True if bytes begin with the first line of a purge.
abbrev pub begins_purge : List ℕ → Bool
begins_purge bytes = bytes_eq (take (length purge_header) bytes) purge_header

-- What was read of an entry.
abbrev pub form_of : EntryContent → EntryForm
form_of (Batch calls) = BatchOf calls.items
form_of (Purge until) = PurgeUpTo until

-- What the bytes of an entry represent, or the first fault.
unfoldable pub entry_in : List ℕ → Result EntryForm BatchFault
entry_in bytes = if begins_purge bytes
    then until_in (drop (length purge_header) bytes) >>= (λ until. Ok (PurgeUpTo until))
    else batch_in bytes >>= (λ calls. Ok (BatchOf calls))
