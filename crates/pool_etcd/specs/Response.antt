-- What responses of etcd say.
use Rattle.std.specs.Prelude.{ℕ, List, [], ◌==◌, Bool, true, false, codes, Option, Some, None, option_map, option_and_then, if◌then◌else◌}
use Rattle.std.specs.Str.{bytes_eq}
use Rattle.serde_json.specs.Data.{Data, Items, no_items, item}
use Rattle.serde_json.specs.Find.{get, as_number, as_str, as_u64}
use Rattle.pool_etcd.specs.declared.counts.KeyCount.{KeyCount}
use Rattle.pool_etcd.specs.declared.counts.PutCount.{PutCount}
use Rattle.pool_etcd.specs.declared.response.KeyValue.{KeyValue}
use Rattle.pool_etcd.specs.declared.response.PutResponse.{PutResponse}
use Rattle.pool_etcd.specs.declared.response.StoreEnd.{StoreEnd}
use Rattle.pool_etcd.specs.declared.response.StoredValue.{StoredValue}
use Rattle.pool_etcd.specs.declared.response.PutOutcome.{PutOutcome}
use Rattle.pool_etcd.specs.declared.response.PutOutcome.TheVariants.{Stored, Refused}
use Rattle.pool_etcd.specs.declared.response.RevisionFault.{RevisionFault}
use Rattle.pool_etcd.specs.declared.response.RevisionFault.TheVariants.{Compacted, Future}
use Rattle.pool_etcd.specs.Member.{◌>>=◌, bytes_at, each, flag_at, items_at, read_or, required_number}

-- The revision of the whole store, which each response has.
abbrev pub store_revision : Data → Option ℕ
store_revision d = option_and_then (required_number (codes "revision")) (get (codes "header") d)

-- The first item, if there is one.
abbrev pub first : Items → Option Data
first no_items = None
first (item d ds) = Some d

-- The value that is read from the first item, and another one if there is none.
abbrev pub first_or : {A : Type 0} → A → (Data → Option A) → Items → Option A
first_or other read no_items = Some other
first_or other read (item d ds) = read d

-- The revision of the last change of a key.
abbrev pub key_revision : Data → Option ℕ
key_revision d = required_number (codes "mod_revision") d

-- The revision of the last change of the first key. It is 0 if no key is there.
unfoldable pub range_revision : Data → Option ℕ
range_revision d = do
  store ← store_revision d
  keys ← items_at (codes "kvs") d
  first_or 0 key_revision keys

-- The revision of the whole store, and that of the last change of the first key.
unfoldable pub store_end : Data → Option StoreEnd
store_end d = do
  store ← store_revision d
  last ← range_revision d
  Some (record { store = store; last = last })

-- A key's value, with the revision of its last change.
unfoldable pub stored_value : Data → Option StoredValue
stored_value d = do
  revision ← key_revision d
  value ← bytes_at (codes "value") d
  Some (record { revision = revision; value = value })

-- The count of the puts of a key. Neither number is 0, so etcd leaves none of them out.
unfoldable pub put_count : Data → Option PutCount
put_count d = do
  created ← required_number (codes "create_revision") d
  version ← required_number (codes "version") d
  Some (record { created = created; version = version })

-- A key with its value, and the count of its puts.
unfoldable pub key_value : Data → Option KeyValue
key_value d = do
  key ← bytes_at (codes "key") d
  puts ← put_count d
  stored ← stored_value d
  Some (record { key = key; puts = puts; stored = stored })

-- A key with the count of its puts.
unfoldable pub key_count : Data → Option KeyCount
key_count d = do
  key ← bytes_at (codes "key") d
  puts ← put_count d
  Some (record { key = key; puts = puts })

-- The keys with the counts of their puts.
unfoldable pub range_counts : Data → Option (List KeyCount)
range_counts d = do
  store ← store_revision d
  keys ← items_at (codes "kvs") d
  each key_count keys

-- The value of the first key.
unfoldable pub range_value : Data → Option (Option StoredValue)
range_value d = do
  keys ← items_at (codes "kvs") d
  first_or None (λ key. option_map Some (stored_value key)) keys

-- The bytes of the first key's value. They are empty if no key is there.
unfoldable pub range_bytes : Data → Option (List ℕ)
range_bytes d = do
  store ← store_revision d
  keys ← items_at (codes "kvs") d
  first_or [] (bytes_at (codes "value")) keys

-- The number of an error, which is a JSON number.
abbrev pub error_code : Data → Option ℕ
error_code d = do
  code ← get (codes "code") d
  number ← as_number code
  as_u64 number

-- The text of an error. An absent one is empty.
abbrev pub error_text : Data → Option (List ℕ)
error_text d = read_or [] as_str (get (codes "message") d)

-- The text of the error that a revision was not reached yet.
abbrev pub future_text : List ℕ
future_text = codes "etcdserver: mvcc: required revision is a future revision"

-- Error 11 tells that etcd has no values of a revision: it was not reached yet, or else removed.
abbrev pub revision_fault_by : ℕ → List ℕ → Option RevisionFault
revision_fault_by code text =
    if code == 11 then Some (if bytes_eq text future_text then Future else Compacted) else None

-- Why etcd has no values of a revision.
unfoldable pub revision_fault : Data → Option RevisionFault
revision_fault d = do
  code ← error_code d
  text ← error_text d
  revision_fault_by code text

-- The value that stood in the way of a put.
unfoldable pub refusal : Data → Option PutOutcome
refusal d = do
  responses ← items_at (codes "responses") d
  response ← first responses
  range ← get (codes "response_range") response
  option_map Refused (range_value range)

abbrev pub put_outcome_by : Bool → ℕ → Data → Option PutOutcome
put_outcome_by true store d = Some (Stored store)
put_outcome_by false store d = refusal d

-- A put was stored at the revision of the store, or refused.
unfoldable pub put_outcome : Data → Option PutOutcome
put_outcome d = do
  store ← store_revision d
  stored ← flag_at (codes "succeeded") d
  put_outcome_by stored store d

-- The revision of the whole store, and the outcome of a put.
unfoldable pub put_response : Data → Option PutResponse
put_response d = do
  store ← store_revision d
  outcome ← put_outcome d
  Some (record { store = store; outcome = outcome })

-- The token for a user.
unfoldable pub token_of : Data → Option (List ℕ)
token_of d = option_and_then as_str (get (codes "token") d)
