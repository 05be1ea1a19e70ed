-- What a line of a watch says.
use Rattle.std.specs.Prelude.{ℕ, List, Bool, true, false, codes, Option, Some, None, option_map, option_and_then, is_some, if◌then◌else◌}
use Rattle.std.specs.Str.{bytes_eq}
use Rattle.serde_json.specs.Data.{Data}
use Rattle.serde_json.specs.Find.{get, as_str}
use Rattle.pool_etcd.specs.declared.watch_line.WatchLine.{WatchLine}
use Rattle.pool_etcd.specs.declared.watch_line.WatchLine.TheVariants.{Failed, Canceled, Changes}
use Rattle.pool_etcd.specs.declared.watch_line.Change.{Change}
use Rattle.pool_etcd.specs.declared.watch_line.Change.TheVariants.{Put, Deleted}
use Rattle.pool_etcd.specs.declared.watch_line.Deletion.{Deletion}
use Rattle.pool_etcd.specs.Member.{◌>>=◌, bytes_at, each, flag_at, items_at, number_at, read_or}
use Rattle.pool_etcd.specs.Response.{key_revision, key_value}

abbrev pub put_kind : List ℕ
put_kind = codes "PUT"

abbrev pub deleted_kind : List ℕ
deleted_kind = codes "DELETE"

-- A key, and the revision of its deletion.
unfoldable pub deletion_of : Data → Option Deletion
deletion_of d = do
  key ← bytes_at (codes "key") d
  revision ← key_revision d
  Some (record { key = key; revision = revision })

-- A change is a put, which etcd leaves out as the first of its kinds, or a deletion.
abbrev pub change_by : List ℕ → Data → Option Change
change_by kind key =
    if bytes_eq kind put_kind then option_map Put (key_value key)
    else (if bytes_eq kind deleted_kind then option_map Deleted (deletion_of key) else None)

unfoldable pub change_of : Data → Option Change
change_of d = do
  kind ← read_or put_kind as_str (get (codes "type") d)
  key ← get (codes "kv") d
  change_by kind key

unfoldable pub changes_of : Data → Option (List Change)
changes_of d = option_and_then (each change_of) (items_at (codes "events") d)

abbrev pub result_by : Bool → Data → Option WatchLine
result_by true d = option_map Canceled (number_at (codes "compact_revision") d)
result_by false d = option_map Changes (changes_of d)

-- A watch ends, or has the next changes, in order.
unfoldable pub result_of : Data → Option WatchLine
result_of d = option_and_then (λ canceled. result_by canceled d) (flag_at (codes "canceled") d)

-- A line is a result, or an error.
unfoldable pub line_of : Data → Option WatchLine
line_of d =
    if is_some (get (codes "error") d)
    then Some Failed
    else option_and_then result_of (get (codes "result") d)
