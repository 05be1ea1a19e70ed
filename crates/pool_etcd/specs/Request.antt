-- The bodies of requests, as JSON values. Members stand in byte order of their names.
use Rattle.std.specs.Prelude.{ℕ, List, true, codes}
use Rattle.std.specs.Fmt.{decimal}
use Rattle.serde_json.specs.Data.{Data, boolean, string, array, object, no_items, item, Members, no_members, member}
use Rattle.base64.specs.Engines.{standard}
use Rattle.base64.specs.GeneralPurpose.{encode_of}
use Rattle.pool_etcd.specs.Names.{list_key, prefix, prefix_end}

-- Bytes, in base64.
abbrev pub bytes_data : List ℕ → Data
bytes_data bytes = string (encode_of standard bytes)

-- A number of 64 bits, as a text.
abbrev pub number_data : ℕ → Data
number_data n = string (decimal n)

-- An array of one object.
abbrev pub single : Members → Data
single ms = array (item (object ms) no_items)

-- The condition that the last change of the key was at a revision. A key without a value has 0.
abbrev pub is_at : List ℕ → ℕ → Members
is_at key revision =
    member (codes "key") (bytes_data key)
    (member (codes "mod_revision") (number_data revision)
    (member (codes "result") (string (codes "EQUAL"))
    (member (codes "target") (string (codes "MOD")) no_members)))

-- The key gets the value, if its last change was at the revision. If not, its value is asked.
abbrev pub put_data : List ℕ → List ℕ → ℕ → Data
put_data key value revision =
    object (member (codes "compare") (single (is_at key revision))
    (member (codes "failure")
    (single (member (codes "request_range")
    (object (member (codes "key") (bytes_data key) no_members)) no_members))
    (member (codes "success")
    (single (member (codes "request_put")
    (object (member (codes "key") (bytes_data key)
    (member (codes "value") (bytes_data value) no_members))) no_members))
    no_members)))

-- The revision of the last change of the key.
abbrev pub own_data : List ℕ → Data
own_data key =
    object (member (codes "key") (bytes_data key)
    (member (codes "keys_only") (boolean true) no_members))

-- The supplier list, as it was at a revision.
abbrev pub list_data : ℕ → Data
list_data revision =
    object (member (codes "key") (bytes_data list_key)
    (member (codes "revision") (number_data revision) no_members))

-- The keys of the log and the counts of their puts, as they were at a revision.
abbrev pub counts_data : ℕ → Data
counts_data revision =
    object (member (codes "key") (bytes_data prefix)
    (member (codes "keys_only") (boolean true)
    (member (codes "range_end") (bytes_data prefix_end)
    (member (codes "revision") (number_data revision) no_members))))

-- The key of the log that was changed last. The reading is linearizable.
abbrev pub end_data : Data
end_data =
    object (member (codes "key") (bytes_data prefix)
    (member (codes "keys_only") (boolean true)
    (member (codes "limit") (string (codes "1"))
    (member (codes "range_end") (bytes_data prefix_end)
    (member (codes "sort_order") (string (codes "DESCEND"))
    (member (codes "sort_target") (string (codes "MOD")) no_members))))))

-- All changes of the log's keys from a revision on, in lines of a limited length.
abbrev pub create_members : ℕ → Members
create_members from =
    member (codes "fragment") (boolean true)
    (member (codes "key") (bytes_data prefix)
    (member (codes "range_end") (bytes_data prefix_end)
    (member (codes "start_revision") (number_data from) no_members)))

abbrev pub watch_data : ℕ → Data
watch_data from = object (member (codes "create_request") (object (create_members from)) no_members)

-- A token for a user.
abbrev pub token_data : List ℕ → List ℕ → Data
token_data user password =
    object (member (codes "name") (string user)
    (member (codes "password") (string password) no_members))

-- All before a revision is removed, except the last value of each key.
abbrev pub compact_data : ℕ → Data
compact_data revision = object (member (codes "revision") (number_data revision) no_members)
