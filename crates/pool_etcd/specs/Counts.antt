-- The counts of the puts of keys, as etcd keeps them, and the changes that follow them.
use Rattle.std.specs.Prelude.{◌≡◌, ℕ, ◌+◌, ◌<◌, ◌==◌, List, [], ◌∷◌, Bool, if◌then◌else◌}
use Rattle.std.specs.List.{list_any}
use Rattle.std.specs.Str.{bytes_eq}
use Rattle.pool_etcd.specs.declared.counts.PutCount.{PutCount}
use Rattle.pool_etcd.specs.declared.counts.KeyCount.{KeyCount}
use Rattle.pool_etcd.specs.declared.watch_line.Change.{Change}
use Rattle.pool_etcd.specs.declared.watch_line.Change.TheVariants.{Put, Deleted}

-- The count of a key without a value.
abbrev pub no_puts : PutCount
no_puts = record { created = 0; version = 0 }

-- The count of a key after these counts: that in the last one of the key, or else the one before.
abbrev pub last_count : (key : List ℕ) → PutCount → List KeyCount → PutCount
last_count key before [] = before
last_count key before (k ∷ counts) = last_count key (if bytes_eq k.key key then k.puts else before) counts

-- The count of a key among these. A key that is not among them has no value.
abbrev pub count_of : List KeyCount → (key : List ℕ) → PutCount
count_of counts key = last_count key no_puts counts

-- The key of a change, and its count afterwards.
abbrev pub changed_key : Change → List ℕ
changed_key (Put put) = put.key
changed_key (Deleted deletion) = deletion.key

abbrev pub count_by : Change → PutCount
count_by (Put put) = put.puts
count_by (Deleted deletion) = no_puts

-- The key of a change with its count.
abbrev pub key_count : Change → KeyCount
key_count c = record { key = changed_key c; puts = count_by c }

-- True if the key is among the counts.
abbrev pub has_key : (key : List ℕ) → List KeyCount → Bool
has_key key counts = list_any (λ k. bytes_eq k.key key) counts

-- The counts of all keys after a change, and after several ones.
abbrev pub counts_by : (List ℕ → PutCount) → Change → List ℕ → PutCount
counts_by counts c key = if bytes_eq (changed_key c) key then count_by c else counts key

abbrev pub counts_after : (List ℕ → PutCount) → List Change → List ℕ → PutCount
counts_after counts [] = counts
counts_after counts (c ∷ changes) = counts_after (counts_by counts c) changes

-- The revision of the creation of a key that is put at a revision: this one if the key had no
-- value, or else the one before.
abbrev pub created_by : PutCount → (revision : ℕ) → ℕ
created_by before revision = if before.version == 0 then revision else before.created

-- Holds if the change can be the next one of a key with this count: a put is the next since the
-- creation of the key, and a key that is deleted has a value.
abbrev pub IsNext : PutCount → Change → Type 0
IsNext before (Put put) = (put.puts.version ≡ before.version + 1)
    × (put.puts.created ≡ created_by before put.stored.revision)
IsNext before (Deleted deletion) = 0 < before.version

-- Holds if each of the changes can be the next one of its key, from these counts on. So the puts
-- of each key are consecutive since its creation.
abbrev pub AreNext : (List ℕ → PutCount) → List Change → Type 0
AreNext counts [] = Unit {0}
AreNext counts (c ∷ changes) = IsNext (counts (changed_key c)) c × AreNext (counts_by counts c) changes
