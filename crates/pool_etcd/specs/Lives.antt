-- The puts of a key since one of its creations.
use Rattle.std.specs.Prelude.{◌≡◌, ℕ, zero, suc, ◌+◌, ◌≤◌, ◌==◌, List, [], ◌∷◌, ◌++◌, ◌&&◌, if◌then◌else◌}
use Rattle.std.specs.Str.{bytes_eq}
use Rattle.pool_etcd.specs.declared.counts.PutCount.{PutCount}
use Rattle.pool_etcd.specs.declared.response.KeyValue.{KeyValue}
use Rattle.pool_etcd.specs.declared.watch_line.Change.{Change}
use Rattle.pool_etcd.specs.declared.watch_line.Change.TheVariants.{Put, Deleted}
use Rattle.pool_etcd.specs.Counts.{AreNext}
use Rattle.pool_etcd.specs.Following.{Ascends}

-- The versions of the puts of a key since one of its creations, among changes.
abbrev pub versions_of : (key : List ℕ) (created : ℕ) → List Change → List ℕ
versions_of key created [] = []
versions_of key created (Put put ∷ changes) =
    (if bytes_eq put.key key && (put.puts.created == created) then put.puts.version ∷ [] else [])
    ++ versions_of key created changes
versions_of key created (Deleted deletion ∷ changes) = versions_of key created changes

-- So many numbers directly behind one.
abbrev pub numbers_behind : (n count : ℕ) → List ℕ
numbers_behind n zero = []
numbers_behind n (suc count) = (n + 1) ∷ numbers_behind (n + 1) count

-- The version that a key with this count has since this creation, and 0 if it was created otherwise.
abbrev pub version_since : PutCount → (created : ℕ) → ℕ
version_since count created = if count.created == created then count.version else 0

-- If each change is the next one of its key, and each revision is later, the versions of the puts
-- of a key since a creation are consecutive, up to each of these puts. They begin at 1, or behind
-- the version at the start if the key had this creation there. So none of these puts is left out.
abbrev pub PutsAreConsecutive : Type 0
PutsAreConsecutive =
    (counts : List ℕ → PutCount) (revision : ℕ) (changes before after : List Change) (put : KeyValue)
    → ((key : List ℕ) → (counts key).created ≤ revision)
    → AreNext counts changes → Ascends revision changes → changes ≡ before ++ Put put ∷ after
    → (count : ℕ)
    × (versions_of put.key put.puts.created (before ++ Put put ∷ [])
    ≡ numbers_behind (version_since (counts put.key) put.puts.created) count)
    × (put.puts.version ≡ version_since (counts put.key) put.puts.created + count)
