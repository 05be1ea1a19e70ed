-- The numbers of writers.
use Rattle.std.specs.Prelude.{◌≡◌, ℕ, List, ◌∷◌, ◌++◌, take}
use Rattle.std.specs.Fmt.{decimal}
use Rattle.std.specs.Int.{from_be_bytes, w64}
use Rattle.sha2.specs.Sha256.{sha256}
use Rattle.pool_chain.specs.declared.link.Link.{Link}
use Rattle.pool_etcd.specs.LogValue.{IsEntry, IsLink}

abbrev pub writer_message : (key : List ℕ) (number : ℕ) → List ℕ
writer_message key number = key ++ 10 ∷ decimal number

-- The number of the writer that puts values with this number under the key.
abbrev pub writer_of : (key : List ℕ) (number : ℕ) → ℕ
writer_of key number = from_be_bytes w64 (take 8 (sha256 (writer_message key number)))

-- Holds if the value is an entry with this link and these bytes, and this is the number of its
-- writer.
abbrev pub IsEntryBy : (key value : List ℕ) (writer : ℕ) (link : Link) (bytes : List ℕ) → Type 0
IsEntryBy key value writer link bytes = (number : ℕ) × IsEntry value number link bytes
    × (writer ≡ writer_of key number)

-- Holds if the value is this link, and this is the number of its writer.
abbrev pub IsLinkBy : (key value : List ℕ) (writer : ℕ) (link : Link) → Type 0
IsLinkBy key value writer link = (number : ℕ) × IsLink value number link
    × (writer ≡ writer_of key number)
