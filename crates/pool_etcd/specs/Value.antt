-- What the value of a key is.
use Rattle.std.specs.Prelude.{◌≡◌, ◌≢◌, ℕ, List}
use Rattle.pool_etcd.specs.declared.log_value.LogEntry.{LogEntry}
use Rattle.pool_etcd.specs.declared.log_value.LogLink.{LogLink}
use Rattle.pool_etcd.specs.declared.log_value.LogValue.{LogValue}
use Rattle.pool_etcd.specs.declared.log_value.LogValue.TheVariants.{Entry, Link, Fence, Suppliers, Other}
use Rattle.pool_etcd.specs.LogValue.{IsFence, IsNoEntry, IsNoFence, IsNoLink}
use Rattle.pool_etcd.specs.Names.{list_key}
use Rattle.pool_etcd.specs.Writer.{IsEntryBy, IsLinkBy}

-- Holds if the value of the key is this entry.
abbrev pub IsEntryAt : (key value : List ℕ) → LogEntry → Type 0
IsEntryAt key value e = (e.key ≡ key) × IsEntryBy key value e.writer e.link e.bytes

-- Holds if the value of the key is this link.
abbrev pub IsLinkAt : (key value : List ℕ) → LogLink → Type 0
IsLinkAt key value l = (l.key ≡ key) × IsLinkBy key value l.writer l.link

-- Holds if this is what the value of the key is: the supplier list, exactly if it is the key of
-- that, or an entry, a link, a fence, or none of them. An entry is with its link, whatever that is.
abbrev pub IsValue : (key value : List ℕ) → LogValue → Type 0
IsValue key value (Entry e) = (key ≢ list_key) × IsEntryAt key value e
IsValue key value (Link l) = (key ≢ list_key) × IsLinkAt key value l
IsValue key value (Fence agreed) = (key ≢ list_key) × IsFence value agreed
IsValue key value (Suppliers list) = (key ≡ list_key) × (list ≡ value)
IsValue key value Other = (key ≢ list_key) × IsNoEntry value × IsNoLink value × IsNoFence value

-- No value is two of these, and none is one of them in two ways.
abbrev pub OneValue : Type 0
OneValue = (key value : List ℕ) (a b : LogValue) → IsValue key value a → IsValue key value b → a ≡ b
