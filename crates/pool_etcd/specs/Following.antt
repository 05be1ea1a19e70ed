-- The values that a watch gave.
use Rattle.std.specs.Prelude.{◌≡◌, ◌≢◌, ℕ, ◌+◌, ◌<◌, List, [], ◌∷◌, ◌++◌, length, flat_map, Contains, ◌||◌, Option, Some, None, unwrap_or, if◌then◌else◌}
use Rattle.std.specs.Str.{bytes_eq}
use Rattle.pool_chain.specs.Known.{Known, joined, kept_more, shortened}
use Rattle.pool_etcd.specs.declared.following.Following.{Following}
use Rattle.pool_etcd.specs.declared.following.LineValues.{LineValues}
use Rattle.pool_etcd.specs.declared.log_value.LogEntry.{LogEntry}
use Rattle.pool_etcd.specs.declared.log_value.LogValue.{LogValue}
use Rattle.pool_etcd.specs.declared.log_value.LogValue.TheVariants.{Entry, Link, Fence, Suppliers, Other}
use Rattle.pool_etcd.specs.declared.watch_line.Change.{Change}
use Rattle.pool_etcd.specs.declared.watch_line.Change.TheVariants.{Put, Deleted}
use Rattle.pool_etcd.specs.Admitted.{entries_in, list_after, refused_in}
use Rattle.pool_etcd.specs.Counts.{AreNext, count_of, counts_after}
use Rattle.pool_etcd.specs.LineLinks.{has_writer}
use Rattle.pool_etcd.specs.Linked.{item_of, kept_after, linked, linked_in, unlinked, unlinked_in, verdicts, verdicts_in}
use Rattle.pool_etcd.specs.Names.{list_key}
use Rattle.pool_etcd.specs.OwnFence.{DeletesOwn, is_given_by}
use Rattle.pool_etcd.specs.Value.{IsValue}

abbrev pub revision_of : Change → ℕ
revision_of (Put put) = put.stored.revision
revision_of (Deleted deletion) = deletion.revision

-- What the deletion of a key is: the empty supplier list if it is the key of that, or else none of
-- the values.
abbrev pub value_of_deletion : List ℕ → LogValue
value_of_deletion key = if bytes_eq key list_key then Suppliers [] else Other

-- Holds if this is what the change is in the log: its value, or else what its deletion is.
abbrev pub HasValue : Change → LogValue → Type 0
HasValue (Deleted deletion) value = value ≡ value_of_deletion deletion.key
HasValue (Put put) value = IsValue put.key put.stored.value value

-- Holds if these are the values in the changes, in order.
abbrev pub HasValues : List Change → List LogValue → Type 0
HasValues [] values = values ≡ []
HasValues (c ∷ changes) [] = ⊥
HasValues (c ∷ changes) (v ∷ values) = HasValue c v × HasValues changes values

-- The number in the first fence among the values, if there is one.
abbrev pub first_fence : List LogValue → Option ℕ
first_fence [] = None
first_fence (Entry e ∷ values) = first_fence values
first_fence (Link l ∷ values) = first_fence values
first_fence (Fence agreed ∷ values) = Some agreed
first_fence (Suppliers list ∷ values) = first_fence values
first_fence (Other ∷ values) = first_fence values

-- The number of the pool's settings after more values: the one that was known before, or the one
-- in their first fence.
abbrev pub pool_after : Option ℕ → List LogValue → Option ℕ
pool_after None values = first_fence values
pool_after (Some pool) values = Some pool

-- The supplier list behind the values of a line: the last one that it has, or else the one before.
abbrev pub list_in : Following → LineValues → List ℕ
list_in f line = unwrap_or line.suppliers f.suppliers

-- What the chain keeps behind the changes of a line.
abbrev pub chain_in : Following → LineValues → Known
chain_in f line = joined f.chain line.links.chain

-- Holds if the value was added to a line: as an admitted entry, as a refused entry of the own
-- process, as the first fence, or as a supplier list.
pub record Adds (f : Following) (value : LogValue) (old new : LineValues) : Type 0 where
  pub entries : new.entries.items
      ≡ old.entries.items ++ entries_in (list_in f old) (value ∷ [])
  pub fence : new.fence ≡ pool_after old.fence (value ∷ [])
  pub suppliers : list_in f new ≡ list_after (list_in f old) (value ∷ [])
  pub refused : new.is_refused
      ≡ (old.is_refused || has_writer f.writer (refused_in (list_in f old) (value ∷ [])))

-- Holds if the link of the value was judged, and the change was added to the chain.
pub record AddsLinks (f : Following) (change : Change) (value : LogValue) (old new : LineValues)
    : Type 0 where
  pub verdicts : new.links.verdicts.items
      ≡ old.links.verdicts.items ++ verdicts (chain_in f old) value
  pub unlinked : new.links.is_unlinked
      ≡ (old.links.is_unlinked || has_writer f.writer (unlinked (chain_in f old) value))
  pub chain : new.links.chain ≡ kept_more old.links.chain (item_of change)

-- Holds if what the change is was added to a line. An entry counts only if its link is judged to
-- be the same.
pub record AddsChange (f : Following) (change : Change) (old new : LineValues) : Type 0 where
  pub value : LogValue
  pub given : HasValue change value
  pub added : Adds f (linked (chain_in f old) value) old new
  pub links : AddsLinks f change value old new

-- Holds if the line has the admitted entries in the changes, the number in their first fence, and
-- the last supplier list among them, and tells whether an entry of the own process is refused.
pub record HasLine (f : Following) (changes : List Change) (line : LineValues) : Type 0 where
  pub values : List LogValue
  pub given : HasValues changes values
  pub entries : line.entries.items ≡ entries_in f.suppliers (linked_in f.chain changes values)
  pub fence : line.fence ≡ first_fence values
  pub suppliers : list_in f line ≡ list_after f.suppliers values
  pub refused : line.is_refused
      ≡ has_writer f.writer (refused_in f.suppliers (linked_in f.chain changes values))
  pub verdicts : line.links.verdicts.items ≡ verdicts_in f.chain changes values
  pub unlinked : line.links.is_unlinked
      ≡ has_writer f.writer (unlinked_in f.chain changes values)
  pub chain : chain_in f line ≡ kept_after f.chain changes

-- Holds if the entries of a line were added, and the changes counted, each as the next one of its
-- key. Nothing else has changed.
pub record AddsLine (old new : Following) (line rest : LineValues) (changes : List Change) : Type 0 where
  pub entries : new.entries.items ≡ old.entries.items ++ line.entries.items
  pub next : AreNext (count_of old.counts) changes
  pub counts : (key : List ℕ) → count_of new.counts key ≡ counts_after (count_of old.counts) changes key
  pub verdicts : new.verdicts.items ≡ old.verdicts.items ++ line.links.verdicts.items
  pub chain : new.chain ≡ chain_in old line
  pub others : new ≡ record old {
    entries = new.entries;
    counts = new.counts;
    verdicts = new.verdicts;
    chain = new.chain;
  }
  pub left : rest ≡ record line { entries = rest.entries; links = rest.links }

-- The revision of the last change, or the one before if there is none.
abbrev pub last_revision : ℕ → List Change → ℕ
last_revision before [] = before
last_revision before (c ∷ changes) = last_revision (revision_of c) changes

-- Holds if each change was made after the one before it, and the first after the revision.
abbrev pub Ascends : ℕ → List Change → Type 0
Ascends before [] = Unit {0}
Ascends before (c ∷ changes) = (before < revision_of c) × Ascends (revision_of c) changes

-- Holds if the settings of the pool are the own ones, as far as they are known.
abbrev pub Agrees : Following → Type 0
Agrees f = (pool : ℕ) → f.pool ≡ Some pool → pool ≡ f.settings

-- Holds if the settings of the pool are known, and are other ones.
abbrev pub IsOther : Following → Type 0
IsOther f = (pool : ℕ) × (f.pool ≡ Some pool) × (pool ≢ f.settings)

-- Holds if an entry of the own process among the values is not admitted.
abbrev pub HasRefusal : Following → List LogValue → Type 0
HasRefusal f values = (e : LogEntry) × Contains (refused_in f.suppliers values) e
    × (e.writer ≡ f.writer)

-- Holds if an entry of the own process among the values in the changes has a link that is not
-- judged to be the same.
abbrev pub HasUnlinked : Following → List Change → List LogValue → Type 0
HasUnlinked f changes values = (e : LogEntry)
    × Contains (unlinked_in f.chain changes values) e × (e.writer ≡ f.writer)

-- Holds if the values in the changes were received: the admitted entries among them were added and
-- counted, and the first fence told the pool's settings, which are the own ones. An entry counts
-- only if its link is judged to be the same. Each entry of the own process is admitted and has such
-- a link.
pub record ReceivesValues (old new : Following) (changes : List Change) : Type 0 where
  pub values : List LogValue
  pub given : HasValues changes values
  pub added : new.entries.items
      ≡ old.entries.items ++ entries_in old.suppliers (linked_in old.chain changes values)
  pub counted : new.count
      ≡ old.count + length (entries_in old.suppliers (linked_in old.chain changes values))
  pub pool : new.pool ≡ pool_after old.pool values
  pub agrees : Agrees new
  pub settings : new.settings ≡ old.settings
  pub suppliers : new.suppliers ≡ list_after old.suppliers values
  pub writer : new.writer ≡ old.writer
  pub admitted : HasRefusal old (linked_in old.chain changes values) → ⊥
  pub linked : HasUnlinked old changes values → ⊥
  pub verdicts : new.verdicts.items ≡ old.verdicts.items ++ verdicts_in old.chain changes values
  pub chain : new.chain ≡ shortened (kept_after old.chain changes)
  pub next : AreNext (count_of old.counts) changes
  pub counts : (key : List ℕ) → count_of new.counts key ≡ counts_after (count_of old.counts) changes key
  pub fence : new.own ≡ record old.own { is_given = is_given_by old.own changes }
  pub kept : DeletesOwn old.own changes → ⊥

-- Holds if the settings of the pool, which the changes tell if they were not known before, are
-- other ones.
pub record Differs (old : Following) (changes : List Change) : Type 0 where
  pub values : List LogValue
  pub given : HasValues changes values
  pub pool : ℕ
  pub told : pool_after old.pool values ≡ Some pool
  pub other : pool ≢ old.settings

-- Holds if an entry of the own process in the changes is not admitted, and the settings of the
-- pool, as far as they are known with the changes, are the own ones.
pub record Refuses (old : Following) (changes : List Change) : Type 0 where
  pub values : List LogValue
  pub given : HasValues changes values
  pub refusal : HasRefusal old (linked_in old.chain changes values)
  pub agrees : (pool : ℕ) → pool_after old.pool values ≡ Some pool → pool ≡ old.settings

-- Holds if an entry of the own process in the changes has a link that is not judged to be the
-- same, and the settings of the pool, as far as they are known with the changes, are the own ones.
pub record Unlinks (old : Following) (changes : List Change) : Type 0 where
  pub values : List LogValue
  pub given : HasValues changes values
  pub unlinked : HasUnlinked old changes values
  pub agrees : (pool : ℕ) → pool_after old.pool values ≡ Some pool → pool ≡ old.settings

-- Holds if nothing was received. Entries and verdicts may have been taken.
pub record TakesEntries (old new : Following) : Type 0 where
  pub pool : new.pool ≡ old.pool
  pub settings : new.settings ≡ old.settings
  pub suppliers : new.suppliers ≡ old.suppliers
  pub writer : new.writer ≡ old.writer
  pub counts : new.counts ≡ old.counts
  pub own : new.own ≡ old.own
  pub chain : new.chain ≡ old.chain

-- Holds if nothing was received.
pub record IsSame (old new : Following) : Type 0 where
  pub entries : new.entries.items ≡ old.entries.items
  pub count : new.count ≡ old.count
  pub revision : new.revision ≡ old.revision
  pub pool : new.pool ≡ old.pool
  pub settings : new.settings ≡ old.settings
  pub suppliers : new.suppliers ≡ old.suppliers
  pub writer : new.writer ≡ old.writer
  pub counts : new.counts ≡ old.counts
  pub own : new.own ≡ old.own
  pub chain : new.chain ≡ old.chain
  pub verdicts : new.verdicts.items ≡ old.verdicts.items

-- Holds if an instance received these lines. Between them it may have taken entries.
abbrev pub ReceivesLines : Following → List (List Change) → Following → Type 0
ReceivesLines old [] new = TakesEntries old new
ReceivesLines old (line ∷ lines) new =
    (before : Following) × (after : Following)
    × TakesEntries old before × ReceivesValues before after line × ReceivesLines after lines new

-- Whatever lines a watch gives, an instance that received them has the settings in the first fence
-- of them all. So an instance with other settings receives no line with the first fence, and none
-- behind it.
abbrev pub FirstFenceDecides : Type 0
FirstFenceDecides =
    (start end : Following) (lines : List (List Change)) (values : List LogValue) (agreed : ℕ)
    → start.pool ≡ None → ReceivesLines start lines end
    → HasValues (flat_map (λ line. line) lines) values → first_fence values ≡ Some agreed
    → agreed ≡ start.settings

-- An instance that knew other settings of the pool at the start receives no line.
abbrev pub KnownSettingsDecide : Type 0
KnownSettingsDecide =
    (start end : Following) (line : List Change) (lines : List (List Change))
    → IsOther start → ReceivesLines start (line ∷ lines) end → ⊥

-- Whatever lines a watch gives, each change in those that an instance received is the next one of
-- its key, from the counts at the start on. So no put of a key is left out between two that were
-- received, unless the key was deleted between them.
abbrev pub ChangesAreNext : Type 0
ChangesAreNext =
    (start end : Following) (lines : List (List Change)) → ReceivesLines start lines end
    → AreNext (count_of start.counts) (flat_map (λ line. line) lines)
