-- The links of values, compared with the changes before them.
use Rattle.std.specs.Prelude.{◌≡◌, ◌⊎◌, List, [], ◌∷◌, ◌++◌, length, map, take, Contains, true, false, Some, None}
use Rattle.pool_chain.specs.declared.link.Judgement.{Judgement}
use Rattle.pool_chain.specs.declared.link.Judgement.TheVariants.{Same, Differs, Old, Ahead}
use Rattle.pool_chain.specs.Chain.{AllFit, Collision}
use Rattle.pool_chain.specs.Item.{Item}
use Rattle.pool_chain.specs.Judged.{judgement_in, link_of}
use Rattle.pool_chain.specs.Known.{Keeps, Known, kept_more}
use Rattle.pool_etcd.specs.declared.line_links.Verdict.{Verdict}
use Rattle.pool_etcd.specs.declared.log_value.LogEntry.{LogEntry}
use Rattle.pool_etcd.specs.declared.log_value.LogValue.{LogValue}
use Rattle.pool_etcd.specs.declared.log_value.LogValue.TheVariants.{Entry, Link, Fence, Suppliers, Other}
use Rattle.pool_etcd.specs.declared.watch_line.Change.{Change}
use Rattle.pool_etcd.specs.declared.watch_line.Change.TheVariants.{Put, Deleted}

-- A change, as an item of the chain.
abbrev pub item_of : Change → Item
item_of (Put put) = record { key = put.key; value = Some put.stored.value }
item_of (Deleted deletion) = record { key = deletion.key; value = None }

abbrev pub items_of : List Change → List Item
items_of changes = map item_of changes

-- What the chain keeps after the changes.
abbrev pub kept_after : Known → List Change → Known
kept_after k [] = k
kept_after k (c ∷ changes) = kept_after (kept_more k (item_of c)) changes

-- What an entry is by the judgement of its link: the entry if that is the same, or else none of the
-- values.
abbrev pub entry_by : Judgement → LogEntry → LogValue
entry_by Same e = Entry e
entry_by (Differs own) e = Other
entry_by Old e = Other
entry_by Ahead e = Other

-- What a value is behind the changes of a chain.
abbrev pub linked : Known → LogValue → LogValue
linked k (Entry e) = entry_by (judgement_in k e.link) e
linked k (Link l) = Link l
linked k (Fence agreed) = Fence agreed
linked k (Suppliers list) = Suppliers list
linked k Other = Other

-- What the values in the changes are at their places, behind the changes of a chain.
abbrev pub linked_in : Known → List Change → List LogValue → List LogValue
linked_in k [] values = []
linked_in k (c ∷ changes) [] = []
linked_in k (c ∷ changes) (v ∷ values) =
    linked k v ∷ linked_in (kept_more k (item_of c)) changes values

-- The entry, unless its link is judged to be the same.
abbrev pub unlinked_by : Judgement → LogEntry → List LogEntry
unlinked_by Same e = []
unlinked_by (Differs own) e = e ∷ []
unlinked_by Old e = e ∷ []
unlinked_by Ahead e = e ∷ []

abbrev pub unlinked : Known → LogValue → List LogEntry
unlinked k (Entry e) = unlinked_by (judgement_in k e.link) e
unlinked k (Link l) = []
unlinked k (Fence agreed) = []
unlinked k (Suppliers list) = []
unlinked k Other = []

-- The entries among the values in the changes whose links are not judged to be the same at their
-- places.
abbrev pub unlinked_in : Known → List Change → List LogValue → List LogEntry
unlinked_in k [] values = []
unlinked_in k (c ∷ changes) [] = []
unlinked_in k (c ∷ changes) (v ∷ values) =
    unlinked k v ++ unlinked_in (kept_more k (item_of c)) changes values

-- The verdict on the link of a value, if it has one.
abbrev pub verdicts : Known → LogValue → List Verdict
verdicts k (Entry e) = record {
  key = e.key;
  link = e.link;
  judgement = judgement_in k e.link;
  is_entry = true;
} ∷ []
verdicts k (Link l) = record {
  key = l.key;
  link = l.link;
  judgement = judgement_in k l.link;
  is_entry = false;
} ∷ []
verdicts k (Fence agreed) = []
verdicts k (Suppliers list) = []
verdicts k Other = []

-- The verdicts on the links of the values in the changes at their places.
abbrev pub verdicts_in : Known → List Change → List LogValue → List Verdict
verdicts_in k [] values = []
verdicts_in k (c ∷ changes) [] = []
verdicts_in k (c ∷ changes) (v ∷ values) =
    verdicts k v ++ verdicts_in (kept_more k (item_of c)) changes values

-- ---- a law

-- An entry that is not passed over for its link has a writer that was given the same changes as
-- this instance, as many as the link tells, or two texts collide. Nothing is assumed of what gives
-- the changes: the two may have been given different ones.
--
-- `items` are all changes before these, of which the chain keeps enough, and `known` those before
-- the entry. `theirs` are the changes of which the writer took its link.
abbrev pub LinkedEntriesShareChanges : Type 0
LinkedEntriesShareChanges =
    (k : Known) (items : List Item) (changes : List Change) (values : List LogValue) (e : LogEntry)
    → Keeps k items → Contains (linked_in k changes values) (Entry e)
    → (before : List Change) × (change : Change) × (after : List Change)
    × (changes ≡ before ++ change ∷ after)
    × ((theirs : List Item) → e.link ≡ link_of theirs
    → AllFit theirs → AllFit (items ++ items_of before)
    → (take (length theirs) (items ++ items_of before) ≡ theirs) ⊎ Collision)
