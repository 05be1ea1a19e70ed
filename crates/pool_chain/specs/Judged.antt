-- How a chain judges a link.
use Rattle.std.specs.Prelude.{◌≡◌, ◌⊎◌, ℕ, ◌+◌, ◌-◌, List, [], ◌∷◌, ◌++◌, length, take, nat_lt, if◌then◌else◌, Option, Some, None}
use Rattle.std.specs.Str.{bytes_eq}
use Rattle.pool_chain.specs.declared.link.Link.{Link}
use Rattle.pool_chain.specs.declared.link.Judgement.{Judgement}
use Rattle.pool_chain.specs.declared.link.Judgement.TheVariants.{Same, Differs, Old, Ahead}
use Rattle.pool_chain.specs.declared.link.TheConstants.{MAX_BEHIND}
use Rattle.pool_chain.specs.Chain.{AllFit, Collision, digest_of}
use Rattle.pool_chain.specs.Item.{Item}
use Rattle.pool_chain.specs.Known.{Keeps, Known, digest_behind, kept_first, kept_more, shortened}

-- The link of the items.
abbrev pub link_of : List Item → Link
link_of items = record { count = length items; digest = digest_of items }

-- How a digest is judged by the own one over as many items.
abbrev pub judgement_by : (own other : List ℕ) → Judgement
judgement_by own other = if bytes_eq own other then Same else Differs own

-- How a digest is judged by the own one, if that is kept.
abbrev pub judgement_by_kept : Option (List ℕ) → List ℕ → Judgement
judgement_by_kept None other = Old
judgement_by_kept (Some own) other = judgement_by own other

-- How a link is judged by what is kept of the items.
abbrev pub judgement_in : Known → Link → Judgement
judgement_in k link =
    if nat_lt k.count link.count then Ahead
    else if nat_lt MAX_BEHIND (k.count - link.count) then Old
    else judgement_by_kept (digest_behind k (k.count - link.count)) link.digest

-- How a link is judged by the items: a count of more items is ahead, and one too far behind is old.
-- Otherwise the digest over as many items decides.
abbrev pub judgement_of : List Item → Link → Judgement
judgement_of items link =
    if nat_lt (length items) link.count then Ahead
    else if nat_lt (link.count + MAX_BEHIND) (length items) then Old
    else judgement_by (digest_of (take link.count items)) link.digest

-- Two processes that judge a link to be the same were given the same items up to its count, or two
-- texts collide. Nothing is assumed of what gives the items.
abbrev pub SameLinkSameItems : Type 0
SameLinkSameItems =
    (mine theirs : List Item) (link : Link) → AllFit mine → AllFit theirs
    → judgement_of mine link ≡ Same → judgement_of theirs link ≡ Same
    → (take link.count mine ≡ take link.count theirs) ⊎ Collision

-- A process judges its own link to be the same. So who judges the link of another to be the same
-- has all of the items of that one.
abbrev pub OwnLinkIsSame : Type 0
OwnLinkIsSame = (items : List Item) → judgement_of items (link_of items) ≡ Same

-- What is kept decides as the items do. So all processes that were given the same items judge a
-- link alike.
abbrev pub KeptDecides : Type 0
KeptDecides = (k : Known) (items : List Item) (link : Link) → Keeps k items
    → judgement_in k link ≡ judgement_of items link

-- Enough is kept of no items, with one more item, and without old digests.
abbrev pub KeepsFirst : Type 0
KeepsFirst = Keeps kept_first []

abbrev pub KeepsMore : Type 0
KeepsMore = (k : Known) (items : List Item) (item : Item) → Keeps k items
    → Keeps (kept_more k item) (items ++ item ∷ [])

abbrev pub KeepsShortened : Type 0
KeepsShortened = (k : Known) (items : List Item) → Keeps k items → Keeps (shortened k) items
