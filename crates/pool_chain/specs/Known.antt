-- What a chain keeps of its items.
use Rattle.std.specs.Prelude.{◌≡◌, ℕ, ◌+◌, ◌-◌, ◌<◌, ◌≤◌, ◌==◌, List, [], ◌∷◌, ◌++◌, length, take, drop, slice_index_or, nat_lt, if◌then◌else◌, Option, Some, None}
use Rattle.pool_chain.specs.declared.link.Link.{Link}
use Rattle.pool_chain.specs.declared.link.TheConstants.{MAX_BEHIND}
use Rattle.pool_chain.specs.Chain.{digest_of, first_digest, next_digest}
use Rattle.pool_chain.specs.Item.{Item}

-- The number of items, the digest over them, and the last digests before, in order.
pub record Known : Type 0 where
  pub count : ℕ
  pub digest : List ℕ
  pub earlier : List (List ℕ)

-- Holds if a chain keeps this of the items: their count, their digest, and the digests over fewer
-- of them. At least those that are up to `MAX_BEHIND` items behind are kept.
pub record Keeps (k : Known) (items : List Item) : Type 0 where
  pub count : k.count ≡ length items
  pub digest : k.digest ≡ digest_of items
  pub within : length k.earlier ≤ length items
  pub recent : (n : ℕ) → n ≤ MAX_BEHIND → n ≤ length items → n ≤ length k.earlier
  pub each : (i : ℕ) → i < length k.earlier
      → slice_index_or k.earlier i []
      ≡ digest_of (take (length items - length k.earlier + i) items)

-- What is kept of no items.
abbrev pub kept_first : Known
kept_first = record { count = 0; digest = first_digest; earlier = [] }

-- What is kept with one more item.
abbrev pub kept_more : Known → Item → Known
kept_more k item = record {
  count = k.count + 1;
  digest = next_digest k.digest item;
  earlier = k.earlier ++ k.digest ∷ [];
}

-- What is kept behind a link, without earlier digests.
abbrev pub kept_behind : Link → Known
kept_behind link = record { count = link.count; digest = link.digest; earlier = [] }

-- What is kept of the items of a chain and of more items, of which another chain keeps that.
abbrev pub joined : (k more : Known) → Known
joined k more = record {
  count = more.count;
  digest = more.digest;
  earlier = k.earlier ++ more.earlier;
}

-- The digest that is so many items behind, if it is kept.
abbrev pub digest_behind : Known → (behind : ℕ) → Option (List ℕ)
digest_behind k behind =
    if behind == 0 then Some k.digest
    else if nat_lt (length k.earlier) behind then None
    else Some (slice_index_or k.earlier (length k.earlier - behind) [])

-- What is kept without digests that are too many items behind.
abbrev pub shortened : Known → Known
shortened k = record k { earlier = drop (length k.earlier - MAX_BEHIND) k.earlier }

-- The link of what is kept.
abbrev pub link_in : Known → Link
link_in k = record { count = k.count; digest = k.digest }
