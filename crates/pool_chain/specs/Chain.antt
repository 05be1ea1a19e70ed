-- The chain of digests over items.
use Rattle.std.specs.Prelude.{◌≡◌, ◌⊎◌, ℕ, List, [], ◌∷◌, ◌++◌, length, replicate}
use Rattle.sha2.specs.Sha256.{sha256}
use Rattle.pool_chain.specs.Item.{Fits, Item, spell}

-- The digest over no items.
abbrev pub first_digest : List ℕ
first_digest = replicate 32 0

-- The digest over one more item.
unfoldable pub next_digest : (digest : List ℕ) → Item → List ℕ
next_digest digest item = sha256 (digest ++ spell item)

-- The digest over more items, behind some that have the first digest.
abbrev pub chain : (first : List ℕ) → List Item → List ℕ
chain first [] = first
chain first (item ∷ items) = chain (next_digest first item) items

-- The digest over all items.
abbrev pub digest_of : List Item → List ℕ
digest_of items = chain first_digest items

-- Holds if each item fits.
abbrev pub AllFit : List Item → Type 0
AllFit [] = Unit {0}
AllFit (item ∷ items) = Fits item × AllFit items

-- Two different texts with one digest.
pub record Collision : Type 0 where
  pub one : List ℕ
  pub other : List ℕ
  pub same : sha256 one ≡ sha256 other
  pub differ : one ≡ other → ⊥

-- As many items with the same digest are the same ones, or two texts collide.
abbrev pub ChainDecides : Type 0
ChainDecides =
    (xs ys : List Item) → AllFit xs → AllFit ys → length xs ≡ length ys
    → digest_of xs ≡ digest_of ys → (xs ≡ ys) ⊎ Collision
