-- The values under the keys of a log.
use Rattle.std.specs.Prelude.{◌≡◌, ℕ, ◌<◌, ◌^◌, List, ◌∷◌, ◌++◌}
use Rattle.std.specs.Fmt.{decimal}
use Rattle.pool_chain.specs.declared.link.Link.{Link}
use Rattle.pool_etcd.specs.LinkText.{Fits, link_text}

-- The value that an instance puts to be compared: its number, a space, its link.
abbrev pub link_value : ℕ → Link → List ℕ
link_value number link = decimal number ++ 32 ∷ link_text link

-- The value of an entry: the number of the instance that wrote it, a space, its link, a line feed,
-- the bytes.
abbrev pub entry_value : ℕ → Link → List ℕ → List ℕ
entry_value number link bytes = link_value number link ++ 10 ∷ bytes

-- The value that an instance puts before its first entry: its number, a space, the number of its
-- settings.
abbrev pub fence_value : (number agreed : ℕ) → List ℕ
fence_value number agreed = decimal number ++ 32 ∷ decimal agreed

-- Holds if the value is the link of that instance.
abbrev pub IsLink : List ℕ → ℕ → Link → Type 0
IsLink value number link = (number < 2 ^ 64) × Fits link × (value ≡ link_value number link)

-- Holds if the value is no link.
abbrev pub IsNoLink : List ℕ → Type 0
IsNoLink value = (number : ℕ) (link : Link) → IsLink value number link → ⊥

-- Holds if the value is an entry of that instance with that link and those bytes.
abbrev pub IsEntry : List ℕ → ℕ → Link → List ℕ → Type 0
IsEntry value number link bytes =
    (number < 2 ^ 64) × Fits link × (value ≡ entry_value number link bytes)

-- Holds if the value is no entry.
abbrev pub IsNoEntry : List ℕ → Type 0
IsNoEntry value = (number : ℕ) (link : Link) (bytes : List ℕ) → IsEntry value number link bytes → ⊥

-- Holds if the value is a fence of an instance with these settings.
abbrev pub IsFence : (value : List ℕ) (agreed : ℕ) → Type 0
IsFence value agreed = (number : ℕ) × (number < 2 ^ 64) × (agreed < 2 ^ 64)
    × (value ≡ fence_value number agreed)

-- Holds if the value is no fence.
abbrev pub IsNoFence : List ℕ → Type 0
IsNoFence value = (agreed : ℕ) → IsFence value agreed → ⊥
