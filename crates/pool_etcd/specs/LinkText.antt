-- Links as texts.
use Rattle.std.specs.Prelude.{◌≡◌, ℕ, ◌<◌, ◌^◌, List, ◌∷◌, ◌++◌, length, if◌then◌else◌, Option, Some, None, Result, Ok, Err}
use Rattle.std.specs.Fmt.{decimal}
use Rattle.std.specs.Str.{bytes_eq}
use Rattle.hex.specs.Hex.{IsBytes, decode_sized, encode_lower}
use Rattle.hex.specs.declared.error.FromHexError.{FromHexError}
use Rattle.pool_chain.specs.declared.link.Link.{Link}

-- Holds if this is a digest: 32 bytes.
abbrev pub IsDigest : List ℕ → Type 0
IsDigest digest = (length digest ≡ 32) × IsBytes digest

-- The bytes of hexadecimal digits, if those are the text of these bytes.
abbrev pub digest_by : Result (List ℕ) FromHexError → List ℕ → Option (List ℕ)
digest_by (Ok bytes) text = if bytes_eq (encode_lower bytes) text then Some bytes else None
digest_by (Err fault) text = None

-- The digest that a text is in 64 hexadecimal digits, with lower-case letters.
unfoldable pub digest_in : List ℕ → Option (List ℕ)
digest_in text = digest_by (decode_sized text 32) text

-- The text of a link: its count, a space, and its digest.
abbrev pub link_text : Link → List ℕ
link_text link = decimal link.count ++ 32 ∷ encode_lower link.digest

-- Holds if the link has a text that is read again.
pub record Fits (link : Link) : Type 0 where
  pub count : link.count < 2 ^ 64
  pub digest : IsDigest link.digest

-- Holds if the text is that of this link.
abbrev pub IsLinkText : List ℕ → Link → Type 0
IsLinkText text link = Fits link × (text ≡ link_text link)

-- Holds if the text is that of no link.
abbrev pub IsNoLinkText : List ℕ → Type 0
IsNoLinkText text = (link : Link) → IsLinkText text link → ⊥
