-- The textual form of ids.
use Rattle.std.proofs.Common.{◌≡◌, ◌∙◌, sym, ap, ℕ, List, length, Option, Some, None, refl, ◌<◌, ◌^◌, ◌%◌, All, [], ◌∷◌, zero, suc, arith, inl}
use Rattle.std.specs.List.{AllByRecursion}
use Rattle.std.proofs.lemmas.Nat.{mod_below}
use Rattle.std.specs.Int.{w128, from_be_bytes, to_be_bytes}
use Rattle.std.specs.Prelude.{option_map}
use Rattle.uuid.specs.Text.{lower, parsed, parsed_hyphenated}
use Rattle.uuid.proofs.TextLemmas.{by_index_length}
use Rattle.uuid.proofs.OrderLemmas.{from_be_bytes-to_be_bytes_16}
use Rattle.uuid.proofs.RoundTrips.{parses_hyphenated_text}
use Rattle.entity_core.specs.EntityId.{printed, spelled}

at_36 : (text : List ℕ) → length text ≡ 36 → parsed text ≡ parsed_hyphenated text
at_36 text size = rw size refl

none_left : (o : Option (List ℕ)) → ((u : List ℕ) → o ≡ Some u → ⊥) → o ≡ None
none_left None h = refl
none_left (Some u) h = absurd (h u refl)

-- A text that is not a UUID represents no id.
pub unspelled : (text : List ℕ) → length text ≡ 36 → ((u : List ℕ) → parsed text ≡ Some u → ⊥) → spelled text ≡ None
unspelled text size not = ap (option_map (from_be_bytes w128)) (sym (at_36 text size) ∙ none_left (parsed text) not)

all_at : (P : ℕ → Type 0) (xs : List ℕ) → AllByRecursion P xs → All P xs
all_at P [] h k d within = absurd (omega (arith, within))
all_at P (x ∷ xs) h zero d within = h.0
all_at P (x ∷ xs) h (suc k) d within = all_at P xs h.1 k d (omega (arith, within))

byte : (x : ℕ) → x % 256 < 256
byte x = mod_below x 256 (omega arith)

small_bytes : (n : ℕ) → AllByRecursion (λ b. b < 256) (to_be_bytes w128 n)
small_bytes n =
    (byte _, (byte _, (byte _, (byte _, (byte _, (byte _, (byte _, (byte _, (byte _, (byte _, (byte _, (byte _, (byte _, (byte _, (byte _, (byte _, tt))))))))))))))))

-- The printed form of an id represents that id.
pub printed_spells : (n : ℕ) (text : List ℕ) → text ≡ printed n → n < 2 ^ 128 → spelled text ≡ Some n
printed_spells n text e fits =
    let bytes : List ℕ = to_be_bytes w128 n in
    let back : Some bytes ≡ parsed_hyphenated (printed n) = parses_hyphenated_text lower bytes (inl refl) refl (all_at (λ b. b < 256) bytes (small_bytes n)) in
    ap spelled e ∙ (sym (ap (option_map (from_be_bytes w128)) back) ∙ ap Some (from_be_bytes-to_be_bytes_16 n fits))

-- A printed id has 36 characters.
pub length-printed : (n : ℕ) → length (printed n) ≡ 36
length-printed n = by_index_length 36 _
