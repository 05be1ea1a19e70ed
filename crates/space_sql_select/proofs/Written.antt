-- Proofs that texts without a fault are UTF-8.
use Rattle.std.specs.Prelude.{◌≡◌, ℕ, zero, suc, ◌<◌, Bool, true, false, IsTrue, List, [], ◌∷◌, length, None, Some, Option, if◌then◌else◌, IsUtf8, IsAscii, slice_index, refl}
use Rattle.std.specs.List.{list_all}
use Rattle.std.proofs.Common.{arith, inl, inr}
use Rattle.std.proofs.lemmas.Bool.{cases_lt}
use Rattle.std.proofs.lemmas.Str.{IsUtf8-from_ascii}
use Rattle.entity_core.specs.declared.id_fault.IdFault.{IdFault}
use Rattle.entity_core.specs.declared.id_fault.IdFault.TheVariants.{Form, Length}
use Rattle.entity_core.specs.IdTexts.{first_fault, is_from, is_name_byte, is_visible_byte, name_fault, ovn_fault}
use Rattle.space_rows.proofs.Digits.{both}

pub ascii_all : (is_right : ℕ → Bool) → ((b : ℕ) → IsTrue (is_right b) → b < 128) → (text : List ℕ) → IsTrue (list_all is_right text) → IsAscii text
ascii_all is_right low [] all = λ i. omega arith
ascii_all is_right low (b ∷ text) all =
    let p = both (is_right b) (list_all is_right text) all in
    at (low b p.0) (ascii_all is_right low text p.1)
  where
    at : b < 128 → IsAscii text → (i : ℕ) → slice_index (b ∷ text) i < 128
    at first rest zero = first
    at first rest (suc i) = rest i

visible_low : (b : ℕ) → IsTrue (is_visible_byte b) → b < 128
visible_low b h = elim (cases_lt b 128) [ inl lt ↦ lt | inr ge ↦ grind (arith, h) ]

name_low : (b : ℕ) → IsTrue (is_name_byte b) → b < 128
name_low b h = elim (cases_lt b 128) [ inl lt ↦ lt | inr ge ↦ grind (arith, h) ]

faultless : (fits right : Bool) → ◌≡◌ {A = Option IdFault} (if fits then (if right then None else Some Form) else Some Length) None → IsTrue right
faultless true true e = refl
faultless true false e = absurd cc
faultless false right e = absurd cc

pub name_utf8 : (text : List ℕ) → name_fault text ≡ None → IsUtf8 text
name_utf8 text e = IsUtf8-from_ascii text (ascii_all is_name_byte name_low text (faultless (is_from 1 64 (length text)) (list_all is_name_byte text) e))

pub visible_utf8 : (least most : ℕ) (text : List ℕ) → first_fault least most is_visible_byte text ≡ None → IsUtf8 text
visible_utf8 least most text e = IsUtf8-from_ascii text (ascii_all is_visible_byte visible_low text (faultless (is_from least most (length text)) (list_all is_visible_byte text) e))

pub ovn_utf8 : (text : List ℕ) → ovn_fault text ≡ None → IsUtf8 text
ovn_utf8 text e = visible_utf8 16 128 text e
