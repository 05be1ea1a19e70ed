-- The cell that a token names is the cell that parsing it returns.
use Rattle.std.specs.Prelude.{◌≡◌, if◌then◌else◌, ℕ, ◌-◌, ◌*◌, ◌^◌, ◌+◌, ◌≤◌, ◌<◌, ◌&&◌, nat_lt, List, [], ◌∷◌, length, Bool, true, refl, Option, Some, None, Ok, Err}
use Rattle.std.specs.List.{list_all}
use Rattle.std.specs.Char.{digit_value}
use Rattle.std.specs.Int.{w64, trailing_zeros}
use Rattle.std.specs.Str.Parse.{AllDigits, digits_value}
use Rattle.std.proofs.Common.{arith, sym, ap, subst, ◌∙◌, inl, inr}
use Rattle.std.proofs.lemmas.Bool.{ltb-true, leb-true, eqb-true, lt-ltb, le-leb, eq-eqb, and_parts, and_from, cases_Bool}
use Rattle.std.proofs.lemmas.Int.Digits.{digits_value-lt}
use Rattle.std.proofs.lemmas.Nat.{pow-add, pow_pos}
use Rattle.std.proofs.Math.Nat.{mul-le-mul_right}
use Rattle.grid_core.specs.Cell.{Cell, IsCell}
use Rattle.grid_core.specs.CellNumber.{cell_of, IsNumber}
use Rattle.grid_core.specs.CellNumberLaw.{number-cell_of}
use Rattle.grid_core.proofs.CellNumber.{IsCell-cell_of, IsNumber-number_of, some_by_place, cell_of-number_of}
use Rattle.grid_core.specs.Token.{IsTokenOf, Parses, NamesCell, cell_named, has_token_form, is_number, token_number}
use Rattle.grid_core.specs.declared.token.TokenFault.{TokenFault}
use Rattle.grid_core.specs.declared.token.TokenFault.TheVariants.{Length, Digit, Invalid}
use Rattle.grid_core.proofs.Tokens.{sixteen}

all_digits : (text : List ℕ) → list_all (λ b. nat_lt (digit_value b) 16) text ≡ true → AllDigits 16 text
all_digits [] h = tt
all_digits (b ∷ bs) h = let parts = and_parts _ _ h in (ltb-true (digit_value b) 16 parts.0, all_digits bs parts.1)

test_digits : (text : List ℕ) → AllDigits 16 text → list_all (λ b. nat_lt (digit_value b) 16) text ≡ true
test_digits [] h = refl
test_digits (b ∷ bs) h = and_from _ _ (lt-ltb (digit_value b) 16 h.0) (test_digits bs h.1)

-- The number of a token has at most 64 bits.
number_fits : (text : List ℕ) → length text ≤ 16 → AllDigits 16 text → token_number text < 2 ^ 64
number_fits text most digits =
    let rest = 16 - length text in
    let lt : digits_value 16 text < 16 ^ length text = digits_value-lt 16 text digits in
    let pos : 0 < 16 ^ rest = subst (λ (x : ℕ). 0 < x) (sym (sixteen rest)) (pow_pos (4 * rest)) in
    let all : 16 ^ length text * 16 ^ rest ≡ 18446744073709551616 = sym (pow-add 16 (length text) rest) ∙ ap (λ (x : ℕ). 16 ^ x) (let e : length text + rest ≡ 16 = omega arith in e) in
    let below : (digits_value 16 text + 1) * 16 ^ rest ≤ 16 ^ length text * 16 ^ rest = mul-le-mul_right (16 ^ rest) (let e : digits_value 16 text + 1 ≤ 16 ^ length text = omega (arith, lt) in e) in
    omega (arith, below, all, pos)

-- If a text passes both tests, its number is the number of a cell.
valid : (text : List ℕ) → has_token_form text ≡ true → is_number (token_number text) ≡ true → IsNumber (token_number text)
valid text form number =
    let f = and_parts _ _ form in
    let size = and_parts _ _ f.0 in
    let n = and_parts _ _ number in
    let m = and_parts _ _ n.1 in
    let place : trailing_zeros w64 (token_number text) ≤ 60 = leb-true _ _ n.0 in
    record {
      place = place;
      even = eqb-true _ _ m.0;
      face = leb-true _ _ m.1;
      fits = number_fits text (leb-true _ _ size.1) (all_digits text f.1);
      some = some_by_place (token_number text) place;
    }

reads : (text : List ℕ) → has_token_form text ≡ true → is_number (token_number text) ≡ true → IsCell (cell_of (token_number text)) × IsTokenOf text (cell_of (token_number text))
reads text form number =
    let f = and_parts _ _ form in
    let size = and_parts _ _ f.0 in
    let v = valid text form number in (
      IsCell-cell_of (token_number text) v,
      record { size = (leb-true _ _ size.0, leb-true _ _ size.1); digits = all_digits text f.1; number = number-cell_of (token_number text) v },
    )

named : (text : List ℕ) (c : Cell) → cell_named text ≡ Some c → IsCell c × IsTokenOf text c
unfolding cell_named
named text c =
    elim (cases_Bool (has_token_form text && is_number (token_number text))) as (λ _. cell_named text ≡ Some c → IsCell c × IsTokenOf text c) [
      | inl met ↦ λ e.
          let parts = and_parts (has_token_form text) (is_number (token_number text)) met in
          let is : Some (cell_of (token_number text)) ≡ Some c = subst (λ (b : Bool). (if b then Some (cell_of (token_number text)) else None) ≡ Some c) met e in
          let same : cell_of (token_number text) ≡ c = cc in
          subst (λ (x : Cell). IsCell x × IsTokenOf text x) same (reads text parts.0 parts.1)
      | inr unmet ↦ λ e. let is : None ≡ Some c = subst (λ (b : Bool). (if b then Some (cell_of (token_number text)) else None) ≡ Some c) unmet e in cc
    ]

naming : (text : List ℕ) (c : Cell) → IsCell c → IsTokenOf text c → cell_named text ≡ Some c
unfolding cell_named
naming text c v token =
    let n : IsNumber (token_number text) = subst IsNumber token.number (IsNumber-number_of c v) in
    let size = and_from _ _ (le-leb _ _ token.size.0) (le-leb _ _ token.size.1) in
    let form : has_token_form text ≡ true = and_from _ _ size (test_digits text token.digits) in
    let number : is_number (token_number text) ≡ true = and_from _ _ (le-leb _ _ n.place) (and_from _ _ (eq-eqb _ _ n.even) (le-leb _ _ n.face)) in
    ap (λ (b : Bool). if b then Some (cell_of (token_number text)) else None) (and_from _ _ form number)
    ∙ ap Some (ap cell_of (sym token.number) ∙ cell_of-number_of c v)

pub names_cell_lem : NamesCell
names_cell_lem text c = (named text c, λ h. naming text c h.0 h.1)

-- ---- the result of parsing

pub named_when_read : (text : List ℕ) (c : Cell) → Parses text (Ok c) → cell_named text ≡ Some c
named_when_read text c h = naming text c h.0 h.1

unread : (text : List ℕ) (c : Cell) (e : TokenFault) → Parses text (Err e) → IsCell c × IsTokenOf text c → ⊥
unread text c Length h token = h token.1.size
unread text c Digit h token = h.1 token.1.digits
unread text c Invalid h token = h.2 c token.0 token.1.number

none_by_cases : (text : List ℕ) (o : Option Cell) → ((c : Cell) → o ≡ Some c → ⊥) → o ≡ None
none_by_cases text None h = refl
none_by_cases text (Some c) h = absurd (h c refl)

pub unnamed_when_refused : (text : List ℕ) (e : TokenFault) → Parses text (Err e) → cell_named text ≡ None
unnamed_when_refused text e h = none_by_cases text (cell_named text) (λ c is. unread text c e h (named text c is))
