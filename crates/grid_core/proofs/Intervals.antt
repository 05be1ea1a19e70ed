-- The interval of a cell at level 13. Two intervals share a number exactly if the cells touch.
use Rattle.std.specs.Prelude.{◌≡◌, ℕ, zero, suc, ◌+◌, ◌-◌, ◌*◌, ◌^◌, ◌/◌, ◌%◌, ◌≤◌, ◌<◌, List, [], ◌∷◌, ◌++◌, length, take, drop, refl}
use Rattle.std.specs.List.{AllByRecursion}
use Rattle.std.proofs.Common.{arith, sym, ap, ◌∙◌, subst, inl, inr, length-append}
use Rattle.std.proofs.Math.Nat.{mul-le-mul_right, div-add-mod', mul_assoc}
use Rattle.std.proofs.lemmas.Nat.{mod_below, shr-shr, shr_high, pow_pos, pow-add, div-mul-add}
use Rattle.std.proofs.lemmas.Bool.{cases_lt}
use Rattle.std.proofs.lemmas.List.{take-append-drop}
use Rattle.std.proofs.Common.{length-take, length-drop}
use Rattle.grid_core.specs.Cell.{Cell, IsCell, number_of, range_min, range_max, lo_of, hi_of, cut, Contains, Touch}
use Rattle.grid_core.specs.CellNumber.{path}
use Rattle.grid_core.specs.CellNumberLaw.{four}
use Rattle.grid_core.proofs.CellNumber.{path-face, path-append, one_path, number_of_cell}

-- What holds for all digits holds for all of a prefix and all of a suffix.
pub all_take : (P : ℕ → Type 0) → (n : ℕ) → (xs : List ℕ) → AllByRecursion P xs → AllByRecursion P (take n xs)
all_take P zero xs a = tt
all_take P (suc n) [] a = tt
all_take P (suc n) (x ∷ xs) a = (a.0, all_take P n xs a.1)

pub all_drop : (P : ℕ → Type 0) → (n : ℕ) → (xs : List ℕ) → AllByRecursion P xs → AllByRecursion P (drop n xs)
all_drop P zero xs a = a
all_drop P (suc n) [] a = tt
all_drop P (suc n) (x ∷ xs) a = all_drop P n xs a.1

pub all_rest : (P : ℕ → Type 0) → (xs ys : List ℕ) → AllByRecursion P (xs ++ ys) → AllByRecursion P ys
all_rest P [] ys a = a
all_rest P (x ∷ xs) ys a = all_rest P xs ys a.1

pub four_pos : (r : ℕ) → 0 < 4 ^ r
four_pos r = rw (four r) (pow_pos (2 * r))

pub take_all : (n : ℕ) → (xs : List ℕ) → length xs ≤ n → take n xs ≡ xs
take_all zero [] h = refl
take_all zero (x ∷ xs) h = absurd (omega (arith, h))
take_all (suc n) [] h = refl
take_all (suc n) (x ∷ xs) h = ap (λ ys. x ∷ ys) (take_all n xs (omega (arith, h)))

-- The path of the cell after `cut`.
abbrev pub cut_path : Cell → ℕ
cut_path c = path c.face (take 13 c.digits)

-- The interval of a cell, written with the path of the cut cell and the levels that it lacks to 13.
pub record Interval (c : Cell) : Type 0 where
  pub lacks : ℕ
  pub levels : length (take 13 c.digits) + lacks ≡ 13
  pub lo : lo_of c ≡ cut_path c * 4 ^ lacks
  pub hi : hi_of c + 1 ≡ cut_path c * 4 ^ lacks + 4 ^ lacks

-- The interval of a cell at level 13 or finer.
fine : (c : Cell) → IsCell c → (j : ℕ) → length c.digits ≡ 13 + j → Interval c
fine c v j l =
    let a = number_of_cell c v in
    let k = a.left in
    let all : length c.digits + k ≡ 30 = a.all in
    let p = path c.face c.digits in
    let f = 4 ^ k in
    let wide : 2 ^ (2 * k + 1) ≡ 2 ^ (2 * k) * 2 = pow-add 2 (2 * k) 1 in
    let fk : 4 ^ k ≡ 2 ^ (2 * k) = four k in
    let pos : 0 < 2 ^ (2 * k) = pow_pos (2 * k) in
    let n : number_of c ≡ p * 2 ^ (2 * k + 1) + 2 ^ (2 * k) = a.number ∙ (rw wide (omega arith)) in
    let thirty : 30 - length c.digits ≡ k = omega arith in
    let low : range_min c ≡ p * 2 ^ (2 * k + 1) + 1 = ap (λ (x : ℕ). number_of c + 1 - 4 ^ x) thirty ∙ (let e : number_of c + 1 - 4 ^ k ≡ p * 2 ^ (2 * k + 1) + 1 = omega (arith, n, fk) in e) in
    let high : range_max c ≡ p * 2 ^ (2 * k + 1) + (2 ^ (2 * k + 1) - 1) = ap (λ (x : ℕ). number_of c + 4 ^ x - 1) thirty ∙ (let e : number_of c + 4 ^ k - 1 ≡ p * 2 ^ (2 * k + 1) + (2 ^ (2 * k + 1) - 1) = omega (arith, n, fk, wide, pos) in e) in
    let place : 35 ≡ 2 * k + 1 + 2 * j = omega arith in
    let down : (x : ℕ) → x / 2 ^ 35 ≡ x / 2 ^ (2 * k + 1) / 2 ^ (2 * j) = λ x. ap (λ (y : ℕ). x / 2 ^ y) place ∙ sym (shr-shr x (2 * k + 1) (2 * j)) in
    let lo1 : range_min c / 2 ^ (2 * k + 1) ≡ p = ap (λ (x : ℕ). x / 2 ^ (2 * k + 1)) low ∙ shr_high p (2 * k + 1) 1 (omega (arith, wide, pos)) in
    let hi1 : range_max c / 2 ^ (2 * k + 1) ≡ p = ap (λ (x : ℕ). x / 2 ^ (2 * k + 1)) high ∙ shr_high p (2 * k + 1) (2 ^ (2 * k + 1) - 1) (omega (arith, wide, pos)) in
    let q : p ≡ path (cut_path c) (drop 13 c.digits) = ap (path c.face) (sym (take-append-drop 13 c.digits)) ∙ path-append c.face (take 13 c.digits) (drop 13 c.digits) in
    let ld : length (drop 13 c.digits) ≡ j = omega (arith, length-drop 13 c.digits) in
    let up : p / 2 ^ (2 * j) ≡ cut_path c = ap (λ (x : ℕ). x / 2 ^ (2 * j)) q ∙ (ap (λ (x : ℕ). path (cut_path c) (drop 13 c.digits) / x) (sym (four j) ∙ ap (λ (x : ℕ). 4 ^ x) (sym ld)) ∙ path-face (cut_path c) (drop 13 c.digits) (all_drop _ 13 c.digits v.digits)) in
    let lo2 : lo_of c ≡ cut_path c = down (range_min c) ∙ (ap (λ (x : ℕ). x / 2 ^ (2 * j)) lo1 ∙ up) in
    let hi2 : hi_of c ≡ cut_path c = down (range_max c) ∙ (ap (λ (x : ℕ). x / 2 ^ (2 * j)) hi1 ∙ up) in
    record {
      lacks = 0;
      levels = omega (arith, length-take 13 c.digits);
      lo = omega (arith, lo2);
      hi = omega (arith, hi2);
    }

-- The interval of a cell at level 13 or coarser.
coarse : (c : Cell) → IsCell c → (j : ℕ) → length c.digits + j ≡ 13 → Interval c
coarse c v j l =
    let a = number_of_cell c v in
    let k = a.left in
    let all : length c.digits + k ≡ 30 = a.all in
    let p = path c.face c.digits in
    let wide : 2 ^ (2 * k + 1) ≡ 2 ^ (2 * k) * 2 = pow-add 2 (2 * k) 1 in
    let fk : 4 ^ k ≡ 2 ^ (2 * k) = four k in
    let fj : 4 ^ j ≡ 2 ^ (2 * j) = four j in
    let pos : 0 < 2 ^ (2 * k) = pow_pos (2 * k) in
    let posj : 0 < 2 ^ (2 * j) = pow_pos (2 * j) in
    let n : number_of c ≡ p * 2 ^ (2 * k + 1) + 2 ^ (2 * k) = a.number ∙ (rw wide (omega arith)) in
    let thirty : 30 - length c.digits ≡ k = omega arith in
    let place : 2 * k + 1 ≡ 2 * j + 35 = omega arith in
    let apart : 2 ^ (2 * k + 1) ≡ 2 ^ (2 * j) * 2 ^ 35 = ap (λ (x : ℕ). 2 ^ x) place ∙ pow-add 2 (2 * j) 35 in
    let low : range_min c ≡ p * 2 ^ (2 * j) * 2 ^ 35 + 1 = ap (λ (x : ℕ). number_of c + 1 - 4 ^ x) thirty ∙ (let e : number_of c + 1 - 4 ^ k ≡ p * 2 ^ (2 * k + 1) + 1 = omega (arith, n, fk) in e ∙ (rw apart (omega arith))) in
    let high : range_max c ≡ (p * 2 ^ (2 * j) + 2 ^ (2 * j) - 1) * 2 ^ 35 + (2 ^ 35 - 1) = ap (λ (x : ℕ). number_of c + 4 ^ x - 1) thirty ∙ (let e : number_of c + 4 ^ k - 1 ≡ p * 2 ^ (2 * k + 1) + (2 ^ (2 * k + 1) - 1) = omega (arith, n, fk, wide, pos) in e ∙ (rw apart (omega (arith, posj)))) in
    let same : take 13 c.digits ≡ c.digits = take_all 13 c.digits (omega arith) in
    let cp : cut_path c ≡ p = ap (path c.face) same in
    let lo1 : lo_of c ≡ p * 2 ^ (2 * j) = ap (λ (x : ℕ). x / 2 ^ 35) low ∙ shr_high (p * 2 ^ (2 * j)) 35 1 (omega arith) in
    let hi1 : hi_of c ≡ p * 2 ^ (2 * j) + 2 ^ (2 * j) - 1 = ap (λ (x : ℕ). x / 2 ^ 35) high ∙ shr_high (p * 2 ^ (2 * j) + 2 ^ (2 * j) - 1) 35 (2 ^ 35 - 1) (omega arith) in
    record {
      lacks = j;
      levels = ap (λ (x : List ℕ). length x + j) same ∙ l;
      lo = lo1 ∙ (ap (λ (x : ℕ). x * 2 ^ (2 * j)) (sym cp) ∙ ap (λ (x : ℕ). cut_path c * x) (sym fj));
      hi = (let e : hi_of c + 1 ≡ p * 2 ^ (2 * j) + 2 ^ (2 * j) = omega (arith, hi1, posj) in e) ∙ (ap (λ (x : ℕ). x * 2 ^ (2 * j) + 2 ^ (2 * j)) (sym cp) ∙ ap (λ (x : ℕ). cut_path c * x + x) (sym fj));
    }

pub interval : (c : Cell) → IsCell c → Interval c
interval c v = elim (cases_lt 13 (length c.digits)) [
  | inl fine_one ↦ fine c v (length c.digits - 13) (omega (arith, fine_one))
  | inr coarse_one ↦ coarse c v (13 - length c.digits) (omega (arith, coarse_one))
]

abbrev pub Overlap : Cell → Cell → Type 0
Overlap a b = (lo_of a ≤ hi_of b) × (lo_of b ≤ hi_of a)

-- If the first cell contains the second, the path of the second, shortened to that level, is the
-- path of the first.
pub held_path : (a b : Cell) → IsCell b → Contains (cut a) (cut b) → (j : ℕ) × (length (take 13 a.digits) + j ≡ length (take 13 b.digits)) × (cut_path b / 4 ^ j ≡ cut_path a)
held_path a b vb h =
    let rest = h.prefix.0 in
    let is : take 13 a.digits ++ rest ≡ take 13 b.digits = h.prefix.1 in
    let small : AllByRecursion (λ d. d < 4) (take 13 a.digits ++ rest) = subst (AllByRecursion (λ d. d < 4)) (sym is) (all_take _ 13 b.digits vb.digits) in
    let small_rest : AllByRecursion (λ d. d < 4) rest = all_rest (λ d. d < 4) (take 13 a.digits) rest small in (
      length rest,
      sym (length-append (take 13 a.digits) rest) ∙ ap length is,
      ap (λ (x : List ℕ). path b.face x / 4 ^ length rest) (sym is)
          ∙ (ap (λ (x : ℕ). path x (take 13 a.digits ++ rest) / 4 ^ length rest) (sym h.face)
          ∙ (ap (λ (x : ℕ). x / 4 ^ length rest) (path-append a.face (take 13 a.digits) rest)
          ∙ path-face (cut_path a) rest small_rest)),
    )

-- The converse: equal paths at that level imply containment.
holds_by_path : (a b : Cell) → IsCell a → IsCell b → (j : ℕ) → length (take 13 a.digits) + j ≡ length (take 13 b.digits) → cut_path b / 4 ^ j ≡ cut_path a → Contains (cut a) (cut b)
holds_by_path a b va vb j l e =
    let m = length (take 13 a.digits) in
    let da = take 13 a.digits in
    let db = take 13 b.digits in
    let small_b = all_take _ 13 b.digits vb.digits in
    let split : take m db ++ drop m db ≡ db = take-append-drop m db in
    let lt : length (take m db) ≡ m = omega (arith, length-take m db, l) in
    let ld : length (drop m db) ≡ j = omega (arith, length-drop m db, l) in
    let up : cut_path b / 4 ^ j ≡ path b.face (take m db) =
    ap (λ (x : List ℕ). path b.face x / 4 ^ j) (sym split)
    ∙ (ap (λ (x : ℕ). x / 4 ^ j) (path-append b.face (take m db) (drop m db))
    ∙ (ap (λ (x : ℕ). path (path b.face (take m db)) (drop m db) / 4 ^ x) (sym ld)
    ∙ path-face (path b.face (take m db)) (drop m db) (all_drop _ m db small_b))) in
    let one = one_path a.face b.face da (take m db) (all_take _ 13 a.digits va.digits) (all_take _ m db small_b) (sym lt) (sym e ∙ up) in
    record { face = one.0; prefix = (drop m db, ap (λ (x : List ℕ). x ++ drop m db) one.1 ∙ split) }

-- If q / j is p, each of the two intervals begins before the other ends.
nested_below : (p q big small j : ℕ) → 0 < small → 0 < j → big ≡ j * small → q / j ≡ p → (p * big + 1 ≤ q * small + small) × (q * small + 1 ≤ p * big + big)
nested_below p q big small j pos posj e h =
    let d : q / j * j + q % j ≡ q = div-add-mod' q j in
    let m : q % j < j = mod_below q j posj in
    let hp : q / j * j ≡ p * j = ap (λ (x : ℕ). x * j) h in
    let low : p * j ≤ q = omega (arith, d, hp) in
    let high : q + 1 ≤ p * j + j = omega (arith, d, hp, m) in
    let low' : p * j * small ≤ q * small = mul-le-mul_right small low in
    let high' : (q + 1) * small ≤ (p * j + j) * small = mul-le-mul_right small high in
    let pe : p * big ≡ p * j * small = ap (λ (x : ℕ). p * x) e ∙ sym (mul_assoc p j small) in
    (omega (arith, low', pe, pos), omega (arith, high', pe, e, pos))

overlap_nested : (p q big small j : ℕ) → 0 < small → 0 < j → big ≡ j * small → p * big + 1 ≤ q * small + small → q * small + 1 ≤ p * big + big → q / j ≡ p
overlap_nested p q big small j pos posj e low high =
    let pe : p * big ≡ p * j * small = ap (λ (x : ℕ). p * x) e ∙ sym (mul_assoc p j small) in
    let below : p * j ≤ q = elim (cases_lt q (p * j)) [
      | inl lt ↦ let x : (q + 1) * small ≤ p * j * small = mul-le-mul_right small (let y : q + 1 ≤ p * j = omega (arith, lt) in y) in absurd (omega (arith, x, pe, low))
      | inr ge ↦ ge
    ] in
    let above : q < p * j + j = elim (cases_lt q (p * j + j)) [
      | inl lt ↦ lt
      | inr ge ↦ let x : (p * j + j) * small ≤ q * small = mul-le-mul_right small ge in absurd (omega (arith, x, pe, e, high))
    ] in
    let s : q ≡ p * j + (q - p * j) = omega (arith, below) in
    ap (λ (x : ℕ). x / j) s ∙ div-mul-add p j (q - p * j) (omega (arith, below, above))

pub overlap_from_held : (a b : Cell) → IsCell a → IsCell b → Contains (cut a) (cut b) → Overlap a b
overlap_from_held a b va vb h =
    let ia = interval a va in
    let ib = interval b vb in
    let g = held_path a b vb h in
    let la : length (take 13 a.digits) + ia.lacks ≡ 13 = ia.levels in
    let lb : length (take 13 b.digits) + ib.lacks ≡ 13 = ib.levels in
    let gl : length (take 13 a.digits) + g.0 ≡ length (take 13 b.digits) = g.1 in
    let j : ia.lacks ≡ g.0 + ib.lacks = omega (arith, la, lb, gl) in
    let scale : 4 ^ ia.lacks ≡ 4 ^ g.0 * 4 ^ ib.lacks = ap (λ (x : ℕ). 4 ^ x) j ∙ pow-add 4 g.0 ib.lacks in
    let n = nested_below (cut_path a) (cut_path b) (4 ^ ia.lacks) (4 ^ ib.lacks) (4 ^ g.0) (four_pos ib.lacks) (four_pos g.0) scale g.2 in
    let al : lo_of a ≡ cut_path a * 4 ^ ia.lacks = ia.lo in
    let ah : hi_of a + 1 ≡ cut_path a * 4 ^ ia.lacks + 4 ^ ia.lacks = ia.hi in
    let bl : lo_of b ≡ cut_path b * 4 ^ ib.lacks = ib.lo in
    let bh : hi_of b + 1 ≡ cut_path b * 4 ^ ib.lacks + 4 ^ ib.lacks = ib.hi in
    (omega (arith, n.0, al, bh), omega (arith, n.1, bl, ah))

held_from_overlap : (a b : Cell) → (va : IsCell a) → (vb : IsCell b) → (interval b vb).lacks ≤ (interval a va).lacks → Overlap a b → Contains (cut a) (cut b)
held_from_overlap a b va vb le o =
    let ia = interval a va in
    let ib = interval b vb in
    let la : length (take 13 a.digits) + ia.lacks ≡ 13 = ia.levels in
    let lb : length (take 13 b.digits) + ib.lacks ≡ 13 = ib.levels in
    let j = ia.lacks - ib.lacks in
    let js : ia.lacks ≡ j + ib.lacks = omega (arith, le) in
    let scale : 4 ^ ia.lacks ≡ 4 ^ j * 4 ^ ib.lacks = ap (λ (x : ℕ). 4 ^ x) js ∙ pow-add 4 j ib.lacks in
    let al : lo_of a ≡ cut_path a * 4 ^ ia.lacks = ia.lo in
    let ah : hi_of a + 1 ≡ cut_path a * 4 ^ ia.lacks + 4 ^ ia.lacks = ia.hi in
    let bl : lo_of b ≡ cut_path b * 4 ^ ib.lacks = ib.lo in
    let bh : hi_of b + 1 ≡ cut_path b * 4 ^ ib.lacks + 4 ^ ib.lacks = ib.hi in
    let q = overlap_nested (cut_path a) (cut_path b) (4 ^ ia.lacks) (4 ^ ib.lacks) (4 ^ j) (four_pos ib.lacks) (four_pos j) scale (omega (arith, o.0, al, bh)) (omega (arith, o.1, bl, ah)) in
    holds_by_path a b va vb j (omega (arith, la, lb, js)) q

pub touch_from_overlap : (a b : Cell) → IsCell a → IsCell b → Overlap a b → Touch a b
touch_from_overlap a b va vb o = elim (cases_lt (interval a va).lacks (interval b vb).lacks) [
  | inl lt ↦ inr (held_from_overlap b a vb va (omega (arith, lt)) (o.1, o.0))
  | inr le ↦ inl (held_from_overlap a b va vb le o)
]

pub overlap_from_touch : (a b : Cell) → IsCell a → IsCell b → Touch a b → Overlap a b
overlap_from_touch a b va vb t = elim t [
  | inl h ↦ overlap_from_held a b va vb h
  | inr h ↦ let o = overlap_from_held b a vb va h in (o.1, o.0)
]
