-- Two intervals of cells are apart or nested.
use Rattle.std.specs.Prelude.{◌≡◌, ℕ, zero, suc, ◌+◌, ◌*◌, ◌^◌, ◌/◌, ◌%◌, ◌≤◌, ◌<◌, ◌⊎◌, List, [], ◌∷◌, ◌++◌, length, take, drop, refl}
use Rattle.std.proofs.Common.{arith, sym, ap, ◌∙◌, inl, inr, length-append, length-take}
use Rattle.std.proofs.Math.Nat.{mul-le-mul_right, div-add-mod', mul_assoc}
use Rattle.std.proofs.Math.Seq.{take-append_seam}
use Rattle.std.proofs.lemmas.Nat.{mod_below, pow-add}
use Rattle.std.proofs.lemmas.List.{take-append-drop}
use Rattle.std.proofs.lemmas.Bool.{cases_lt}
use Rattle.grid_core.specs.Cell.{Cell, IsCell, Contains, cut, lo_of, hi_of, parent_of}
use Rattle.grid_core.specs.Laws.{ShareNumber, TouchByInterval, LiesIn, ApartOrNested, IsAbove, FoundByIndex}
use Rattle.grid_core.proofs.Intervals.{interval, cut_path, held_path, four_pos, Overlap, touch_from_overlap, overlap_from_touch, take_all}
use Rattle.grid_core.proofs.Family.{IsCell-parent_of}

pub ordered : (c : Cell) → IsCell c → lo_of c ≤ hi_of c
ordered c v =
    let i = interval c v in
    let lo : lo_of c ≡ cut_path c * 4 ^ i.lacks = i.lo in
    let hi : hi_of c + 1 ≡ cut_path c * 4 ^ i.lacks + 4 ^ i.lacks = i.hi in
    omega (arith, lo, hi, four_pos i.lacks)

share_overlap : (c d : Cell) → ShareNumber c d → Overlap c d
share_overlap c d s = let a = s.1 in let b = s.2 in let e = s.3 in let f = s.4 in (omega (arith, a, f), omega (arith, b, e))

overlap_share : (c d : Cell) → IsCell c → IsCell d → Overlap c d → ShareNumber c d
overlap_share c d vc vd o = elim (cases_lt (lo_of c) (lo_of d)) [
  | inl lt ↦ (lo_of d, omega (arith, lt), o.1, omega arith, ordered d vd)
  | inr ge ↦ (lo_of c, omega arith, ordered c vc, ge, o.0)
]

pub touch_by_interval_lem : TouchByInterval
touch_by_interval_lem c d vc vd = (
  λ s. touch_from_overlap c d vc vd (share_overlap c d s),
  λ t. overlap_share c d vc vd (overlap_from_touch c d vc vd t),
)

-- The interval of a cell lies in the interval of any cell that contains it.
nested : (p q big small j : ℕ) → 0 < j → big ≡ j * small → q / j ≡ p → (p * big ≤ q * small) × (q * small + small ≤ p * big + big)
nested p q big small j posj e h =
    let d : q / j * j + q % j ≡ q = div-add-mod' q j in
    let m : q % j < j = mod_below q j posj in
    let hp : q / j * j ≡ p * j = ap (λ (x : ℕ). x * j) h in
    let low : p * j * small ≤ q * small = mul-le-mul_right small (let y : p * j ≤ q = omega (arith, d, hp) in y) in
    let high : (q + 1) * small ≤ (p * j + j) * small = mul-le-mul_right small (let y : q + 1 ≤ p * j + j = omega (arith, d, hp, m) in y) in
    let pe : p * big ≡ p * j * small = ap (λ (x : ℕ). p * x) e ∙ sym (mul_assoc p j small) in
    (omega (arith, low, pe), omega (arith, high, pe, e))

pub held_lies : (a b : Cell) → IsCell a → IsCell b → Contains (cut a) (cut b) → LiesIn b a
held_lies a b va vb h =
    let ia = interval a va in
    let ib = interval b vb in
    let g = held_path a b vb h in
    let la : length (take 13 a.digits) + ia.lacks ≡ 13 = ia.levels in
    let lb : length (take 13 b.digits) + ib.lacks ≡ 13 = ib.levels in
    let gl : length (take 13 a.digits) + g.0 ≡ length (take 13 b.digits) = g.1 in
    let j : ia.lacks ≡ g.0 + ib.lacks = omega (arith, la, lb, gl) in
    let scale : 4 ^ ia.lacks ≡ 4 ^ g.0 * 4 ^ ib.lacks = ap (λ (x : ℕ). 4 ^ x) j ∙ pow-add 4 g.0 ib.lacks in
    let n = nested (cut_path a) (cut_path b) (4 ^ ia.lacks) (4 ^ ib.lacks) (4 ^ g.0) (four_pos g.0) scale g.2 in
    let al : lo_of a ≡ cut_path a * 4 ^ ia.lacks = ia.lo in
    let ah : hi_of a + 1 ≡ cut_path a * 4 ^ ia.lacks + 4 ^ ia.lacks = ia.hi in
    let bl : lo_of b ≡ cut_path b * 4 ^ ib.lacks = ib.lo in
    let bh : hi_of b + 1 ≡ cut_path b * 4 ^ ib.lacks + 4 ^ ib.lacks = ib.hi in
    (omega (arith, n.0, al, bl), omega (arith, n.1, ah, bh))

pub apart_or_nested_lem : ApartOrNested
apart_or_nested_lem c d vc vd = elim (cases_lt (hi_of c) (lo_of d)) [
  | inl apart ↦ inl apart
  | inr meets ↦ elim (cases_lt (hi_of d) (lo_of c)) [
    | inl apart ↦ inr (inl apart)
    | inr meets' ↦ elim (touch_from_overlap c d vc vd (meets', meets)) [
      | inl h ↦ inr (inr (inr (held_lies c d vc vd h)))
      | inr h ↦ inr (inr (inl (held_lies d c vd vc h)))
    ]
  ]
]

-- Cells that are equal at level 13 have the same interval.
same_interval : (a b : Cell) → IsCell a → IsCell b → a.face ≡ b.face → take 13 a.digits ≡ take 13 b.digits → (lo_of a ≡ lo_of b) × (hi_of a ≡ hi_of b)
same_interval a b va vb f e =
    let same_ab : Contains (cut a) (cut b) = record { face = f; prefix = ([], append_nothing (take 13 a.digits) ∙ e) } in
    let same_ba : Contains (cut b) (cut a) = record { face = sym f; prefix = ([], append_nothing (take 13 b.digits) ∙ sym e) } in
    let x = held_lies a b va vb same_ab in
    let y = held_lies b a vb va same_ba in
    (omega (arith, x.0, y.0), omega (arith, x.1, y.1))
  where
    append_nothing : (xs : List ℕ) → xs ++ [] ≡ xs
    append_nothing [] = refl
    append_nothing (x ∷ xs) = ap (λ ys. x ∷ ys) (append_nothing xs)

take_take : (k n : ℕ) (xs : List ℕ) → k ≤ n → take k (take n xs) ≡ take k xs
take_take zero n xs le = refl
take_take (suc k) zero xs le = absurd (omega (arith, le))
take_take (suc k) (suc n) [] le = refl
take_take (suc k) (suc n) (x ∷ xs) le = ap (λ ys. x ∷ ys) (take_take k n xs (omega (arith, le)))

-- The first 13 digits are the first k digits followed by the rest of the 13.
parts : (k : ℕ) (xs : List ℕ) → k < 13 → take 13 (take k xs) ++ drop k (take 13 xs) ≡ take 13 xs
parts k xs lt =
    let front : take 13 (take k xs) ≡ take k (take 13 xs) = take_all 13 (take k xs) (omega (arith, length-take k xs, lt)) ∙ sym (take_take k 13 xs (omega (arith, lt))) in
    ap (λ (ys : List ℕ). ys ++ drop k (take 13 xs)) front ∙ take-append-drop k (take 13 xs)

above : (c d : Cell) → IsCell c → IsCell d → Contains (cut d) (cut c) → ((lo_of c ≤ lo_of d) × (lo_of d ≤ hi_of c)) ⊎ IsAbove d c
above c d vc vd h =
    let dd = take 13 d.digits in
    let dc = take 13 c.digits in
    let k = length dd in
    let front : take k dc ≡ dd = ap (take k) (sym h.prefix.1) ∙ take-append_seam dd h.prefix.0 in
    let sizes : k + length h.prefix.0 ≡ length dc = sym (length-append dd h.prefix.0) ∙ ap length h.prefix.1 in
    let short : length dc ≤ 13 = omega (arith, length-take 13 c.digits) in
    let within : length dc ≤ length c.digits = omega (arith, length-take 13 c.digits) in
    elim (cases_lt k (length dc)) [
      | inl lt ↦
          let k13 : k < 13 = omega (arith, lt, short) in
          let kc : k < length c.digits = omega (arith, lt, within) in
          let vp = IsCell-parent_of c vc k (omega (arith, kc)) in
          let same : dd ≡ take 13 (take k c.digits) = sym front ∙ (take_take k 13 c.digits (omega (arith, k13)) ∙ sym (take_all 13 (take k c.digits) (omega (arith, length-take k c.digits, k13)))) in
          let e = same_interval d (parent_of c k) vd vp h.face same in
          inr (k, kc, k13, e.0, e.1)
      | inr ge ↦
          let none : length h.prefix.0 ≡ 0 = omega (arith, sizes, ge) in
          let full : take k dc ≡ dc = take_all k dc ge in
          let e = same_interval d c vd vc h.face (sym front ∙ full) in
          inl (omega (arith, e.0), omega (arith, e.0, ordered c vc))
    ]

pub found_by_index_lem : FoundByIndex
found_by_index_lem c d vc vd = (
  λ t. elim t [
    | inl h ↦ above c d vc vd h
    | inr h ↦ let n = held_lies c d vc vd h in inl (n.0, omega (arith, n.1, ordered d vd))
  ],
  λ f. elim f [
    | inl in_c ↦ touch_from_overlap d c vd vc (in_c.1, omega (arith, in_c.0, ordered d vd))
    | inr up ↦
        let k = up.0 in
        let vp = IsCell-parent_of c vc k (let lt : k < length c.digits = up.1 in omega (arith, lt)) in
        let holds : Contains (cut (parent_of c k)) (cut c) = record { face = refl; prefix = (drop k (take 13 c.digits), parts k c.digits up.2) } in
        let n = held_lies (parent_of c k) c vp vc holds in
        let lo : lo_of d ≡ lo_of (parent_of c k) = up.3 in
        let hi : hi_of d ≡ hi_of (parent_of c k) = up.4 in
        touch_from_overlap d c vd vc (omega (arith, n.1, lo, n.0, ordered c vc), omega (arith, n.0, n.1, lo, hi, ordered c vc))
  ],
)
