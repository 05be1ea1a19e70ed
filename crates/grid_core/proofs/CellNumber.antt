-- Every valid number is the number of exactly one cell, and the cell is computed from it.
use Rattle.std.specs.Prelude.{◌≡◌, ℕ, zero, suc, ◌+◌, ◌-◌, ◌*◌, ◌^◌, ◌/◌, ◌%◌, ◌≤◌, ◌<◌, List, [], ◌∷◌, ◌++◌, length, refl}
use Rattle.std.specs.List.{AllByRecursion}
use Rattle.std.specs.Int.{w64, trailing_zeros, bit_at}
use Rattle.std.proofs.lemmas.Nat.Bits.{bit_at_lowest, bit_at-zero, bit_at_cat_low, bit_at_cat_high, bit_at-trailing_zeros}
use Rattle.std.proofs.lemmas.Bool.{cases_lt}
use Rattle.std.proofs.Common.{arith, sym, ap, ◌∙◌, subst, inl, inr}
use Rattle.std.proofs.Math.Nat.{add-zero, mul-le-mul_right, pow-suc, div-one, div-div-eq-div-mul, div-add-mod'}
use Rattle.std.proofs.lemmas.Nat.{mod_below, shr-shr, shr_high, pow_pos, pow-add, one_shl, div_below}
use lib.Count.{count_trailing_zeros}
use Rattle.grid_core.specs.Cell.{Cell, IsCell, number_of}
use Rattle.grid_core.specs.CellNumber.{path, digits, cell_at, cell_of, IsNumber}
use Rattle.grid_core.specs.CellNumberLaw.{length-digits, four, odd_product, path-digits, number_by_path, located}

pub small_digits : (l p : ℕ) → AllByRecursion (λ d. d < 4) (digits l p)
small_digits zero p = tt
small_digits (suc l) p = (mod_below (p / 4 ^ l) 4 (omega arith), small_digits l p)

-- Paths of equal length are equal only if their faces and digits are equal.
pub one_path : (f g : ℕ) → (xs ys : List ℕ) → AllByRecursion (λ d. d < 4) xs → AllByRecursion (λ d. d < 4) ys → length xs ≡ length ys → path f xs ≡ path g ys → (f ≡ g) × (xs ≡ ys)
one_path f g [] [] a b l e = (e, refl)
one_path f g [] (y ∷ ys) a b l e = absurd (omega arith)
one_path f g (x ∷ xs) [] a b l e = absurd (omega arith)
one_path f g (x ∷ xs) (y ∷ ys) a b l e =
    let ih = one_path (4 * f + x) (4 * g + y) xs ys a.1 b.1 (omega arith) e in
    let top : 4 * f + x ≡ 4 * g + y = ih.0 in
    let small : x < 4 = a.0 in
    let small' : y < 4 = b.0 in
    let same : x ≡ y = omega arith in
    (omega arith, ap (λ (d : ℕ). d ∷ xs) same ∙ ap (λ ds. y ∷ ds) ih.1)

pub path-append : (f : ℕ) → (xs ys : List ℕ) → path f (xs ++ ys) ≡ path (path f xs) ys
path-append f [] ys = refl
path-append f (x ∷ xs) ys = path-append (4 * f + x) xs ys

-- ---- valid numbers

pub IsCell-cell_of : (n : ℕ) → IsNumber n → IsCell (cell_of n)
unfolding cell_of cell_at
IsCell-cell_of n v =
    let t = trailing_zeros w64 n in
    let p = n / 2 ^ (t + 1) in
    let a = located n v in
    let split : t / 2 * 2 + t % 2 ≡ t = div-add-mod' t 2 in
    let l : 30 - t / 2 ≡ a.levels = let x = a.all in let y = a.place in let z = v.even in omega arith in
    let top : p / 4 ^ (30 - t / 2) ≡ n / 2 ^ 61 = ap (λ (x : ℕ). p / 4 ^ x) l ∙ a.top in
    let low : n / 2 ^ 61 ≤ 5 = v.face in
    let len : length (digits (30 - t / 2) p) ≡ 30 - t / 2 = length-digits (30 - t / 2) p in
    record { face = omega (arith, top, low); levels = omega (arith, len); digits = small_digits (30 - t / 2) p }

-- ---- the number of a cell is valid

-- The lowest 1 bit of an odd number times 2 ^ j is bit j.
pub lowest : (n p j : ℕ) → j < 64 → n < 2 ^ 64 → n ≡ (2 * p + 1) * 2 ^ j → trailing_zeros w64 n ≡ j
lowest n p j below fits is =
    let pos : 0 < 2 ^ j = pow_pos j in
    let big : 1 * 2 ^ j ≤ (2 * p + 1) * 2 ^ j = mul-le-mul_right (2 ^ j) (let q : 1 ≤ 2 * p + 1 = omega arith in q) in
    let some : 0 < n = omega (arith, is, pos, big) in
    let t = trailing_zeros w64 n in
    let b = bit_at-trailing_zeros w64 n some fits in
    let same : n ≡ (2 * p + 1) * 2 ^ j + 0 = is ∙ sym (add-zero ((2 * p + 1) * 2 ^ j)) in
    let zeros : (i : ℕ) → i < j → bit_at n i ≡ 0 = λ i h. ap (λ (x : ℕ). bit_at x i) same ∙ (bit_at_cat_low (2 * p + 1) j 0 i h ∙ bit_at-zero i) in
    let odd : bit_at (2 * p + 1) (j - j) ≡ 1 = ap (λ (x : ℕ). bit_at (2 * p + 1) x) (let z : j - j ≡ 0 = omega arith in z) ∙ (bit_at_lowest (2 * p + 1) ∙ (let z : (2 * p + 1) % 2 ≡ 1 = omega arith in z)) in
    let one : bit_at n j ≡ 1 = ap (λ (x : ℕ). bit_at x j) same ∙ (bit_at_cat_high (2 * p + 1) j 0 j pos (omega arith) ∙ odd) in
    elim (cases_lt t j) [
      | inl lt ↦ let z : bit_at n t ≡ 0 = zeros t lt in let o : bit_at n t ≡ 1 = b.1 in absurd (omega (arith, sym z ∙ o))
      | inr le ↦ elim (cases_lt j t) [
        | inl lt ↦ let z : bit_at n j ≡ 0 = b.2 j lt in absurd (omega (arith, sym z ∙ one))
        | inr ge ↦ omega arith
      ]
    ]

-- Dividing a path by 4 for each digit gives its face.
pub path-face : (f : ℕ) → (ds : List ℕ) → AllByRecursion (λ d. d < 4) ds → path f ds / 4 ^ length ds ≡ f
path-face f [] a = div-one f
path-face f (d ∷ ds) a =
    let ih : path (4 * f + d) ds / 4 ^ length ds ≡ 4 * f + d = path-face (4 * f + d) ds a.1 in
    let small : d < 4 = a.0 in
    let e : path (4 * f + d) ds / 4 ^ length ds / 4 ≡ path (4 * f + d) ds / 4 ^ suc (length ds) = div-div-eq-div-mul (path (4 * f + d) ds) (4 ^ length ds) 4 ∙ ap (λ (x : ℕ). path (4 * f + d) ds / x) (sym (pow-suc 4 (length ds))) in
    sym e ∙ (ap (λ (x : ℕ). x / 4) ih ∙ (let q : (4 * f + d) / 4 ≡ f = omega arith in q))

-- The number of a cell, written with its path and the count of levels below the cell.
pub record NumberOf (c : Cell) : Type 0 where
  pub left : ℕ
  pub all : length c.digits + left ≡ 30
  pub number : number_of c ≡ (2 * path c.face c.digits + 1) * 2 ^ (2 * left)
  pub shifted : number_of c / 2 ^ (2 * left + 1) ≡ path c.face c.digits
  pub top : number_of c / 2 ^ 61 ≡ c.face
  pub fits : number_of c < 2 ^ 64
  pub place : trailing_zeros w64 (number_of c) ≡ 2 * left
  pub some : 0 < number_of c

pub number_of_cell : (c : Cell) → IsCell c → NumberOf c
unfolding number_of
number_of_cell c v =
    let k = 30 - length c.digits in
    let l : length c.digits ≤ 30 = v.levels in
    let all : length c.digits + k ≡ 30 = omega arith in
    let p = path c.face c.digits in
    let n = number_of c in
    let pos : 0 < 2 ^ (2 * k) = pow_pos (2 * k) in
    let is : n ≡ (2 * p + 1) * 2 ^ (2 * k) = number_by_path c.face 0 k c.digits (omega (arith, all)) ∙ ap (λ (x : ℕ). (2 * p + 1) * x) (four k) in
    let twice : 2 ^ (2 * k + 1) ≡ 2 ^ (2 * k) * 2 = pow-add 2 (2 * k) 1 in
    let is2 : n ≡ p * 2 ^ (2 * k + 1) + 2 ^ (2 * k) = is ∙ odd_product p (2 ^ (2 * k)) (2 ^ (2 * k + 1)) twice in
    let low : 2 ^ (2 * k) < 2 ^ (2 * k + 1) = omega (arith, twice, pos) in
    let sh : n / 2 ^ (2 * k + 1) ≡ p = ap (λ (x : ℕ). x / 2 ^ (2 * k + 1)) is2 ∙ shr_high p (2 * k + 1) (2 ^ (2 * k)) low in
    let pf : p / 4 ^ length c.digits ≡ c.face = path-face c.face c.digits v.digits in
    let up : n / 2 ^ 61 ≡ c.face =
    ap (λ (x : ℕ). n / 2 ^ x) (let e : 61 ≡ 2 * k + 1 + 2 * length c.digits = omega arith in e)
    ∙ (sym (shr-shr n (2 * k + 1) (2 * length c.digits)) ∙ (ap (λ (x : ℕ). x / 2 ^ (2 * length c.digits)) sh ∙ (ap (λ (x : ℕ). p / x) (sym (four (length c.digits))) ∙ pf))) in
    let f5 : c.face ≤ 5 = v.face in
    let small : n < 2 ^ 64 = let d : n / 2 ^ 61 ≤ 5 = omega (arith, up, f5) in omega arith in
    record {
      left = k;
      all = all;
      number = is;
      shifted = sh;
      top = up;
      fits = small;
      place = lowest n p (2 * k) (omega arith) small is;
      some = omega (arith, is2, pos);
    }

pub IsNumber-number_of : (c : Cell) → IsCell c → IsNumber (number_of c)
IsNumber-number_of c v =
    let a = number_of_cell c v in
    let p : trailing_zeros w64 (number_of c) ≡ 2 * a.left = a.place in
    let l : length c.digits + a.left ≡ 30 = a.all in
    let f : c.face ≤ 5 = v.face in
    let t : number_of c / 2 ^ 61 ≡ c.face = a.top in
    record { place = omega (arith, p, l); even = omega (arith, p); face = omega (arith, t, f); fits = a.fits; some = a.some }

pub level-cell_of : (n : ℕ) → length (cell_of n).digits ≡ 30 - trailing_zeros w64 n / 2
unfolding cell_of cell_at
level-cell_of n = length-digits (30 - trailing_zeros w64 n / 2) (n / 2 ^ (trailing_zeros w64 n + 1))

pub face-cell_of : (n : ℕ) → IsNumber n → (cell_of n).face ≡ n / 2 ^ 61
unfolding cell_of cell_at
face-cell_of n v =
    let t = trailing_zeros w64 n in
    let a = located n v in
    let split : t / 2 * 2 + t % 2 ≡ t = div-add-mod' t 2 in
    let l : 30 - t / 2 ≡ a.levels = let x = a.all in let y = a.place in let z = v.even in omega arith in
    ap (λ (x : ℕ). n / 2 ^ (t + 1) / 4 ^ x) l ∙ a.top

-- A number with at most 60 trailing zeros is not 0. The number 0 would have 64.
pub some_by_place : (n : ℕ) → trailing_zeros w64 n ≤ 60 → 0 < n
unfolding count_trailing_zeros
some_by_place zero h = absurd (omega (arith, h))
some_by_place (suc n) h = omega arith

-- The lowest 1 bit of a cell's number.
pub record LowestOne (c : Cell) : Type 0 where
  pub size : 1 * 2 ^ trailing_zeros w64 (number_of c) % 2 ^ 64 ≡ 4 ^ (30 - length c.digits)
  pub low : 4 ^ (30 - length c.digits) ≤ number_of c
  pub high : number_of c + 4 ^ (30 - length c.digits) ≤ 2 ^ 64

pub lowest_one_of : (c : Cell) → IsCell c → LowestOne c
lowest_one_of c v =
    let a = number_of_cell c v in
    let k = a.left in
    let all : length c.digits + k ≡ 30 = a.all in
    let p = path c.face c.digits in
    let thirty : 2 * (30 - length c.digits) ≡ 2 * k = omega arith in
    let f : 4 ^ (30 - length c.digits) ≡ 2 ^ (2 * k) = four (30 - length c.digits) ∙ ap (λ (x : ℕ). 2 ^ x) thirty in
    let wide : 2 ^ (2 * k + 1) ≡ 2 ^ (2 * k) * 2 = pow-add 2 (2 * k) 1 in
    let is : number_of c ≡ p * 2 ^ (2 * k + 1) + 2 ^ (2 * k) = a.number ∙ odd_product p (2 ^ (2 * k)) (2 ^ (2 * k + 1)) wide in
    let t : trailing_zeros w64 (number_of c) ≡ 2 * k = a.place in
    let shl : 1 * 2 ^ (2 * k) % 2 ^ 64 ≡ 2 ^ (2 * k) = one_shl (2 * k) 64 (omega arith) in
    let up : number_of c / 2 ^ (2 * k + 1) ≡ p = a.shifted in
    let room : 2 ^ 64 ≡ 2 ^ (63 - 2 * k) * 2 ^ (2 * k + 1) = ap (λ (x : ℕ). 2 ^ x) (let e : 64 ≡ 63 - 2 * k + (2 * k + 1) = omega arith in e) ∙ pow-add 2 (63 - 2 * k) (2 * k + 1) in
    let fits : number_of c < 2 ^ 64 = a.fits in
    let below : p < 2 ^ (63 - 2 * k) = subst (λ (x : ℕ). x < 2 ^ (63 - 2 * k)) up (div_below (number_of c) (2 ^ (2 * k + 1)) (2 ^ (63 - 2 * k)) (pow_pos (2 * k + 1)) (subst (λ (x : ℕ). number_of c < x) room fits)) in
    let whole : (p + 1) * 2 ^ (2 * k + 1) ≤ 2 ^ (63 - 2 * k) * 2 ^ (2 * k + 1) = mul-le-mul_right (2 ^ (2 * k + 1)) (let q : p + 1 ≤ 2 ^ (63 - 2 * k) = omega (arith, below) in q) in
    record {
      size = ap (λ (x : ℕ). 1 * 2 ^ x % 2 ^ 64) t ∙ (shl ∙ sym f);
      low = omega (arith, is, f);
      high = omega (arith, is, f, wide, whole, room);
    }

-- A cell is computed back from its number, so no two cells have the same number.
pub cell_of-number_of : (c : Cell) → IsCell c → cell_of (number_of c) ≡ c
unfolding cell_of cell_at
cell_of-number_of c v =
    let a = number_of_cell c v in
    let n = number_of c in
    let t = trailing_zeros w64 n in
    let all : length c.digits + a.left ≡ 30 = a.all in
    let place : t ≡ 2 * a.left = a.place in
    let level : 30 - t / 2 ≡ length c.digits = omega arith in
    let is : n / 2 ^ (t + 1) ≡ path c.face c.digits = ap (λ (x : ℕ). n / 2 ^ (x + 1)) place ∙ a.shifted in
    let there : cell_at (30 - t / 2) (n / 2 ^ (t + 1)) ≡ cell_at (length c.digits) (path c.face c.digits) = λ i. cell_at (level i) (is i) in
    let face : path c.face c.digits / 4 ^ length c.digits ≡ c.face = path-face c.face c.digits v.digits in
    let one = one_path (path c.face c.digits / 4 ^ length c.digits) c.face (digits (length c.digits) (path c.face c.digits)) c.digits
    (small_digits (length c.digits) (path c.face c.digits)) v.digits (length-digits (length c.digits) (path c.face c.digits)) (path-digits (length c.digits) (path c.face c.digits)) in
    there ∙ (λ i. record { face = face i; digits = one.1 i })

pub same_cell : (c d : Cell) → IsCell c → IsCell d → number_of c ≡ number_of d → c ≡ d
same_cell c d v w e = sym (cell_of-number_of c v) ∙ (ap cell_of e ∙ cell_of-number_of d w)
