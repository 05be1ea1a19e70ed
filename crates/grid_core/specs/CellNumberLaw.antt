-- Every valid number is the number of the cell that `cell_of` returns. All of it is proved. It is
-- in `specs/` because `CellId` cites it.
use Rattle.std.specs.Prelude.{◌≡◌, ℕ, zero, suc, ◌+◌, ◌-◌, ◌*◌, ◌^◌, ◌/◌, ◌%◌, ◌≤◌, ◌<◌, List, [], ◌∷◌, length, refl}
use Rattle.std.specs.Int.{w64, trailing_zeros, bit_at}
use Rattle.std.proofs.lemmas.Nat.Bits.{bit_at_lowest, bit_at-suc, bit_at-trailing_zeros}
use Rattle.std.proofs.Common.{arith, sym, ap, ◌∙◌}
use Rattle.std.proofs.Math.Nat.{pow-suc, pow-succ', div-one, div-div-eq-div-mul, div-add-mod'}
use Rattle.std.proofs.lemmas.Nat.{shr-shr, pow-add}
use Rattle.grid_core.specs.Cell.{digits_sum, number_of}
use Rattle.grid_core.specs.CellNumber.{path, digits, cell_at, cell_of, IsNumber}

pub length-digits : (l p : ℕ) → length (digits l p) ≡ l
length-digits zero p = refl
length-digits (suc l) p = ap suc (length-digits l p)

pub four : (r : ℕ) → 4 ^ r ≡ 2 ^ (2 * r)
four zero = refl
four (suc r) = let a = pow-suc 4 r in let b = pow-suc 2 (2 * r) in let c = pow-suc 2 (2 * r + 1) in let ih = four r in
    let i : 2 * suc r ≡ suc (suc (2 * r)) = omega arith in
    rw i (pow-suc 4 r ∙ (let d : 2 ^ suc (suc (2 * r)) ≡ 2 ^ suc (2 * r) * 2 = pow-suc 2 (suc (2 * r)) in omega (arith, ih, b, d)))

-- A path is four times the path one level up, plus its last digit.
pub path_step : (l p : ℕ) → 4 * (p / 4 ^ suc l) + p / 4 ^ l % 4 ≡ p / 4 ^ l
path_step l p =
    let e : p / 4 ^ l / 4 ≡ p / 4 ^ suc l = div-div-eq-div-mul p (4 ^ l) 4 ∙ ap (λ (x : ℕ). p / x) (sym (pow-suc 4 l)) in
    let split : p / 4 ^ l / 4 * 4 + p / 4 ^ l % 4 ≡ p / 4 ^ l = div-add-mod' (p / 4 ^ l) 4 in
    omega (arith, e, split)

pub path-digits : (l p : ℕ) → path (p / 4 ^ l) (digits l p) ≡ p
path-digits zero p = div-one p
path-digits (suc l) p = ap (λ (x : ℕ). path x (digits l p)) (path_step l p) ∙ path-digits l p

pub odd_product : (p x y : ℕ) → y ≡ x * 2 → (2 * p + 1) * x ≡ p * y + x
odd_product p x y e = rw e (omega arith)

four_product : (f d x y s : ℕ) → y ≡ x * 4 → f * y + (d * x + s) ≡ (4 * f + d) * x + s
four_product f d x y s e = rw e (omega arith)

-- A face, its digits from a level on and the bit behind them, as one number computed from the path.
pub number_by_path : (f i k : ℕ) → (ds : List ℕ) → i + length ds + k ≡ 30 → f * 2 ^ (61 - 2 * i) + digits_sum i ds ≡ (2 * path f ds + 1) * 4 ^ k
number_by_path f i k [] e =
    let bit : 60 - 2 * i ≡ 2 * k = omega arith in
    let above : 61 - 2 * i ≡ 2 * k + 1 = omega arith in
    let twice : 2 ^ (2 * k + 1) ≡ 2 ^ (2 * k) * 2 = pow-add 2 (2 * k) 1 in
    rw bit (rw above (sym (odd_product f (2 ^ (2 * k)) (2 ^ (2 * k + 1)) twice) ∙ ap (λ (x : ℕ). (2 * f + 1) * x) (sym (four k))))
number_by_path f i k (d ∷ ds) e =
    let level : 61 - 2 * i ≡ 61 - 2 * (i + 1) + 2 = omega arith in
    let up : 2 ^ (61 - 2 * i) ≡ 2 ^ (61 - 2 * (i + 1)) * 4 = ap (λ (x : ℕ). 2 ^ x) level ∙ pow-add 2 (61 - 2 * (i + 1)) 2 in
    four_product f d (2 ^ (61 - 2 * (i + 1))) (2 ^ (61 - 2 * i)) (digits_sum (i + 1) ds) up ∙ number_by_path (4 * f + d) (i + 1) k ds (omega arith)

turn : (a b : ℕ) → 2 * (a * b) ≡ a * (b * 2)
turn a b = omega arith

-- A number is odd times the power of two of its lowest 1 bit.
pub odd_times : (n t : ℕ) → bit_at n t ≡ 1 → ((i : ℕ) → i < t → bit_at n i ≡ 0) → n ≡ (2 * (n / 2 ^ (t + 1)) + 1) * 2 ^ t
odd_times n zero one none =
    let m : n / 2 ^ 1 * 2 + n % 2 ≡ n = div-add-mod' n 2 in
    let o : n % 2 ≡ 1 = sym (bit_at_lowest n) ∙ one in
    omega (arith, m, o)
odd_times n (suc t) one none =
    let m : n / 2 * 2 + n % 2 ≡ n = div-add-mod' n 2 in
    let z : n % 2 ≡ 0 = sym (bit_at_lowest n) ∙ none 0 (omega arith) in
    let up : (i : ℕ) → i < t → bit_at (n / 2) i ≡ 0 = λ i h. sym (bit_at-suc n i) ∙ none (suc i) (omega arith) in
    let ih : n / 2 ≡ (2 * (n / 2 / 2 ^ (t + 1)) + 1) * 2 ^ t = odd_times (n / 2) t (sym (bit_at-suc n t) ∙ one) up in
    let q : n / 2 / 2 ^ (t + 1) ≡ n / 2 ^ (suc t + 1) = div-div-eq-div-mul n 2 (2 ^ (t + 1)) ∙ (ap (λ (x : ℕ). n / x) (sym (pow-succ' 2 (t + 1))) ∙ ap (λ (x : ℕ). n / 2 ^ x) (let same : suc (t + 1) ≡ suc t + 1 = omega arith in same)) in
    let s : 2 ^ suc t ≡ 2 ^ t * 2 = pow-suc 2 t in
    let ih' : n / 2 ≡ (2 * (n / 2 ^ (suc t + 1)) + 1) * 2 ^ t = ih ∙ ap (λ (x : ℕ). (2 * x + 1) * 2 ^ t) q in
    let s' : (2 * (n / 2 ^ (suc t + 1)) + 1) * 2 ^ suc t ≡ (2 * (n / 2 ^ (suc t + 1)) + 1) * (2 ^ t * 2) = ap (λ (x : ℕ). (2 * (n / 2 ^ (suc t + 1)) + 1) * x) s in
    let e : n ≡ 2 * (n / 2) = omega (arith, m, z) in
    e ∙ (ap (λ (x : ℕ). 2 * x) ih' ∙ (turn (2 * (n / 2 ^ (suc t + 1)) + 1) (2 ^ t) ∙ sym s'))

-- The level of a valid number, and the path at that level.
pub record Located (n : ℕ) : Type 0 where
  pub levels : ℕ
  pub left : ℕ
  pub all : levels + left ≡ 30
  pub place : trailing_zeros w64 n ≡ 2 * left
  pub number : n ≡ (2 * (n / 2 ^ (trailing_zeros w64 n + 1)) + 1) * 4 ^ left
  pub top : n / 2 ^ (trailing_zeros w64 n + 1) / 4 ^ levels ≡ n / 2 ^ 61

pub located : (n : ℕ) → IsNumber n → Located n
located n v =
    let t = trailing_zeros w64 n in
    let k = t / 2 in
    let split : t / 2 * 2 + t % 2 ≡ t = div-add-mod' t 2 in
    let ev : t % 2 ≡ 0 = v.even in
    let pl : t ≤ 60 = v.place in
    let tk : t ≡ 2 * k = omega arith in
    let b = bit_at-trailing_zeros w64 n v.some v.fits in
    let lv : 30 - k + k ≡ 30 = omega arith in
    record {
      levels = 30 - k;
      left = k;
      all = lv;
      place = tk;
      number = odd_times n t b.1 b.2 ∙ ap (λ (x : ℕ). (2 * (n / 2 ^ (t + 1)) + 1) * x) (ap (λ (x : ℕ). 2 ^ x) tk ∙ sym (four k));
      top = ap (λ (x : ℕ). n / 2 ^ (t + 1) / x) (four (30 - k)) ∙ (shr-shr n (t + 1) (2 * (30 - k)) ∙ ap (λ (x : ℕ). n / 2 ^ x) (let e : t + 1 + 2 * (30 - k) ≡ 61 = omega arith in e));
    }

-- Every valid number is the number of its cell.
pub number-cell_of : (n : ℕ) → IsNumber n → number_of (cell_of n) ≡ n
unfolding number_of cell_of cell_at
number-cell_of n v =
    let t = trailing_zeros w64 n in
    let p = n / 2 ^ (t + 1) in
    let a = located n v in
    let split : t / 2 * 2 + t % 2 ≡ t = div-add-mod' t 2 in
    let l : 30 - t / 2 ≡ a.levels = let x = a.all in let y = a.place in let z = v.even in omega arith in
    let len : length (digits (30 - t / 2) p) + a.left ≡ 30 = ap (λ (x : ℕ). x + a.left) (length-digits (30 - t / 2) p ∙ l) ∙ a.all in
    number_by_path (p / 4 ^ (30 - t / 2)) 0 a.left (digits (30 - t / 2) p) (omega (arith, len))
    ∙ (ap (λ (x : ℕ). (2 * x + 1) * 4 ^ a.left) (path-digits (30 - t / 2) p) ∙ sym a.number)
