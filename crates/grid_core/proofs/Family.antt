-- The digits, parents and children of a cell, computed from its number.
use Rattle.std.specs.Prelude.{◌≡◌, ℕ, zero, suc, ◌+◌, ◌-◌, ◌*◌, ◌^◌, ◌/◌, ◌%◌, ◌≤◌, ◌<◌, List, [], ◌∷◌, ◌++◌, length, take, drop, refl, slice_index}
use Rattle.std.specs.List.{AllByRecursion}
use Rattle.std.proofs.Common.{arith, sym, ap, ◌∙◌, subst, length-append, length-take, length-drop}
use Rattle.std.proofs.lemmas.Nat.{shr-shr, pow-add}
use Rattle.std.proofs.lemmas.List.{take-append-drop, take_more}
use Rattle.grid_core.specs.Cell.{Cell, IsCell, Contains, number_of, parent_of, child_of}
use Rattle.grid_core.specs.CellNumber.{path, IsNumber, cell_of}
use Rattle.grid_core.specs.CellNumberLaw.{four, odd_product}
use Rattle.grid_core.proofs.CellNumber.{path-face, path-append, number_of_cell, IsNumber-number_of, cell_of-number_of, same_cell}
use Rattle.grid_core.proofs.Intervals.{all_take, all_drop}

-- The facts that make a number the number of a cell.
pub record Makes (n : ℕ) (c : Cell) : Type 0 where
  pub number : IsNumber n
  pub cell : cell_of n ≡ c

pub makes : (n : ℕ) (c : Cell) → IsCell c → n ≡ number_of c → Makes n c
makes n c v e = record { number = subst IsNumber (sym e) (IsNumber-number_of c v); cell = ap cell_of e ∙ cell_of-number_of c v }

-- Shifting a cell's number right leaves the path of its first digits.
pub front_path : (c : Cell) → IsCell c → (k : ℕ) → k ≤ length c.digits → number_of c / 2 ^ (61 - 2 * k) ≡ path c.face (take k c.digits)
front_path c v k le =
    let a = number_of_cell c v in
    let all : length c.digits + a.left ≡ 30 = a.all in
    let j = length c.digits - k in
    let place : 61 - 2 * k ≡ 2 * a.left + 1 + 2 * j = omega arith in
    let split : path c.face c.digits ≡ path (path c.face (take k c.digits)) (drop k c.digits) = ap (path c.face) (sym (take-append-drop k c.digits)) ∙ path-append c.face (take k c.digits) (drop k c.digits) in
    let rest : length (drop k c.digits) ≡ j = length-drop k c.digits in
    let up : path c.face c.digits / 2 ^ (2 * j) ≡ path c.face (take k c.digits) = ap (λ (x : ℕ). x / 2 ^ (2 * j)) split
    ∙ (ap (λ (x : ℕ). path (path c.face (take k c.digits)) (drop k c.digits) / x) (sym (four j) ∙ ap (λ (x : ℕ). 4 ^ x) (sym rest))
    ∙ path-face (path c.face (take k c.digits)) (drop k c.digits) (all_drop _ k c.digits v.digits)) in
    ap (λ (x : ℕ). number_of c / 2 ^ x) place ∙ (sym (shr-shr (number_of c) (2 * a.left + 1) (2 * j)) ∙ (ap (λ (x : ℕ). x / 2 ^ (2 * j)) a.shifted ∙ up))

pub IsCell-parent_of : (c : Cell) → IsCell c → (k : ℕ) → k ≤ length c.digits → IsCell (parent_of c k)
IsCell-parent_of c v k le =
    let levels : length c.digits ≤ 30 = v.levels in
    record { face = v.face; levels = omega (arith, length-take k c.digits); digits = all_take _ k c.digits v.digits }

below_word : (x y : ℕ) → x + y < 2 ^ 64 → x % 18446744073709551616 + y % 18446744073709551616 ≡ x + y
below_word x y lt = omega arith

pub parent_number : (c : Cell) → IsCell c → (k n : ℕ) → k ≤ length c.digits → n ≡ number_of c
    → n / 2 ^ (60 - 2 * k + 1) * 2 ^ (60 - 2 * k + 1) % 18446744073709551616 + 1 * 2 ^ (60 - 2 * k) % 18446744073709551616 ≡ number_of (parent_of c k)
parent_number c v k n le is =
    let levels : length c.digits ≤ 30 = v.levels in
    let p = number_of_cell (parent_of c k) (IsCell-parent_of c v k le) in
    let s = 60 - 2 * k in
    let q = path c.face (take k c.digits) in
    let all : length (take k c.digits) + p.left ≡ 30 = p.all in
    let place : 2 * p.left ≡ s = omega (arith, all, length-take k c.digits) in
    let next : s + 1 ≡ 61 - 2 * k = omega arith in
    let number : number_of (parent_of c k) ≡ (2 * q + 1) * 2 ^ s = p.number ∙ ap (λ (x : ℕ). (2 * q + 1) * 2 ^ x) place in
    let twice : 2 ^ (s + 1) ≡ 2 ^ s * 2 = pow-add 2 s 1 in
    let sum : number_of (parent_of c k) ≡ q * 2 ^ (s + 1) + 1 * 2 ^ s = number ∙ (odd_product q (2 ^ s) (2 ^ (s + 1)) twice ∙ (let e : q * 2 ^ (s + 1) + 2 ^ s ≡ q * 2 ^ (s + 1) + 1 * 2 ^ s = omega arith in e)) in
    let top : n / 2 ^ (s + 1) ≡ q = ap (λ (x : ℕ). x / 2 ^ (s + 1)) is ∙ (ap (λ (x : ℕ). number_of c / 2 ^ x) next ∙ front_path c v k le) in
    let fits : q * 2 ^ (s + 1) + 1 * 2 ^ s < 2 ^ 64 = subst (λ (x : ℕ). x < 2 ^ 64) sum p.fits in
    ap (λ (x : ℕ). x * 2 ^ (s + 1) % 18446744073709551616 + 1 * 2 ^ s % 18446744073709551616) top ∙ (below_word (q * 2 ^ (s + 1)) (1 * 2 ^ s) fits ∙ sym sum)

-- Each digit is less than 4.
small_at : (xs : List ℕ) (i : ℕ) → AllByRecursion (λ d. d < 4) xs → i < length xs → slice_index xs i < 4
small_at [] i all lt = absurd (omega (arith, lt))
small_at (x ∷ xs) zero all lt = all.0
small_at (x ∷ xs) (suc i) all lt = small_at xs i all.1 (omega (arith, lt))

pub digit_number : (c : Cell) → IsCell c → (i n : ℕ) → 1 ≤ i → i ≤ length c.digits → n ≡ number_of c → n / 2 ^ (61 - 2 * i) % 4 ≡ slice_index c.digits (i - 1)
digit_number c v i n some le is =
    let m = i - 1 in
    let next : i ≡ m + 1 = omega arith in
    let lt : m < length c.digits = omega arith in
    let d = slice_index c.digits m in
    let small : d < 4 = small_at c.digits m v.digits lt in
    let front : take i c.digits ≡ take m c.digits ++ d ∷ [] = ap (λ (x : ℕ). take x c.digits) next ∙ take_more c.digits m 0 lt in
    let walk : path c.face (take i c.digits) ≡ 4 * path c.face (take m c.digits) + d = ap (path c.face) front ∙ path-append c.face (take m c.digits) (d ∷ []) in
    ap (λ (x : ℕ). x / 2 ^ (61 - 2 * i) % 4) is ∙ (ap (λ (x : ℕ). x % 4) (front_path c v i le ∙ walk) ∙ omega arith)

-- A child of a cell is a cell.
pub IsCell-child_of : (c : Cell) → IsCell c → (d : ℕ) → length c.digits < 30 → d ≤ 3 → IsCell (child_of c d)
IsCell-child_of c v d room small =
    let lt : d < 4 = omega arith in
    record { face = v.face; levels = omega (arith, length-append c.digits (d ∷ [])); digits = all_with c.digits d v.digits lt }
  where
    all_with : (xs : List ℕ) (d : ℕ) → AllByRecursion (λ x. x < 4) xs → d < 4 → AllByRecursion (λ x. x < 4) (xs ++ d ∷ [])
    all_with [] d all lt = (lt, tt)
    all_with (x ∷ xs) d all lt = (all.0, all_with xs d all.1 lt)

child_sum : (p d q w n m : ℕ) → w ≡ q * 4 → n ≡ (2 * p + 1) * w → m ≡ (2 * (4 * p + d) + 1) * q → (w ≤ n) × (n - w + (2 * d + 1) * (w / 4) ≡ m)
child_sum p d q w n m e is to =
    let whole : n ≡ (2 * p + 1) * (q * 4) = is ∙ ap (λ (x : ℕ). (2 * p + 1) * x) e in
    let quarter : w / 4 ≡ q = omega (arith, e) in (
      omega (arith, whole, e),
      ap (λ (x : ℕ). n - w + (2 * d + 1) * x) quarter ∙ (let s : n - w + (2 * d + 1) * q ≡ m = omega (arith, whole, e, to) in s),
    )

pub child_number : (c : Cell) → IsCell c → (d n w : ℕ) → length c.digits < 30 → d ≤ 3 → n ≡ number_of c → w ≡ 4 ^ (30 - length c.digits) → (w ≤ n) × (n - w + (2 * d + 1) * (w / 4) ≡ number_of (child_of c d))
child_number c v d n w room small is lowest =
    let a = number_of_cell c v in
    let b = number_of_cell (child_of c d) (IsCell-child_of c v d room small) in
    let all : length c.digits + a.left ≡ 30 = a.all in
    let all' : length (c.digits ++ d ∷ []) + b.left ≡ 30 = b.all in
    let left : a.left ≡ b.left + 1 = omega (arith, all, all', length-append c.digits (d ∷ [])) in
    let thirty : 30 - length c.digits ≡ b.left + 1 = omega arith in
    let q = 4 ^ b.left in
    let scale : w ≡ q * 4 = lowest ∙ (ap (λ (x : ℕ). 4 ^ x) thirty ∙ pow-add 4 b.left 1) in
    let power : 2 ^ (2 * a.left) ≡ w = sym (four a.left) ∙ (ap (λ (x : ℕ). 4 ^ x) left ∙ (ap (λ (x : ℕ). 4 ^ x) (sym thirty) ∙ sym lowest)) in
    let own : n ≡ (2 * path c.face c.digits + 1) * w = is ∙ (a.number ∙ ap (λ (x : ℕ). (2 * path c.face c.digits + 1) * x) power) in
    let walk : path c.face (c.digits ++ d ∷ []) ≡ 4 * path c.face c.digits + d = path-append c.face c.digits (d ∷ []) in
    let below : number_of (child_of c d) ≡ (2 * (4 * path c.face c.digits + d) + 1) * q = b.number
    ∙ (ap (λ (x : ℕ). (2 * x + 1) * 2 ^ (2 * b.left)) walk ∙ ap (λ (x : ℕ). (2 * (4 * path c.face c.digits + d) + 1) * x) (sym (four b.left))) in
    child_sum (path c.face c.digits) d q w n (number_of (child_of c d)) scale own below

-- ---- containment by parents
take_front : (xs ys : List ℕ) → take (length xs) (xs ++ ys) ≡ xs
take_front [] ys = refl
take_front (x ∷ xs) ys = ap (λ zs. x ∷ zs) (take_front xs ys)

pub contains_parent : (a b : Cell) → IsCell a → IsCell (parent_of b (length a.digits)) → number_of (parent_of b (length a.digits)) ≡ number_of a → Contains a b
contains_parent a b va vp e =
    let same : parent_of b (length a.digits) ≡ a = same_cell (parent_of b (length a.digits)) a vp va e in
    record {
      face = sym (ap (λ (c : Cell). c.face) same);
      prefix = (drop (length a.digits) b.digits, ap (λ (c : Cell). c.digits ++ drop (length a.digits) b.digits) (sym same) ∙ take-append-drop (length a.digits) b.digits);
    }

pub parent_contains : (a b : Cell) → Contains a b → number_of (parent_of b (length a.digits)) ≡ number_of a
parent_contains a b h =
    let front : take (length a.digits) b.digits ≡ a.digits = ap (take (length a.digits)) (sym h.prefix.1) ∙ take_front a.digits h.prefix.0 in
    ap (λ (xs : List ℕ). number_of (record { face = b.face; digits = xs })) front ∙ ap (λ (f : ℕ). number_of (record { face = f; digits = a.digits })) (sym h.face)

pub contains_levels : (a b : Cell) → Contains a b → length a.digits ≤ length b.digits
contains_levels a b h = let e = ap length h.prefix.1 in omega (arith, e, length-append a.digits h.prefix.0)
