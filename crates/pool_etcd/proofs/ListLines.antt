-- Lemmas: the lines of a supplier list.
use Rattle.std.proofs.Common.{◌≡◌, ℕ, ◌-◌, ◌<◌, ◌≤◌, List, [], ◌∷◌, ◌++◌, length, get_or, take, drop, Bool, true, false, ◌||◌, ◌==◌, refl, sym, ◌∙◌, ap, arith}
use Rattle.std.proofs.lemmas.Bool.{false_from_ne_true, ne_eqb}
use Rattle.std.proofs.lemmas.List.{append_cancel_left, get_or_default, take-append-drop, take_at, take_rest, drop_at}
use Rattle.std.proofs.lemmas.List.Splits.{slice_split_at, slice_split_none}
use Rattle.std.proofs.lemmas.Slice.Eq.{bytes_eq-Decides}
use Rattle.std.specs.List.{list_any}
use Rattle.std.specs.Prelude.{All, ◌↔◌}
use Rattle.std.specs.Str.{bytes_eq}
use Rattle.pool_etcd.specs.Lines.{BeginsWith, IsOneLine}
use Rattle.pool_etcd.specs.Suppliers.{admits, has_line, line_of, lines_of}
use Rattle.pool_etcd.specs.Names.{organization_of}

no_line_feed : (line : List ℕ) → IsOneLine line → All (λ b. (b == 10) ≡ false) line
no_line_feed line one k d low =
    let is = get_or_default line k d 0 low in
    ne_eqb (get_or line k d) 10 (λ e. one k low (sym is ∙ e))

or_false : (b : Bool) → (b || false) ≡ b
or_false true = refl
or_false false = refl

-- A test of the lines of a list that begins with a line.
first_line : (test : List ℕ → Bool) (list line rest : List ℕ) → BeginsWith list line rest → list_any test (lines_of list) ≡ (test line || list_any test (lines_of rest))
first_line test list line rest begins =
    ap (λ (bs : List ℕ). list_any test (lines_of bs)) begins.split ∙ ap (list_any test) (slice_split_at (λ b. b == 10) line 10 rest (no_line_feed line begins.one_line) refl)

-- A test of the lines of one line.
last_line : (test : List ℕ → Bool) (list : List ℕ) → IsOneLine list → list_any test (lines_of list) ≡ test list
last_line test list one = ap (list_any test) (slice_split_none (λ b. b == 10) list (no_line_feed list one)) ∙ or_false (test list)

is_equal : (a b : List ℕ) (r : Bool) → (r ≡ true) ↔ (a ≡ b) → r ≡ bytes_eq b a
is_equal a b true tells = sym ((bytes_eq-Decides b a).1 (sym (tells.0 refl)))
is_equal a b false tells = sym (false_from_ne_true (bytes_eq b a) (λ e. let h : false ≡ true = tells.1 (sym ((bytes_eq-Decides b a).0 e)) in let g : ⊥ = cc in g))

-- The first line lets the organization act.
pub first_line_has : (list line rest organization uss : List ℕ) (r : Bool) → BeginsWith list line rest → (r ≡ true) ↔ (line ≡ line_of organization uss) → r ≡ true
    → has_line list organization uss ≡ true
first_line_has list line rest organization uss r begins tells is =
    let test : bytes_eq (line_of organization uss) line ≡ true = sym (is_equal line (line_of organization uss) r tells) ∙ is in
    first_line (bytes_eq (line_of organization uss)) list line rest begins ∙ ap (λ (b : Bool). b || has_line rest organization uss) test

-- The first line does not: the others decide.
pub first_line_lacks : (list line rest organization uss : List ℕ) (r : Bool) → BeginsWith list line rest → (r ≡ true) ↔ (line ≡ line_of organization uss) → r ≡ false
    → has_line list organization uss ≡ has_line rest organization uss
first_line_lacks list line rest organization uss r begins tells is =
    let test : bytes_eq (line_of organization uss) line ≡ false = sym (is_equal line (line_of organization uss) r tells) ∙ is in
    first_line (bytes_eq (line_of organization uss)) list line rest begins ∙ ap (λ (b : Bool). b || has_line rest organization uss) test

-- The last line decides.
pub last_line_decides : (list organization uss : List ℕ) (r : Bool) → IsOneLine list → (r ≡ true) ↔ (list ≡ line_of organization uss) → r ≡ has_line list organization uss
last_line_decides list organization uss r one tells =
    is_equal list (line_of organization uss) r tells ∙ sym (last_line (bytes_eq (line_of organization uss)) list one)

-- What stands behind the organization in a line decides whether it is the line of a USS.
pub behind_organization : (line organization uss rest : List ℕ) (first : ℕ) → bytes_eq (take (length organization) line) organization ≡ true → first ∷ rest ≡ drop (length organization) line
    → (line ≡ line_of organization uss) ↔ ((first ≡ 32) × (rest ≡ uss))
behind_organization line organization uss rest first begins is =
    let front = (bytes_eq-Decides (take (length organization) line) organization).0 begins in
    let whole : organization ++ first ∷ rest ≡ line =
    ap (λ (xs : List ℕ). organization ++ xs) is ∙ ap (λ (xs : List ℕ). xs ++ drop (length organization) line) (sym front) ∙ take-append-drop (length organization) line in (
      λ e. let tail : first ∷ rest ≡ 32 ∷ uss = append_cancel_left organization (first ∷ rest) (32 ∷ uss) (whole ∙ e) in let head : first ≡ 32 = cc in let others : rest ≡ uss = cc in (head, others),
      λ p. sym whole ∙ ap (λ (x : ℕ). organization ++ x ∷ rest) p.0 ∙ ap (λ (xs : List ℕ). organization ++ 32 ∷ xs) p.1,
    )

-- A space behind the organization: the rest decides.
pub behind_space : (line organization uss behind : List ℕ) (r : Bool) → bytes_eq (take (length organization) line) organization ≡ true → behind ≡ drop (length organization) line
    → 1 ≤ length behind → get_or behind 0 0 ≡ 32 → r ≡ bytes_eq (take (length behind - 1) (drop 1 behind)) uss → (r ≡ true) ↔ (line ≡ line_of organization uss)
behind_space line organization uss [] r begins is some space e = let h : ⊥ = omega (arith, some) in absurd h
behind_space line organization uss (first ∷ rest) r begins is some space e =
    let tells = behind_organization line organization uss rest first begins is in
    let same : r ≡ bytes_eq rest uss = e ∙ ap (λ (xs : List ℕ). bytes_eq xs uss) (take_rest (first ∷ rest) 1) in (
      λ t. tells.1 (space, (bytes_eq-Decides rest uss).0 (sym same ∙ t)),
      λ l. same ∙ (bytes_eq-Decides rest uss).1 (tells.0 l).1,
    )

-- A line that does not begin with the organization is not one of its lines.
pub other_front : (line organization uss : List ℕ) → bytes_eq (take (length organization) line) organization ≡ false → line ≡ line_of organization uss → ⊥
other_front line organization uss other e =
    let front : take (length organization) line ≡ organization = ap (take (length organization)) e ∙ take_at organization (32 ∷ uss) (length organization) refl in
    let same : bytes_eq (take (length organization) line) organization ≡ true = (bytes_eq-Decides (take (length organization) line) organization).1 front in
    let h : true ≡ false = sym same ∙ other in
    let g : ⊥ = cc in g

-- Neither is the organization alone.
pub nothing_behind : (line organization uss : List ℕ) → [] ≡ drop (length organization) line → line ≡ line_of organization uss → ⊥
nothing_behind line organization uss none e =
    let behind : drop (length organization) line ≡ 32 ∷ uss = ap (drop (length organization)) e ∙ drop_at organization (32 ∷ uss) (length organization) refl in
    let h : [] ≡ 32 ∷ uss = none ∙ behind in
    let g : ⊥ = cc in g

-- A list with bytes decides by its lines, and the empty one admits all.
pub admits_by_lines : (list key uss : List ℕ) → 0 < length list → admits list key uss ≡ has_line list (organization_of key) uss
admits_by_lines [] key uss low = let h : ⊥ = omega (arith, low) in absurd h
admits_by_lines (b ∷ list) key uss low = refl

pub admits_all : (list key uss : List ℕ) → length list ≡ 0 → admits list key uss ≡ true
admits_all [] key uss none = refl
admits_all (b ∷ list) key uss none = let h : ⊥ = omega (arith, none) in absurd h
