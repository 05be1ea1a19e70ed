-- Lemmas: the first place that passes a test.
use Rattle.std.proofs.Common.{◌≡◌, ℕ, zero, suc, ◌+◌, ◌<◌, ◌≤◌, Bool, true, false, cond, List, [], ◌∷◌, ◌++◌, length, get_or, set, map, take, drop, Option, Some, None, refl, sym, ap, subst, ◌∙◌, arith}
use Rattle.std.specs.Prelude.{All, Contains, is_some, nat_lt, position}
use Rattle.std.specs.List.{position_or_len}
use Rattle.std.proofs.lemmas.Bool.Decides.{nat_tests}
use Rattle.std.proofs.lemmas.List.{get_or_at}
use Rattle.std.proofs.lemmas.List.Quantifiers.{position-Some}
use Rattle.std.proofs.lemmas.List.Sums.{fails_before_first}
use Rattle.std.specs.List.{flat_map}
use Rattle.pool_core.proofs.Lists.{Split, contains_at, contains_same}
use Rattle.pool_instance.proofs.Ends.{no_slot}
use Rattle.pool_instance.proofs.Pending.{number_slot, slot_number}
use Rattle.pool_instance.proofs.Times.{both}
use Rattle.std.proofs.lemmas.List.Edits.{map_over_more}
use Rattle.pool_instance.specs.Lists.{asked, told}
use Rattle.pool_instance.specs.Parts.{asked_stage, is_number, number_of, stage_after}
use Rattle.pool_instance.specs.declared.waiting.Reading.{Reading}
use Rattle.pool_instance.specs.declared.waiting.Stage.{Stage}

past_case : (n m : ℕ) (b : Bool) → nat_lt n m ≡ b → cond b (Some n) None ≡ None → m ≤ n
past_case n m true is h = absurd cc
past_case n m false is h = grind (arith, nat_tests, is)

pub position_none : {X : Type 0} (p : X → Bool) (xs : List X) → position p xs ≡ None → All (λ x. p x ≡ false) xs
position_none p xs h k d lt =
    let past = past_case (position_or_len p xs) (length xs) (nat_lt (position_or_len p xs) (length xs)) refl h in
    fails_before_first p xs k d (omega (arith, lt, past))

-- The element at a place.
pub record At {X : Type 0} (xs : List X) (n : ℕ) : Type 0 where
  pub one : X
  pub split : Split xs n one

pub at_place : {X : Type 0} (xs : List X) (n : ℕ) → n < length xs → At xs n
at_place [] n lt = absurd (omega (arith, lt))
at_place (x ∷ xs) zero lt = record { one = x; split = record { front = []; back = xs; split = refl; at = refl } }
at_place (x ∷ xs) (suc n) lt =
    let a = at_place xs n (omega (arith, lt)) in
    record { one = a.one; split = record { front = x ∷ a.split.front; back = a.split.back; split = ap (λ v. x ∷ v) a.split.split; at = omega (arith, a.split.at) } }

-- The first element that passes a test.
pub record Found {X : Type 0} (p : X → Bool) (xs : List X) (n : ℕ) : Type 0 where
  pub one : X
  pub split : Split xs n one
  pub passes : p one ≡ true

pub position_found : {X : Type 0} (p : X → Bool) (xs : List X) (n : ℕ) → position p xs ≡ Some n → n < length xs → Found p xs n
position_found p xs n h lt =
    let a = at_place xs n lt in
    let there : get_or xs n a.one ≡ a.one = ap (λ v. get_or v n a.one) a.split.split ∙ get_or_at a.split.front a.one a.split.back a.one n a.split.at in
    record { one = a.one; split = a.split; passes = ap p (sym there) ∙ (position-Some p xs n a.one h).1 }

within_case : (k m n : ℕ) (b : Bool) → nat_lt k m ≡ b → cond b (Some k) None ≡ Some n → n < m
within_case k m n true is h = let e : k ≡ n = cc in let lt : k < m = grind (arith, nat_tests, is) in subst (λ (v : ℕ). v < m) e lt
within_case k m n false is h = absurd cc

pub position_within : {X : Type 0} (p : X → Bool) (xs : List X) (n : ℕ) → position p xs ≡ Some n → n < length xs
position_within p xs n h = within_case (position_or_len p xs) (length xs) n (nat_lt (position_or_len p xs) (length xs)) refl h

pub is_the_number : (id : ℕ) (slot : Option ℕ) → is_number id slot ≡ true → slot ≡ Some id
is_the_number id None h = absurd cc
is_the_number id (Some k) h = let e : k ≡ id = grind (arith, h) in ap (λ v. Some v) e

-- Steps of the loops that note a question, and the answer to one.
pub set_told : (question count : ℕ) (xs ys : List Reading) (i : ℕ) (x : Reading) (s : Stage) → i < length xs → ys ≡ map (told question count) (take i xs) ++ drop i xs → x ≡ get_or ys i x → s ≡ stage_after question count (get_or ys i x).stage
    → set ys i (record { held = (get_or ys i x).held; stage = s }) ≡ map (told question count) (take (i + 1) xs) ++ drop (i + 1) xs
set_told question count xs ys i x s lt inv read is =
    let made : record { held = (get_or ys i x).held; stage = s } ≡ told question count x =
    ap (λ (v : Stage). record { held = (get_or ys i x).held; stage = v }) is ∙ ap (λ (v : Reading). told question count v) (sym read) in
    ap (λ (v : Reading). set ys i v) made ∙ map_over_more (told question count) xs ys i x lt inv read

pub set_asked : (in_flight : Bool) (question : ℕ) (xs ys : List Reading) (i : ℕ) (x : Reading) (s : Stage) → i < length xs → ys ≡ map (asked in_flight question) (take i xs) ++ drop i xs → x ≡ get_or ys i x
    → s ≡ asked_stage in_flight question (get_or ys i x) → set ys i (record { held = (get_or ys i x).held; stage = s }) ≡ map (asked in_flight question) (take (i + 1) xs) ++ drop (i + 1) xs
set_asked in_flight question xs ys i x s lt inv read is =
    let made : record { held = (get_or ys i x).held; stage = s } ≡ asked in_flight question x =
    ap (λ (v : Stage). record { held = (get_or ys i x).held; stage = v }) is ∙ ap (λ (v : Reading). asked in_flight question v) (sym read) in
    ap (λ (v : Reading). set ys i v) made ∙ map_over_more (asked in_flight question) xs ys i x lt inv read

pub there_iff : (slots : List (Option ℕ)) (id : ℕ) (o : Option ℕ) → position (is_number id) slots ≡ o
    → (is_some o ≡ true → Contains (flat_map number_of slots) id) × (Contains (flat_map number_of slots) id → is_some o ≡ true)
there_iff slots id None h = (λ e. absurd (both false e refl), λ c. absurd (no_slot slots id (position_none (is_number id) slots h) (number_slot slots id c)))
there_iff slots id (Some i) h =
    let f = position_found (is_number id) slots i h (position_within (is_number id) slots i h) in
    let was : slots ≡ f.split.front ++ Some id ∷ f.split.back = f.split.split ∙ ap (λ (v : Option ℕ). f.split.front ++ v ∷ f.split.back) (is_the_number id f.one f.passes) in
    (λ e. slot_number slots id (contains_same slots (f.split.front ++ Some id ∷ f.split.back) (Some id) was (contains_at f.split.front (Some id) f.split.back)), λ c. refl)
