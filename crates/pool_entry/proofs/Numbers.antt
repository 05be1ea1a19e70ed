-- Lemmas: a number that is read is the one that is written, and the way back.
use Rattle.std.proofs.Common.{◌≡◌, ◌≢◌, ℕ, ◌+◌, ◌-◌, ◌^◌, ◌<◌, Bool, true, false, cond, ltb, eqb, ◌&&◌, List, [], ◌∷◌, ◌++◌, length, get_or, take, drop, Some, None, Result, Ok, Err, refl, sym, ap, subst, ◌∙◌, arith}
use Rattle.std.specs.Prelude.{decimal, position, option_map, IsUtf8}
use Rattle.std.specs.Int.{IsInRange}
use Rattle.std.specs.List.{position_or_len}
use Rattle.std.specs.Str.{bytes_eq}
use Rattle.std.specs.Str.Parse.{AllDigits, digits_value, ParsesUnsigned}
use Rattle.std.proofs.lemmas.Bool.{and_parts, and_from, ltb-true, lt-ltb, eqb-true, ne_eqb, eq-eqb, cond-true, cond-false, false_from_ne_true}
use Rattle.std.proofs.lemmas.Fmt.{decimal_is_IsNumeral, digits_decimal, parse-decimal, IsAscii-decimal}
use Rattle.std.proofs.lemmas.List.{append_assoc, take_at, drop_at, get_or_append_left, get_or_at, length_push, length-append, take_rest}
use Rattle.std.proofs.lemmas.List.Sums.{position_or_len_is, split_at_first, passes_at_first}
use Rattle.std.proofs.lemmas.Option.{none-some, some_pair_parts}
use Rattle.std.proofs.lemmas.Slice.Eq.{bytes_eq-Decides}
use Rattle.std.proofs.lemmas.Str.{IsUtf8-from_ascii}
use Rattle.std.proofs.lemmas.Str.Parse.{IsNumeralModel, numerals_by_value, tells_digits, not_in_digits}
use Rattle.pool_entry.specs.declared.batch_fault.BatchFault.{BatchFault}
use Rattle.pool_entry.specs.Spelling.{number_text}
use Rattle.pool_entry.specs.Reading.{◌>>=◌, cut_at, number_in, number_before, number_at}

-- ---- steps of reading

pub bind_ok : {A B : Type 0} (r : Result A BatchFault) (f : A → Result B BatchFault) (y : B) → (r >>= f) ≡ Ok y → (x : A) × (r ≡ Ok x) × (f x ≡ Ok y)
bind_ok (Ok x) f y e = (x, refl, e)
bind_ok (Err d) f y e = absurd cc

-- a test that did not fail
pub test_ok : {A : Type 0} (b : Bool) (d : BatchFault) (x y : A) → cond b (Ok x) (Err d) ≡ Ok y → (b ≡ true) × (x ≡ y)
test_ok true d x y e = (refl, cc)
test_ok false d x y e = absurd cc

abbrev pub done : {A : Type 0} → A → Result A BatchFault
done x = Ok x

pub ok_is : {A : Type 0} (x y : A) → done x ≡ done y → x ≡ y
ok_is x y e = cc

-- ---- the number of a text

pub number_in_takes : (fault : BatchFault) (text : List ℕ) (n : ℕ) → number_in fault text ≡ Ok n → (n < 2 ^ 64) × (text ≡ decimal n)
unfolding number_in
number_in_takes fault text n e =
    let v = digits_value 10 text in
    let g = test_ok (ltb v (2 ^ 64) && bytes_eq (decimal v) text) fault v n e in
    let parts = and_parts (ltb v (2 ^ 64)) (bytes_eq (decimal v) text) g.0 in
    let small : v < 2 ^ 64 = ltb-true v (2 ^ 64) parts.0 in
    let same : decimal v ≡ text = (bytes_eq-Decides (decimal v) text).0 parts.1 in
    let P : ℕ → Type 0 = λ m. (m < 2 ^ 64) × (text ≡ decimal m) in
    subst P g.1 (small, sym same)

pub number_in_again : (fault : BatchFault) (n : ℕ) → n < 2 ^ 64 → number_in fault (decimal n) ≡ Ok n
unfolding number_in
number_in_again fault n lt =
    let value : digits_value 10 (decimal n) ≡ n = (decimal_is_IsNumeral n lt).1 in
    let test : (ltb n (2 ^ 64) && bytes_eq (decimal n) (decimal n)) ≡ true = and_from _ _ (lt-ltb n (2 ^ 64) lt) ((bytes_eq-Decides (decimal n) (decimal n)).1 refl) in
    let P : ℕ → Type 0 = λ m. cond (ltb m (2 ^ 64) && bytes_eq (decimal m) (decimal n)) (Ok m) (Err fault) ≡ Ok n in
    subst P (sym value) (cond-true _ (Ok n) (Err fault) test)

pub number_in_gives : (fault : BatchFault) (text : List ℕ) (n : ℕ) → n < 2 ^ 64 → text ≡ decimal n → number_in fault text ≡ Ok n
number_in_gives fault text n lt e = ap (λ t. number_in fault t) e ∙ number_in_again fault n lt

pub number_in_fails : (fault : BatchFault) (text : List ℕ) → ((n : ℕ) → n < 2 ^ 64 → text ≡ decimal n → ⊥) → number_in fault text ≡ Err fault
unfolding number_in
number_in_fails fault text none =
    let v = digits_value 10 text in
    cond-false (ltb v (2 ^ 64) && bytes_eq (decimal v) text) (Ok v) (Err fault)
    (false_from_ne_true _ (λ e.
    let parts = and_parts (ltb v (2 ^ 64)) (bytes_eq (decimal v) text) e in
    none v (ltb-true v (2 ^ 64) parts.0) (sym ((bytes_eq-Decides (decimal v) text).0 parts.1))))

-- a text that is no number of 64 bits for `parse`, or another one than its digits
pub fails_unless_utf8 : (fault : BatchFault) (text : List ℕ) → (IsUtf8 text → ⊥) → number_in fault text ≡ Err fault
fails_unless_utf8 fault text not =
    number_in_fails fault text (λ n lt e. not (subst IsUtf8 (sym e) (IsUtf8-from_ascii (decimal n) (IsAscii-decimal n lt))))

pub fails_unless_parsed : {E : Type 0} (fault : BatchFault) (text : List ℕ) (d : E) → ParsesUnsigned 64 10 text (Err d) → number_in fault text ≡ Err fault
fails_unless_parsed fault text d h =
    number_in_fails fault text (λ n lt e. let same = parse-decimal 64 n text (Err d) lt lt e h in absurd cc)

pub fails_unless_same : {E : Type 0} (fault : BatchFault) (text : List ℕ) (m : ℕ) (r : Result ℕ E) → r ≡ Ok m → ParsesUnsigned 64 10 text r → (text ≡ decimal m → ⊥) → number_in fault text ≡ Err fault
fails_unless_same fault text m r is h not =
    number_in_fails fault text (λ n lt e. let same = parse-decimal 64 n text r lt lt e h in let m-is : n ≡ m = cc in not (e ∙ ap decimal m-is))

-- ---- cutting at a byte

pub cut_takes : (stop : ℕ) (bytes : List ℕ) (parts : List ℕ × List ℕ) → cut_at stop bytes ≡ Some parts → bytes ≡ parts.0 ++ stop ∷ parts.1
cut_takes stop bytes parts e =
    let p : ℕ → Bool = λ b. eqb b stop in
    let at = position_or_len p bytes in
    elim (ltb at (length bytes)) as (λ b. ltb at (length bytes) ≡ b → option_map (λ i. (take i bytes, drop (i + 1) bytes)) (cond b (Some at) None) ≡ Some parts → bytes ≡ parts.0 ++ stop ∷ parts.1) [
      | true ↦ λ was some.
          let lt : at < length bytes = ltb-true at (length bytes) was in
          let stops : get_or bytes at 0 ≡ stop = eqb-true _ _ (passes_at_first p bytes 0 lt) in
          let split = split_at_first p bytes 0 lt in
          let pieces = some_pair_parts (take at bytes) parts.0 (drop (at + 1) bytes) parts.1 some in
          split ∙ ap (λ (b : ℕ). take at bytes ++ b ∷ drop (at + 1) bytes) stops ∙ ap (λ (t : List ℕ). t ++ stop ∷ drop (at + 1) bytes) pieces.0 ∙ ap (λ (t : List ℕ). parts.0 ++ stop ∷ t) pieces.1
      | false ↦ λ was none. absurd (none-some parts none)
    ] refl e

pub cut_is : (stop : ℕ) (bytes : List ℕ) (i : ℕ) → position (λ b. eqb b stop) bytes ≡ Some i → Some (take i bytes, take (length bytes - (i + 1)) (drop (i + 1) bytes)) ≡ cut_at stop bytes
cut_is stop bytes i e =
    let parts : ℕ → List ℕ × List ℕ = λ j. (take j bytes, drop (j + 1) bytes) in
    ap (λ (t : List ℕ). Some (take i bytes, t)) (take_rest bytes (i + 1)) ∙ ap (option_map parts) (sym e)

-- no byte of the list is `stop`
abbrev pub Lacks : ℕ → List ℕ → Type 0
Lacks stop xs = (i : ℕ) → i < length xs → get_or xs i 0 ≢ stop

at_stop : (stop : ℕ) (text rest : List ℕ) → Lacks stop text → position_or_len (λ b. eqb b stop) (text ++ stop ∷ rest) ≡ length text
at_stop stop text rest lacks =
    position_or_len_is (λ b. eqb b stop) (text ++ stop ∷ rest) (length text) 0 (omega (arith, length-append text (stop ∷ rest)))
    (λ k lt. let ne = lacks k lt in rw get_or_append_left (ne_eqb _ _ ne)) (λ _. rw (get_or_at text stop rest 0 (length text) refl) (eq-eqb stop stop refl))

pub cut_again : (stop : ℕ) (text rest : List ℕ) → Lacks stop text → cut_at stop (text ++ stop ∷ rest) ≡ Some (text, rest)
cut_again stop text rest lacks =
    let whole = text ++ stop ∷ rest in
    let at = at_stop stop text rest lacks in
    let lt : ltb (length text) (length whole) ≡ true = lt-ltb _ _ (omega (arith, length-append text (stop ∷ rest))) in
    let front : take (length text) whole ≡ text = take_at text (stop ∷ rest) (length text) refl in
    let regrouped : whole ≡ (text ++ stop ∷ []) ++ rest = sym (append_assoc text (stop ∷ []) rest) in
    let back : drop (length text + 1) whole ≡ rest = ap (drop (length text + 1)) regrouped ∙ drop_at (text ++ stop ∷ []) rest (length text + 1) (length_push text stop) in
    let parts : ℕ → List ℕ × List ℕ = λ i. (take i whole, drop (i + 1) whole) in
    let P : ℕ → Type 0 = λ n. option_map parts (cond (ltb n (length whole)) (Some n) None) ≡ Some (text, rest) in
    let one : P (length text) = rw lt (ap (λ (t : List ℕ). Some (t, drop (length text + 1) whole)) front ∙ ap (λ (t : List ℕ). Some (text, t)) back) in
    subst P (sym at) one

-- ---- a number and the byte that ends it

own : IsNumeralModel (AllDigits 10) (digits_value 10)
own = numerals_by_value (AllDigits 10) tells_digits

pub digits_lack : (stop n : ℕ) → (IsInRange 48 57 stop → ⊥) → n < 2 ^ 64 → Lacks stop (decimal n)
digits_lack stop n not lt i within = not_in_digits own (decimal n) stop (digits_decimal own n lt) not i within

pub number_takes : (fault : BatchFault) (stop : ℕ) (bytes : List ℕ) (x : ℕ × List ℕ) → number_at fault stop bytes ≡ Ok x → (bytes ≡ number_text stop x.0 ++ x.1) × (x.0 < 2 ^ 64)
unfolding number_at
number_takes fault stop bytes x e =
    elim (cut_at stop bytes) as (λ o. cut_at stop bytes ≡ o → number_before fault o ≡ Ok x → (bytes ≡ number_text stop x.0 ++ x.1) × (x.0 < 2 ^ 64)) [
      | None ↦ λ was bad. absurd cc
      | Some parts ↦ λ was good.
          let b = bind_ok (number_in fault parts.0) (λ n. Ok (n, parts.1)) x good in
          let read = number_in_takes fault parts.0 b.0 b.1 in
          let cut = cut_takes stop bytes parts was in
          let whole : bytes ≡ number_text stop b.0 ++ parts.1 = cut ∙ ap (λ (t : List ℕ). t ++ stop ∷ parts.1) read.1 ∙ sym (append_assoc (decimal b.0) (stop ∷ []) parts.1) in
          let P : ℕ × List ℕ → Type 0 = λ y. (bytes ≡ number_text stop y.0 ++ y.1) × (y.0 < 2 ^ 64) in
          subst P (ok_is (b.0, parts.1) x b.2) (whole, read.0)
    ] refl e

pub number_again : (fault : BatchFault) (stop n : ℕ) (rest : List ℕ) → (IsInRange 48 57 stop → ⊥) → n < 2 ^ 64 → number_at fault stop (number_text stop n ++ rest) ≡ Ok (n, rest)
unfolding number_at
number_again fault stop n rest not lt =
    let regrouped : number_text stop n ++ rest ≡ decimal n ++ stop ∷ rest = append_assoc (decimal n) (stop ∷ []) rest in
    let cut : cut_at stop (number_text stop n ++ rest) ≡ Some (decimal n, rest) = ap (cut_at stop) regrouped ∙ cut_again stop (decimal n) rest (digits_lack stop n not lt) in
    ap (number_before fault) cut ∙ ap (λ (r : Result ℕ BatchFault). r >>= λ m. Ok (m, rest)) (number_in_again fault n lt)
