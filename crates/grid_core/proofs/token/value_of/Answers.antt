use Rattle.std.proofs.Common.{◌≡◌, ◌<◌, ◌^◌, ◌+◌, take, length, arith, sym, ap, ◌∙◌, ℕ, List, ◌≤◌, ◌*◌, subst, length-take, get_or}
use Rattle.std.specs.Char.{digit_value}
use Rattle.std.specs.Str.Parse.{AllDigits, digits_value}
use Rattle.std.proofs.lemmas.Int.Digits.{digits_value-lt, digits_value_more, digits_more}
use Rattle.grid_core.proofs.Tokens.{digit_at, room}
use Rattle.grid_core.proofs.token.value_of.Goals as goal

pub returns-in_default : goal.returns-in_default
returns-in_default c = λ all. let lt = digit_at c.args.text.now c.loop-byte.byte-index all c.loop-byte-test.true in omega (arith, lt)

below : (text : List ℕ) (i value : ℕ) → AllDigits 16 (take i text) → value ≡ digits_value 16 (take i text) → i < length text → length text ≤ 16 → value < 2 ^ 60
below text i value digits is lt most =
    let size : length (take i text) ≡ i = omega (arith, length-take i text) in
    let few : value < 16 ^ i = subst (λ (x : ℕ). x < 16 ^ i) (sym is) (subst (λ (k : ℕ). digits_value 16 (take i text) < 16 ^ k) size (digits_value-lt 16 (take i text) digits)) in
    room value i few (omega arith)

pub overflow_mul-value : goal.overflow_mul-value
overflow_mul-value c = let b = below c.args.text.now c.loop-byte.byte-index c.loop-byte.value c.loop-byte.invariant.digits c.loop-byte.invariant.value c.loop-byte-test.true c.requires in omega (arith, b)

pub overflow_add-value : goal.overflow_add-value
overflow_add-value c = let b = below c.args.text.now c.loop-byte.byte-index c.loop-byte.value c.loop-byte.invariant.digits c.loop-byte.invariant.value c.loop-byte-test.true c.requires in omega (arith, b, c.in-Some.ensures.1)

pub loop-byte-preserved : goal.loop-byte-preserved
loop-byte-preserved c = record {
  digits = digits_more 16 c.args.text.now c.loop-byte.byte-index c.loop-byte-test.true c.loop-byte.invariant.digits (subst (λ (x : ℕ). x < 16) c.in-Some.ensures.0 c.in-Some.ensures.1);
  value = sym (digits_value_more 16 c.args.text.now c.loop-byte.byte-index c.loop-byte-test.true ∙ (ap (λ (x : ℕ). x * 16 + digit_value (get_or c.args.text.now c.loop-byte.byte-index 0)) (sym c.loop-byte.invariant.value) ∙ ap (λ (x : ℕ). c.loop-byte.value * 16 + x) (sym c.in-Some.ensures.0)));
}
