-- Lemmas about the numbers within a range, in the order of `sqlite`.
use Rattle.std.proofs.Common.{◌≡◌, inl, inr, Some, ◌≤ℤ◌, ℤ, Bool, true, false, not, ◌&&◌, ◌||◌, cond, refl, sym, ap, ap₂, subst, ◌∙◌, arith, Ordering, Less, Equal, Greater, int_lt, int_le}
use Rattle.std.specs.Ordering.{is_eq, is_gt, nat_cmp, ordering_reverse}
use Rattle.std.proofs.lemmas.Int.{ints}
use Rattle.std.proofs.lemmas.Bool.{cases_Bool}
use Rattle.sqlite_value.specs.declared.value.Value.{Value}
use Rattle.sqlite_value.specs.declared.value.Value.TheVariants.{Null, Int, Real, Text, Blob}
use Rattle.sqlite_value.specs.declared.keys.Collation.TheVariants.{Binary}
use Rattle.sqlite_value.specs.Order.{class, value_cmp}
use Rattle.sqlite_value.proofs.OrderLemmas.{value_cmp-Int, value_cmp-Null, value_cmp_total}
use Rattle.sqlite_sql.specs.declared.ops.BinaryOp.TheVariants.{Compare, Or, Is}
use Rattle.sqlite_sql.specs.declared.ops.CompareOp.TheVariants.{Gt, Le}
use Rattle.sqlite_sql.specs.Ops.{binary, is_true, is_null, from_truth, test}
use Rattle.sqlite_typed.proofs.TestLemmas.{at_ints, at_or}
use Rattle.space_sql_check.specs.Parts.{is_within}

-- ---- one bound

abbrev above : ℤ → Value → Bool
above n v = is_true (binary (Compare Gt Binary) v (Int n))

abbrev upto : ℤ → Value → Bool
upto n v = is_true (binary (Compare Le Binary) v (Int n))

gt_told : (b : Bool) (o : Ordering) → is_true (cond (b || false) Null (from_truth (Some (test Gt o)))) ≡ (not b && is_gt o)
gt_told true o = refl
gt_told false Less = refl
gt_told false Equal = refl
gt_told false Greater = refl

le_told : (b : Bool) (o : Ordering) → is_true (cond (b || false) Null (from_truth (Some (test Le o)))) ≡ (not b && not (is_gt o))
le_told true o = refl
le_told false Less = refl
le_told false Equal = refl
le_told false Greater = refl

above_is : (n : ℤ) (v : Value) → above n v ≡ (not (is_null v) && is_gt (value_cmp v (Int n)))
unfolding binary
above_is n v = gt_told (is_null v) (value_cmp v (Int n))

upto_is : (n : ℤ) (v : Value) → upto n v ≡ (not (is_null v) && not (is_gt (value_cmp v (Int n))))
unfolding binary
upto_is n v = le_told (is_null v) (value_cmp v (Int n))

-- ---- a greater bound

turned : (o : Ordering) → ordering_reverse o ≡ Greater → o ≡ Less
turned Less e = refl
turned Equal e = absurd cc
turned Greater e = absurd cc

greater_is : (o : Ordering) → is_gt o ≡ true → o ≡ Greater
greater_is Less e = absurd cc
greater_is Equal e = absurd cc
greater_is Greater e = refl

-- A value greater than a number is greater than each lesser one.
falls : (m n : ℤ) (v : Value) → m ≤ℤ n → is_gt (value_cmp v (Int n)) ≡ true → is_gt (value_cmp v (Int m)) ≡ true
falls m n v le h = elim (cases_Bool (int_lt m n)) [
  | inl lt ↦
      let less : value_cmp (Int m) (Int n) ≡ Less = value_cmp-Int m n ∙ grind (arith, ints, lt) in
      let high : value_cmp (Int n) v ≡ Less = turned (value_cmp (Int n) v) (sym (value_cmp_total.antisymm v (Int n)) ∙ greater_is (value_cmp v (Int n)) h) in
      ap is_gt (value_cmp_total.antisymm v (Int m) ∙ ap ordering_reverse (value_cmp_total.trans (Int m) (Int n) v less high))
  | inr same ↦
      let e : n ≡ m = grind (arith, ints, le, same) in
      subst (λ (k : ℤ). is_gt (value_cmp v (Int k)) ≡ true) e h
]

-- ---- ranges

within_is : (over end : ℤ) (v : Value) → is_within over end v ≡ ((not (is_null v) && is_gt (value_cmp v (Int over))) && (not (is_null v) && not (is_gt (value_cmp v (Int end)))))
within_is over end v = ap₂ ◌&&◌ (above_is over v) (upto_is end v)

joined : (n a b c : Bool) → (b ≡ true → a ≡ true) → (c ≡ true → b ≡ true)
    → ((not n && a) && (not n && not c)) ≡ (((not n && a) && (not n && not b)) || ((not n && b) && (not n && not c)))
joined true a b c p q = refl
joined false true true true p q = refl
joined false true true false p q = refl
joined false true false true p q = absurd (let e = q refl in cc)
joined false true false false p q = refl
joined false false true c p q = absurd (let e = p refl in cc)
joined false false false true p q = refl
joined false false false false p q = refl

parted : (n a b c : Bool) → ((not n && a) && (not n && not b)) ≡ true → ((not n && b) && (not n && not c)) ≡ false
parted true a b c e = absurd cc
parted false true true c e = absurd cc
parted false true false c e = refl
parted false false b c e = absurd cc

module _ (over mid end : ℤ) (low : over ≤ℤ mid) (high : mid ≤ℤ end) (v : Value) where
  -- A range that is cut into two.
  pub within_joined : is_within over end v ≡ (is_within over mid v || is_within mid end v)
  within_joined =
      within_is over end v
      ∙ (joined (is_null v) (is_gt (value_cmp v (Int over))) (is_gt (value_cmp v (Int mid))) (is_gt (value_cmp v (Int end))) (falls over mid v low) (falls mid end v high)
      ∙ ap₂ ◌||◌ (sym (within_is over mid v)) (sym (within_is mid end v)))

pub within_parted : (over mid end : ℤ) (v : Value) → is_within over mid v ≡ true → is_within mid end v ≡ false
within_parted over mid end v e = within_is mid end v ∙ parted (is_null v) (is_gt (value_cmp v (Int over))) (is_gt (value_cmp v (Int mid))) (is_gt (value_cmp v (Int end))) (sym (within_is over mid v) ∙ e)

-- At a number.
pub within_int : (over end n : ℤ) → is_within over end (Int n) ≡ (int_lt over n && int_le n end)
within_int over end n = ap₂ ◌&&◌ (at_ints false Gt n over) (at_ints false Le n end)

-- ---- outside a range

others : (n a c : Bool) → ((n || (not n && not a)) || (not n && c)) ≡ not ((not n && a) && (not n && not c))
others true a c = refl
others false true true = refl
others false true false = refl
others false false c = elim c as (λ b. ((true || false) || b) ≡ true) [ true ↦ refl | false ↦ refl ]

by_class : (v : Value) → is_eq (ordering_reverse (nat_cmp 0 (class v))) ≡ is_null v
by_class Null = refl
by_class (Int n) = refl
by_class (Real x) = refl
by_class (Text t) = refl
by_class (Blob b) = refl

told : (b : Bool) → is_true (from_truth (Some b)) ≡ b
told true = refl
told false = refl

null_told : (v : Value) → is_true (binary (Is Binary) v Null) ≡ is_null v
unfolding binary
null_told v = told (is_eq (value_cmp v Null)) ∙ (ap is_eq (value_cmp_total.antisymm v Null ∙ ap ordering_reverse (value_cmp-Null v)) ∙ by_class v)

pub outside_is : (over end : ℤ) (v : Value) → is_true (binary Or (binary Or (binary (Is Binary) v Null) (binary (Compare Le Binary) v (Int over))) (binary (Compare Gt Binary) v (Int end))) ≡ not (is_within over end v)
outside_is over end v =
    at_or false (binary Or (binary (Is Binary) v Null) (binary (Compare Le Binary) v (Int over))) (binary (Compare Gt Binary) v (Int end)) (at_or false (binary (Is Binary) v Null) (binary (Compare Le Binary) v (Int over)) (null_told v) (upto_is over v)) (above_is end v)
    ∙ (others (is_null v) (is_gt (value_cmp v (Int over))) (is_gt (value_cmp v (Int end))) ∙ ap not (sym (within_is over end v)))

-- ---- a range without numbers

none_both : (n a : Bool) → ((not n && a) && (not n && not a)) ≡ false
none_both true a = refl
none_both false true = refl
none_both false false = refl

pub within_none : (n : ℤ) (v : Value) → is_within n n v ≡ false
within_none n v = within_is n n v ∙ none_both (is_null v) (is_gt (value_cmp v (Int n)))
