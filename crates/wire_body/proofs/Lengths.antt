-- Lemmas: reading a list keeps its length, so that its limit can be checked before it is read.
use Rattle.std.proofs.Common.{◌≡◌, ◌<◌, ◌≤◌, ℕ, suc, true, false, List, [], ◌∷◌, length, refl, sym, ap, ◌∙◌, arith, Option, Some, None, option_map, option_and_then}
use Rattle.std.proofs.lemmas.Bool.Decides.{nat_tests}
use Rattle.std.specs.Prelude.{nat_le}
use Rattle.serde_json.specs.Data.{Data}
use Rattle.serde_json.specs.Find.{as_array}
use Rattle.entity_core.specs.IdTexts.{ovn_fault}
use Rattle.serde_json.specs.View.{view, items_view}
use Rattle.serde_json.specs.declared.value.Value.{Value}
use Rattle.grid_core.specs.Extent.{Extent}
use Rattle.wire_body.specs.Member.{◌>>=◌, each}
use Rattle.wire_body.specs.Put.{text_in, few_volumes, few_ovns, volumes_in, key_in}
use Rattle.wire_body.specs.Volume.{volume_in}

each_length : {A : Type 0} (read : Data → Option A) (vs : List Value) (xs : List A) → each read (items_view vs) ≡ Some xs → length xs ≡ length vs
each_length read [] xs e = let same : [] ≡ xs = cc in ap length (sym same)
each_length read (v ∷ vs) xs e = by (read (view v)) (each read (items_view vs)) e (each_length read vs)
  where
    by : (r : Option _) (t : Option (List _)) → option_and_then (λ x. option_map (λ ys. x ∷ ys) t) r ≡ Some xs
        → ((ys : List _) → t ≡ Some ys → length ys ≡ length vs) → length xs ≡ suc (length vs)
    by None t e ih = cc
    by (Some x) None e ih = cc
    by (Some x) (Some ys) e ih = let n = ih ys refl in let same : x ∷ ys ≡ xs = cc in omega (arith, ap length same, n)

-- A key that is too long is not read.
long_key : (read : Data → Option (List ℕ)) (vs : List Value) → 4096 < length vs → (each read (items_view vs) >>= few_ovns) ≡ None
long_key read vs l = by (each read (items_view vs)) (each_length read vs)
  where
    by : (t : Option (List (List ℕ))) → ((xs : List (List ℕ)) → t ≡ Some xs → length xs ≡ length vs) → (t >>= few_ovns) ≡ None
    by None ih = refl
    by (Some xs) ih = let n = ih xs refl in let over : nat_le (length xs) 4096 ≡ false = grind (arith, nat_tests) in rw over refl

short_key : (read : Data → Option (List ℕ)) (vs : List Value) (xs : List (List ℕ)) → length vs ≤ 4096 → each read (items_view vs) ≡ Some xs
    → (each read (items_view vs) >>= few_ovns) ≡ Some xs
short_key read vs xs l e =
    let n = each_length read vs xs e in
    let within : nat_le (length xs) 4096 ≡ true = grind (arith, nat_tests) in
    rw (e, within) refl

-- Too many volumes are not read.
many_volumes : (read : Data → Option Extent) (vs : List Value) → 32 < length vs → (each read (items_view vs) >>= few_volumes) ≡ None
many_volumes read vs l = by (each read (items_view vs)) (each_length read vs)
  where
    by : (t : Option (List Extent)) → ((xs : List Extent) → t ≡ Some xs → length xs ≡ length vs) → (t >>= few_volumes) ≡ None
    by None ih = refl
    by (Some xs) ih =
        let n = ih xs refl in
        let over : nat_le (length xs) 32 ≡ false = grind (arith, nat_tests) in
        let least : nat_le 1 (length xs) ≡ true = grind (arith, nat_tests) in
        rw (over, least) refl

-- ---- as the readers find lists

pub no_key : (d : Data) (vs ws : List Value) → Some (items_view vs) ≡ as_array d → ws ≡ vs → 4096 < length ws → key_in d ≡ None
unfolding key_in
no_key d vs ws e same l = rw (sym e) (long_key (text_in ovn_fault) vs (omega (arith, ap length same, l)))

pub a_key : (d : Data) (vs ws : List Value) (xs : List (List ℕ)) → Some (items_view vs) ≡ as_array d → ws ≡ vs → length ws ≤ 4096
    → each (text_in ovn_fault) (items_view ws) ≡ Some xs → key_in d ≡ Some xs
unfolding key_in
a_key d vs ws xs e same l read =
    let there : each (text_in ovn_fault) (items_view vs) ≡ Some xs = ap (λ v. each (text_in ovn_fault) (items_view v)) (sym same) ∙ read in
    rw (sym e) (short_key (text_in ovn_fault) vs xs (omega (arith, ap length same, l)) there)

pub no_volumes : (d : Data) (vs ws : List Value) → Some (items_view vs) ≡ as_array d → ws ≡ vs → 32 < length ws → volumes_in d ≡ None
unfolding volumes_in
no_volumes d vs ws e same l = rw (sym e) (many_volumes volume_in vs (omega (arith, ap length same, l)))
