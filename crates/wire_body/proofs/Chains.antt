-- Lemmas: the steps of a reading that succeeded.
use Rattle.std.proofs.Common.{◌≡◌, ◌≢◌, ℕ, List, [], ◌∷◌, refl, sym, ◌∙◌, subst, cond, Bool, true, false, Option, Some, None, option_map, nat_eq, arith}
use Rattle.std.proofs.lemmas.Bool.{false≢true}
use Rattle.std.proofs.lemmas.Bool.Decides.{nat_tests}
use Rattle.std.specs.Prelude.{option_and_then}
use Rattle.std.specs.List.{AllByRecursion}
use Rattle.serde_json.specs.Data.{Data, Items, no_items, item}
use Rattle.serde_json.specs.Find.{as_array}
use Rattle.wire_body.specs.Member.{without_fault, each, list_of}

-- If two steps in sequence succeed, the first gives a value and the second accepts it.
pub both_steps : {A B : Type 0} (o : Option A) (f : A → Option B) (y : B) → option_and_then f o ≡ Some y → (x : A) × (o ≡ Some x) × (f x ≡ Some y)
both_steps None f y e = absurd (let h : ⊥ = cc in h)
both_steps (Some x) f y e = (x, refl, e)

pub mapped : {A B : Type 0} (o : Option A) (f : A → B) (y : B) → option_map f o ≡ Some y → (x : A) × (o ≡ Some x) × (f x ≡ y)
mapped None f y e = absurd (let h : ⊥ = cc in h)
mapped (Some x) f y e = (x, refl, cc)

pub faultless : {F A : Type 0} (fault : Option F) (x y : A) → without_fault fault x ≡ Some y → (fault ≡ None) × (x ≡ y)
faultless None x y e = (refl, cc)
faultless (Some f) x y e = absurd (let h : ⊥ = cc in h)

pub passed : {A : Type 0} (b : Bool) (x y : A) → cond b (Some x) None ≡ Some y → (b ≡ true) × (x ≡ y)
passed true x y e = (refl, cc)
passed false x y e = absurd (let h : ⊥ = cc in h)

pub let_through : {A : Type 0} (b : Bool) (o : Option A) (y : A) → cond b o None ≡ Some y → (b ≡ true) × (o ≡ Some y)
let_through true o y e = (refl, e)
let_through false o y e = absurd (let h : ⊥ = cc in h)

-- A number that is read unless it is `z` is not `z`.
pub unless_same : (z n m : ℕ) → cond (nat_eq n z) None (Some n) ≡ Some m → m ≢ z
unless_same z n m e = λ same. by (nat_eq n z) refl e same
  where
    by : (c : Bool) → nat_eq n z ≡ c → cond c None (Some n) ≡ Some m → m ≡ z → ⊥
    by true q x same = let h : ⊥ = cc in h
    by false q x same =
        let is : n ≡ z = cc in
        let here : nat_eq n z ≡ true = grind (arith, nat_tests) in
        false≢true (sym q ∙ here)

-- A property of each value that can be read holds for all values of a list.
pub each_holds : {A : Type 0} (read : Data → Option A) (P : A → Type 0) → ((d : Data) (x : A) → read d ≡ Some x → P x) → (ds : Items) (xs : List A) → each read ds ≡ Some xs → AllByRecursion P xs
each_holds read P holds no_items [] e = tt
each_holds read P holds no_items (x ∷ xs) e = absurd (let h : ⊥ = cc in h)
each_holds {A} read P holds (item d ds) xs e =
    let first = both_steps (read d) (λ x. option_map (λ ys. x ∷ ys) (each read ds)) xs e in
    let rest = mapped (each read ds) (λ ys. first.0 ∷ ys) xs first.2 in
    subst (λ (ys : List A). AllByRecursion P ys) rest.2 (holds d first.0 first.1, each_holds read P holds ds rest.0 rest.1)

pub list_holds : {A : Type 0} (read : Data → Option A) (P : A → Type 0) → ((d : Data) (x : A) → read d ≡ Some x → P x) → (d : Data) (xs : List A) → list_of read d ≡ Some xs → AllByRecursion P xs
list_holds read P holds d xs e = let parts = both_steps (as_array d) (each read) xs e in each_holds read P holds parts.0 xs parts.2
