-- Lemmas about reading a list from the front: the remaining rows are read exactly if all rows are.
use Rattle.std.specs.Prelude.{◌≡◌, ℕ, suc, ◌+◌, ◌<◌, List, [], ◌∷◌, ◌++◌, length, drop, refl, Bool, true, false, ◌==◌, IsTrue, ◌↔◌}
use Rattle.std.proofs.Common.{sym, ap, ◌∙◌, subst, append_assoc, get_or, arith}
use Rattle.std.proofs.Math.Seq.{drop-cons}
use Rattle.std.proofs.Math.Dec.{eqb-suc-zero}
use Rattle.std.proofs.lemmas.List.{append-nil}

-- If a test returns false, the proposition that it decides does not hold.
pub not_so : (b : Bool) (P : Type 0) → (IsTrue b ↔ P) → b ≡ false → ¬ P
not_so b P h e p = let y = h.1 p in cc

-- Holds if `out` is read, and the rest reads `ds` exactly if the whole reads `out ++ ds`.
pub record ReadSoFar {X : Type 0} (whole rest : List X → Type 0) (out : List X) : Type 0 where
  pub on : (ds : List X) → rest ds → whole (out ++ ds)
  pub back : (fs : List X) → whole fs → (ds : List X) × (fs ≡ out ++ ds) × rest ds

pub read_none : {X : Type 0} (whole : List X → Type 0) → ReadSoFar whole whole []
read_none whole = record { on = λ ds h. h; back = λ fs h. (fs, refl, h) }

pub read_more : {X : Type 0} (whole rest next : List X → Type 0) (out : List X) (x : X) → ReadSoFar whole rest out
    → ((ds : List X) → next ds → rest (x ∷ ds)) → ((fs : List X) → rest fs → (ds : List X) × (fs ≡ x ∷ ds) × next ds) → ReadSoFar whole next (out ++ x ∷ [])
read_more {X} whole rest next out x g on back = record {
  on = λ ds h. subst whole (sym (append_assoc out (x ∷ []) ds)) (g.on (x ∷ ds) (on ds h));
  back = λ fs h.
      let a = g.back fs h in
      let b = back a.0 a.2 in
      (b.0, a.1 ∙ (ap (λ (l : List X). out ++ l) b.1 ∙ sym (append_assoc out (x ∷ []) b.0)), b.2);
}

pub read_all : {X : Type 0} (whole rest : List X → Type 0) (out : List X) → ReadSoFar whole rest out → rest [] → whole out
read_all whole rest out g h = subst whole (append-nil out) (g.on [] h)

pub read_nowhere : {X : Type 0} (whole rest : List X → Type 0) (out : List X) → ReadSoFar whole rest out → ((ds : List X) → ¬ rest ds) → (fs : List X) → ¬ whole fs
read_nowhere whole rest out g none fs h = let a = g.back fs h in none a.0 a.2

-- The list from an index is the element there, followed by the list from the next index.
pub front : {X : Type 0} (xs : List X) (i : ℕ) (x : X) → i < length xs → x ≡ get_or xs i x → drop i xs ≡ x ∷ drop (i + 1) xs
front {X} xs i x h e = drop-cons xs i x h ∙ (ap (λ (y : X). y ∷ drop (suc i) xs) (sym e) ∙ ap (λ (n : ℕ). x ∷ drop n xs) (let s : suc i ≡ i + 1 = omega arith in s))

pub front_at : {X : Type 0} (xs : List X) (i : ℕ) (d : X) → i < length xs → drop i xs ≡ get_or xs i d ∷ drop (i + 1) xs
front_at {X} xs i d h = drop-cons xs i d h ∙ ap (λ (n : ℕ). get_or xs i d ∷ drop n xs) (let s : suc i ≡ i + 1 = omega arith in s)

-- A list of length 0 is empty.
pub is_none : {X : Type 0} (xs : List X) (b : Bool) → b ≡ (length xs == 0) → b ≡ true → xs ≡ []
is_none [] b e t = refl
is_none (x ∷ xs) b e t = cc (eqb-suc-zero (length xs))

pub is_some : {X : Type 0} (xs : List X) (b : Bool) → b ≡ (length xs == 0) → b ≡ false → ¬ (xs ≡ [])
is_some [] b e t = λ n. cc
is_some (x ∷ xs) b e t = λ n. cc
