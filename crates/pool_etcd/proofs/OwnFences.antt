-- Lemmas: the own fence, and a deletion behind it, among one more change.
use Rattle.std.proofs.Common.{◌≡◌, ◌↔◌, ℕ, ◌+◌, ◌<◌, List, [], ◌∷◌, ◌++◌, length, get_or, take, Bool, true, false, ◌||◌, ◌&&◌, ◌⊎◌, inl, inr, refl, sym, ◌∙◌, ap, subst, append_assoc}
use Rattle.std.proofs.lemmas.List.{take_more}
use Rattle.std.proofs.lemmas.List.Folds.{list_any-append}
use Rattle.std.specs.List.{list_any}
use Rattle.pool_etcd.specs.declared.own_fence.OwnFence.{OwnFence}
use Rattle.pool_etcd.specs.declared.watch_line.Change.{Change}
use Rattle.pool_etcd.specs.OwnFence.{DeletesOwn, is_deletion, is_fence, is_given_by}

or_assoc : (a b c : Bool) → (a || (b || c)) ≡ ((a || b) || c)
or_assoc true b c = refl
or_assoc false b c = refl

or_false : (b : Bool) → (b || false) ≡ b
or_false true = refl
or_false false = refl

pub given_at_first : (own : OwnFence) → is_given_by own [] ≡ own.is_given
given_at_first own = or_false own.is_given

pub given_then : (own : OwnFence) (cs : List Change) (c : Change) → is_given_by own (cs ++ c ∷ []) ≡ (is_given_by own cs || is_fence own c)
given_then own cs c =
    ap (λ (b : Bool). own.is_given || b) (list_any-append (is_fence own) cs (c ∷ []) ∙ ap (λ (b : Bool). list_any (is_fence own) cs || b) (or_false (is_fence own c)))
    ∙ or_assoc own.is_given (list_any (is_fence own) cs) (is_fence own c)

none_behind : (ys : List Change) (y : Change) (bs : List Change) → [] ≡ ys ++ y ∷ bs → ⊥
none_behind [] y bs e = cc
none_behind (a ∷ ys) y bs e = cc

-- A change among some and one more is the last one, or stands among the others.
in_both : (xs : List Change) (x : Change) (ys : List Change) (y : Change) (bs : List Change) → xs ++ x ∷ [] ≡ ys ++ y ∷ bs
    → ((ys ≡ xs) × (y ≡ x)) ⊎ ((rest : List Change) × (xs ≡ ys ++ y ∷ rest))
in_both [] x [] y bs e = inl (refl, cc)
in_both [] x (a ∷ ys) y bs e = let tail : [] ≡ ys ++ y ∷ bs = cc in absurd (none_behind ys y bs tail)
in_both (z ∷ xs) x [] y bs e = inr (xs, cc)
in_both (z ∷ xs) x (a ∷ ys) y bs e =
    let head : z ≡ a = cc in
    let tail : xs ++ x ∷ [] ≡ ys ++ y ∷ bs = cc in
    longer head (in_both xs x ys y bs tail)
  where
    longer : z ≡ a → ((ys ≡ xs) × (y ≡ x)) ⊎ ((rest : List Change) × (xs ≡ ys ++ y ∷ rest))
        → ((a ∷ ys ≡ z ∷ xs) × (y ≡ x)) ⊎ ((rest : List Change) × (z ∷ xs ≡ (a ∷ ys) ++ y ∷ rest))
    longer head (inl (same, is)) = inl (cc, is)
    longer head (inr (rest, same)) = inr (rest, cc)

pub none_at_first : (own : OwnFence) → DeletesOwn own [] → ⊥
none_at_first own d = none_behind d.before d.deletion d.after d.split

pub deletes_still : (own : OwnFence) (cs : List Change) (c : Change) → DeletesOwn own cs → DeletesOwn own (cs ++ c ∷ [])
deletes_still own cs c d = record {
  before = d.before;
  deletion = d.deletion;
  after = d.after ++ c ∷ [];
  split = ap (λ (xs : List Change). xs ++ c ∷ []) d.split ∙ append_assoc d.before (d.deletion ∷ d.after) (c ∷ []);
  deletes = d.deletes;
  given = d.given;
}

pub deletes_now : (own : OwnFence) (cs : List Change) (c : Change) → is_given_by own cs ≡ true → is_deletion own c ≡ true → DeletesOwn own (cs ++ c ∷ [])
deletes_now own cs c given deletes = record {
  before = cs;
  deletion = c;
  after = [];
  split = refl;
  deletes = deletes;
  given = given;
}

-- A deletion among some changes and one more.
pub deletes_in : (own : OwnFence) (cs : List Change) (c : Change) → DeletesOwn own (cs ++ c ∷ []) → DeletesOwn own cs ⊎ ((is_given_by own cs ≡ true) × (is_deletion own c ≡ true))
deletes_in own cs c d = either (in_both cs c d.before d.deletion d.after d.split)
  where
    either : ((d.before ≡ cs) × (d.deletion ≡ c)) ⊎ ((rest : List Change) × (cs ≡ d.before ++ d.deletion ∷ rest))
        → DeletesOwn own cs ⊎ ((is_given_by own cs ≡ true) × (is_deletion own c ≡ true))
    either (inl (same, is)) = inr (subst (λ (xs : List Change). is_given_by own xs ≡ true) same d.given, subst (λ (x : Change). is_deletion own x ≡ true) is d.deletes)
    either (inr (rest, split)) = inl (record {
      before = d.before;
      deletion = d.deletion;
      after = rest;
      split = split;
      deletes = d.deletes;
      given = d.given;
    })

-- ---- one more change in a line

either_true : (a b : Bool) → (a || b) ≡ true → (a ≡ true) ⊎ (b ≡ true)
either_true true b e = inl refl
either_true false b e = inr e

both_true : (a b : Bool) → (a && b) ≡ true → (a ≡ true) × (b ≡ true)
both_true true b e = (refl, e)
both_true false b e = let h : ⊥ = cc in absurd h

first_true : (a b : Bool) → a ≡ true → (a || b) ≡ true
first_true a b e = ap (λ (x : Bool). x || b) e

second_true : (a b c : Bool) → b ≡ true → c ≡ true → (a || (b && c)) ≡ true
second_true true b c e f = refl
second_true false b c e f = ap (λ (x : Bool). x && c) e ∙ f

pub given_more : (own : OwnFence) (xs : List Change) (i : ℕ) (c : Change) (old new : Bool) → i < length xs → c ≡ get_or xs i c → old ≡ is_given_by own (take i xs)
    → new ≡ (old || is_fence own c) → new ≡ is_given_by own (take (i + 1) xs)
given_more own xs i c old new below is before more =
    more ∙ ap (λ (b : Bool). b || is_fence own c) before ∙ sym (given_then own (take i xs) c)
    ∙ ap (λ (ys : List Change). is_given_by own ys) (sym (take_more xs i c below ∙ ap (λ (x : Change). take i xs ++ x ∷ []) (sym is)))

pub deleted_more : (own : OwnFence) (xs : List Change) (i : ℕ) (c : Change) (given old new : Bool) → i < length xs → c ≡ get_or xs i c → given ≡ is_given_by own (take i xs)
    → (old ≡ true) ↔ DeletesOwn own (take i xs) → new ≡ (old || (given && is_deletion own c)) → (new ≡ true) ↔ DeletesOwn own (take (i + 1) xs)
deleted_more own xs i c given old new below is known before more =
    let front : take (i + 1) xs ≡ take i xs ++ c ∷ [] = take_more xs i c below ∙ ap (λ (x : Change). take i xs ++ x ∷ []) (sym is) in (
      λ e. subst (λ (ys : List Change). DeletesOwn own ys) (sym front) (forth (either_true old (given && is_deletion own c) (sym more ∙ e))),
      λ d. more ∙ back (deletes_in own (take i xs) c (subst (λ (ys : List Change). DeletesOwn own ys) front d)),
    )
  where
    forth : (old ≡ true) ⊎ ((given && is_deletion own c) ≡ true) → DeletesOwn own (take i xs ++ c ∷ [])
    forth (inl e) = deletes_still own (take i xs) c (before.0 e)
    forth (inr e) = let both = both_true given (is_deletion own c) e in deletes_now own (take i xs) c (sym known ∙ both.0) both.1

    back : DeletesOwn own (take i xs) ⊎ ((is_given_by own (take i xs) ≡ true) × (is_deletion own c ≡ true)) → (old || (given && is_deletion own c)) ≡ true
    back (inl d) = first_true old (given && is_deletion own c) (before.1 d)
    back (inr both) = second_true old given (is_deletion own c) (known ∙ both.0) both.1
