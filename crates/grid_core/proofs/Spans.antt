-- The time spans of volumes.
use Rattle.std.proofs.Common.{◌≡◌, ◌∙◌, sym, subst, ℕ, suc, ◌≤◌, ◌⊎◌, List, [], ◌∷◌, length, Bool, true, false, refl, arith, inl, inr, if◌then◌else◌}
use Rattle.std.specs.Prelude.{nat_le}
use Rattle.std.specs.List.{Any, AllByRecursion, fold}
use Rattle.grid_core.specs.Extent.{Extent}
use Rattle.grid_core.specs.Volumes.{IsSpan, span_of, wider}

any_here : {X : Type 0} (P : X → Type 0) (x : X) (xs : List X) → P x → Any P (x ∷ xs)
any_here P x xs p = (0, x, omega arith, refl, p)

any_later : {X : Type 0} (P : X → Type 0) (x : X) (xs : List X) → Any P xs → Any P (x ∷ xs)
any_later P x xs a = (suc a.0, a.1, (let h = a.2 in omega (arith, h)), a.3, a.4)

-- Holds if m is one of two numbers and at most both.
record IsLeast (a b m : ℕ) : Type 0 where
  pub left : m ≤ a
  pub right : m ≤ b
  pub one : (m ≡ a) ⊎ (m ≡ b)

-- Holds if m is one of two numbers and at least both.
record IsMost (a b m : ℕ) : Type 0 where
  pub left : a ≤ m
  pub right : b ≤ m
  pub one : (m ≡ a) ⊎ (m ≡ b)

least_by : (a b : ℕ) (t : Bool) → nat_le a b ≡ t → IsLeast a b (if t then a else b)
least_by a b true e = record { left = omega arith; right = grind arith; one = inl refl }
least_by a b false e = record { left = grind arith; right = omega arith; one = inr refl }

most_by : (a b : ℕ) (t : Bool) → nat_le a b ≡ t → IsMost a b (if t then b else a)
most_by a b true e = record { left = grind arith; right = omega arith; one = inr refl }
most_by a b false e = record { left = omega arith; right = grind arith; one = inl refl }

-- The facts about a time span that is widened by more volumes.
record Spans (s : ℕ × ℕ) (es : List Extent) (span : ℕ × ℕ) : Type 0 where
  pub low : span.0 ≤ s.0
  pub high : s.1 ≤ span.1
  pub first : AllByRecursion (λ e. span.0 ≤ e.time.0) es
  pub last : AllByRecursion (λ e. e.time.1 ≤ span.1) es
  pub starts : (span.0 ≡ s.0) ⊎ Any (λ e. e.time.0 ≡ span.0) es
  pub ends : (span.1 ≡ s.1) ⊎ Any (λ e. e.time.1 ≡ span.1) es

start_of : (s m : ℕ) (e : Extent) (es : List Extent) (r : ℕ) → (m ≡ s) ⊎ (m ≡ e.time.0) → (r ≡ m) ⊎ Any (λ v. v.time.0 ≡ r) es
    → (r ≡ s) ⊎ Any (λ v. v.time.0 ≡ r) (e ∷ es)
start_of s m e es r (inl a) (inl b) = inl (b ∙ a)
start_of s m e es r (inr a) (inl b) = inr (any_here (λ (v : Extent). v.time.0 ≡ r) e es (sym (b ∙ a)))
start_of s m e es r a (inr b) = inr (any_later (λ (v : Extent). v.time.0 ≡ r) e es b)

end_of : (s m : ℕ) (e : Extent) (es : List Extent) (r : ℕ) → (m ≡ s) ⊎ (m ≡ e.time.1) → (r ≡ m) ⊎ Any (λ v. v.time.1 ≡ r) es
    → (r ≡ s) ⊎ Any (λ v. v.time.1 ≡ r) (e ∷ es)
end_of s m e es r (inl a) (inl b) = inl (b ∙ a)
end_of s m e es r (inr a) (inl b) = inr (any_here (λ (v : Extent). v.time.1 ≡ r) e es (sym (b ∙ a)))
end_of s m e es r a (inr b) = inr (any_later (λ (v : Extent). v.time.1 ≡ r) e es b)

spans : (s : ℕ × ℕ) (es : List Extent) → Spans s es (fold (λ span v. wider span v.time) s es)
spans s [] = record { low = omega arith; high = omega arith; first = tt; last = tt; starts = inl refl; ends = inl refl }
spans s (e ∷ es) =
    let a = least_by s.0 e.time.0 (nat_le s.0 e.time.0) refl in
    let b = most_by s.1 e.time.1 (nat_le s.1 e.time.1) refl in
    let ih = spans (wider s e.time) es in
    let l = ih.low in let h = ih.high in let al = a.left in let ar = a.right in let bl = b.left in let br = b.right in
    record {
      low = omega (arith, l, al);
      high = omega (arith, h, bl);
      first = (omega (arith, l, ar), ih.first);
      last = (omega (arith, h, br), ih.last);
      starts = start_of s.0 (wider s e.time).0 e es _ a.one ih.starts;
      ends = end_of s.1 (wider s e.time).1 e es _ b.one ih.ends;
    }

either_any : {X : Type 0} (P : X → Type 0) (x : X) (xs : List X) → P x ⊎ Any P xs → Any P (x ∷ xs)
either_any P x xs (inl p) = any_here P x xs p
either_any P x xs (inr a) = any_later P x xs a

turned : (e : Extent) (es : List Extent) (r : ℕ) → (r ≡ e.time.0) ⊎ Any (λ v. v.time.0 ≡ r) es → (e.time.0 ≡ r) ⊎ Any (λ v. v.time.0 ≡ r) es
turned e es r (inl h) = inl (sym h)
turned e es r (inr a) = inr a

turned_end : (e : Extent) (es : List Extent) (r : ℕ) → (r ≡ e.time.1) ⊎ Any (λ v. v.time.1 ≡ r) es → (e.time.1 ≡ r) ⊎ Any (λ v. v.time.1 ≡ r) es
turned_end e es r (inl h) = inl (sym h)
turned_end e es r (inr a) = inr a

span_of_is : (es : List Extent) → 1 ≤ length es → IsSpan es (span_of es)
span_of_is [] some = absurd (omega arith)
span_of_is (e ∷ es) some =
    let a = spans e.time es in
    let r = span_of (e ∷ es) in
    record {
      starts = either_any (λ (v : Extent). v.time.0 ≡ r.0) e es (turned e es r.0 a.starts);
      first = (a.low, a.first);
      ends = either_any (λ (v : Extent). v.time.1 ≡ r.1) e es (turned_end e es r.1 a.ends);
      last = (a.high, a.last);
    }

pub span_is : (es : List Extent) (span : ℕ × ℕ) → span ≡ span_of es → 1 ≤ length es → IsSpan es span
span_is es span e some = subst (IsSpan es) (sym e) (span_of_is es some)
