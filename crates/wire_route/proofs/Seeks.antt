-- Lemmas: walks over the rows of a router whose routes are literal text and whole segments.
use Rattle.std.proofs.Common.{◌≡◌, ℕ, zero, suc, ◌-◌, ◌<◌, List, [], ◌∷◌, ◌++◌, length, Bool, true, false, cond, Option, Some, None, refl, sym, ap, ◌∙◌, arith, ◌==◌, ◌&&◌, ltb}
use Rattle.std.proofs.Common.{◌⊎◌, inl, inr, nat_eq, nat_lt, arith, length-append}
use Rattle.std.proofs.lemmas.Bool.{and_parts, eqb-true, false≢true}
use Rattle.std.proofs.lemmas.Bool.Decides.{nat_tests}
use Rattle.std.proofs.lemmas.List.{drop_at}
use Rattle.std.specs.Prelude.{codes}
use Rattle.std.specs.List.{list_all, ends_with}
use Rattle.matchit.specs.Rows.{RowsOf, param_token, catch_all_token}
use Rattle.matchit.specs.Seek.{own, step, or_else, seek, segment, cuts, longest_suffix, param_step, has_slash}

module _ {K : Type 0} where
  pub or_else-none : (a : Option K) → or_else a None ≡ a
  or_else-none None = refl
  or_else-none (Some k) = refl

  pub param_step-empty : (p : List ℕ) → (param_step {K = K} [] p).1 ≡ []
  unfolding param_step
  param_step-empty p =
      elim (has_slash p) as (λ v. (cond {A = ℕ × RowsOf K} v (0, []) (length p, [])).1 ≡ []) [
        | true ↦ refl
        | false ↦ refl
      ]

  pub seek-empty : (k : ℕ) (p : List ℕ) → seek {K = K} k [] p ≡ None
  unfolding seek
  seek-empty k [] = refl
  seek-empty (suc k) (b ∷ p) = seek-empty k p
  seek-empty zero (b ∷ p) = simp (seek-empty 0 p, param_step-empty (b ∷ p), seek-empty (((param_step {K = K} [] (b ∷ p)).0) - 1) p)

  -- ---- skipped bytes
  pub skip : (a : List ℕ) (rs : RowsOf K) (p : List ℕ) → seek (length a) rs (a ++ p) ≡ seek 0 rs p
  unfolding seek
  skip [] rs p = refl
  skip (b ∷ a) rs p = skip a rs p

  pub skip_all : (a : List ℕ) (rs : RowsOf K) → seek (length a) rs a ≡ own rs
  unfolding seek
  skip_all [] rs = refl
  skip_all (b ∷ a) rs = skip_all a rs

  -- ---- literal text

  abbrev is_none : RowsOf K → Bool
  is_none [] = true
  is_none (r ∷ rs) = false

  empty : (rs : RowsOf K) → is_none rs ≡ true → rs ≡ []
  empty [] e = refl
  empty (r ∷ rs) e = absurd (false≢true e)

  -- Returns true if no parameter and no catch-all competes with the text at any of its bytes.
  abbrev pub is_plain : List ℕ → RowsOf K → Bool
  is_plain [] rs = true
  is_plain (b ∷ p) rs = is_none (step param_token rs) && (is_none (step catch_all_token rs) && is_plain p (step b rs))

  abbrev pub steps : List ℕ → RowsOf K → RowsOf K
  steps [] rs = rs
  steps (b ∷ p) rs = steps p (step b rs)

  pub one_byte : (b : ℕ) (rs : RowsOf K) (p : List ℕ) → step param_token rs ≡ [] → step catch_all_token rs ≡ []
      → seek 0 rs (b ∷ p) ≡ seek 0 (step b rs) p
  unfolding seek
  one_byte b rs p x y = simp (x, y, param_step-empty (b ∷ p), seek-empty ((param_step {K = K} [] (b ∷ p)).0 - 1) p, or_else-none)

  pub pass : (p : List ℕ) (rs : RowsOf K) (path : List ℕ) → is_plain p rs ≡ true → seek 0 rs (p ++ path) ≡ seek 0 (steps p rs) path
  pass [] rs path e = refl
  pass (b ∷ p) rs path e =
      let first = and_parts _ _ e in
      let second = and_parts _ _ first.1 in
      one_byte b rs (p ++ path) (empty (step param_token rs) first.0) (empty (step catch_all_token rs) second.0) ∙ pass p (step b rs) path second.1

  -- A walk continues by the text and by a parameter. If both lead to one route, the result is that
  -- route.
  joined : (a b c : Option K) (k : K) → (a ≡ None) ⊎ (a ≡ Some k) → b ≡ Some k → or_else a (or_else b c) ≡ Some k
  joined a b c k (inl x) y = rw (x, y) refl
  joined a b c k (inr x) y = rw x refl

  -- Literal text matches no other text.
  pub only_text : (t : List ℕ) (k : K) (p : List ℕ) → list_all (λ x. nat_lt x 256) t ≡ true → (p ≡ t → ⊥) → seek 0 ((t, k) ∷ []) p ≡ None
  unfolding seek
  only_text [] k [] e n = absurd (n refl)
  only_text [] k (b ∷ p) e n = one_byte b (([], k) ∷ []) p refl refl ∙ seek-empty 0 p
  only_text (x ∷ t) k [] e n = refl
  only_text (x ∷ t) k (b ∷ p) e n =
      let parts = and_parts _ _ e in
      let low : nat_lt x 256 ≡ true = parts.0 in
      let u : (x == 256) ≡ false = grind (arith, nat_tests) in
      let v : (x == 257) ≡ false = grind (arith, nat_tests) in
      let at_param : step param_token ((x ∷ t, k) ∷ []) ≡ [] = rw u refl in
      let at_catch : step catch_all_token ((x ∷ t, k) ∷ []) ≡ [] = rw v refl in
      one_byte b ((x ∷ t, k) ∷ []) p at_param at_catch ∙ by (x == b) refl (only_text t k p parts.1)
    where
      by : (c : Bool) → (x == b) ≡ c → ((p ≡ t → ⊥) → seek 0 ((t, k) ∷ []) p ≡ None) → seek 0 (cond c ((t, k) ∷ []) []) p ≡ None
      by true q ih = ih (λ same. n (let eq : x ≡ b = eqb-true x b q in cc))
      by false q ih = seek-empty 0 p

-- ---- segments

seg_all : (w : List ℕ) → has_slash w ≡ false → segment w ≡ w
seg_all [] e = refl
seg_all (b ∷ w) e = by (b == 47) e (seg_all w)
  where
    by : (c : Bool) → cond c true (has_slash w) ≡ false → (has_slash w ≡ false → segment w ≡ w) → cond c (b ∷ []) (b ∷ segment w) ≡ b ∷ w
    by true x ih = absurd (false≢true (sym x))
    by false x ih = ap (λ z. b ∷ z) (ih x)

seg_cut : (w o : List ℕ) → has_slash w ≡ false → segment (w ++ 47 ∷ o) ≡ w ++ 47 ∷ []
seg_cut [] o e = refl
seg_cut (b ∷ w) o e = by (b == 47) e (seg_cut w o)
  where
    by : (c : Bool) → cond c true (has_slash w) ≡ false → (has_slash w ≡ false → segment (w ++ 47 ∷ o) ≡ w ++ 47 ∷ [])
        → cond c (b ∷ []) (b ∷ segment (w ++ 47 ∷ o)) ≡ b ∷ (w ++ 47 ∷ [])
    by true x ih = absurd (false≢true (sym x))
    by false x ih = ap (λ z. b ∷ z) (ih x)

pub slash_in : (w o : List ℕ) → has_slash (w ++ 47 ∷ o) ≡ true
slash_in [] o = refl
slash_in (b ∷ w) o = elim (b == 47) as (λ c. cond c true (has_slash (w ++ 47 ∷ o)) ≡ true) [ true ↦ refl | false ↦ slash_in w o ]

no_slash_head : (b : ℕ) (w : List ℕ) → has_slash (b ∷ w) ≡ false → ((47 == b) ≡ false) × (has_slash w ≡ false)
no_slash_head b w e = by (b == 47) refl e
  where
    by : (c : Bool) → (b == 47) ≡ c → cond c true (has_slash w) ≡ false → ((47 == b) ≡ false) × (has_slash w ≡ false)
    by true q x = absurd (false≢true (sym x))
    by false q x = let u : (47 == b) ≡ false = grind (arith, nat_tests) in (u, x)

no_end : (w : List ℕ) → has_slash w ≡ false → ends_with nat_eq w (47 ∷ []) ≡ false
no_end [] e = refl
no_end (b ∷ []) e = let u = no_slash_head b [] e in rw u.0 refl
no_end (a ∷ b ∷ w) e =
    let rest = no_slash_head a (b ∷ w) e in
    let n : length (a ∷ b ∷ w) - 1 ≡ suc (length (b ∷ w) - 1) = omega arith in
    rw n (no_end (b ∷ w) rest.1)

is_end : (w : List ℕ) → ends_with nat_eq (w ++ 47 ∷ []) (47 ∷ []) ≡ true
is_end w =
    let n : length (w ++ 47 ∷ []) - 1 ≡ length w = omega (arith, length-append w (47 ∷ [])) in
    let d = drop_at w (47 ∷ []) (length w) refl in
    rw (n, d) refl

no_cut : (w : List ℕ) → has_slash w ≡ false → cuts w (47 ∷ []) ≡ false
no_cut w e = rw (no_end w e) (elim (ltb 1 (length w)) as (λ c. (c && false) ≡ false) [ true ↦ refl | false ↦ refl ])

a_cut : (b : ℕ) (w : List ℕ) → cuts (b ∷ w ++ 47 ∷ []) (47 ∷ []) ≡ true
a_cut b w =
    let long : 1 < length (b ∷ w ++ 47 ∷ []) = omega (arith, length-append w (47 ∷ [])) in
    let t : ltb 1 (length (b ∷ w ++ 47 ∷ [])) ≡ true = grind (arith, nat_tests) in
    rw (t, is_end (b ∷ w)) refl

-- ---- whole segments

module _ {K : Type 0} where
  -- The rows after a parameter: one more segment, or the end of the path.
  abbrev after_id : K → K → RowsOf K
  after_id v s = (47 ∷ 256 ∷ [], v) ∷ ([], s) ∷ []

  -- The rows after the prefix of paths to references.
  abbrev pub leaf : K → K → K → RowsOf K
  leaf q v s = (codes "query", q) ∷ (256 ∷ 47 ∷ 256 ∷ [], v) ∷ (256 ∷ [], s) ∷ []

  longest_is : (seg : List ℕ) (v s : K) (c : Bool) → cuts seg (47 ∷ []) ≡ c → longest_suffix seg (after_id v s) ≡ cond c (47 ∷ []) []
  longest_is seg v s true e = rw e refl
  longest_is seg v s false e = rw e refl

  -- A parameter takes a segment that ends the path.
  takes_all : (v s : K) (b : ℕ) (w : List ℕ) → has_slash (b ∷ w) ≡ false → param_step (after_id v s) (b ∷ w) ≡ (suc (length w), after_id v s)
  unfolding param_step
  takes_all v s b w e =
      let seg = seg_all (b ∷ w) e in
      let longest = longest_is (b ∷ w) v s false (no_cut (b ∷ w) e) in
      rw (seg, longest, e) refl

  -- A parameter takes a segment before a slash.
  takes_one : (v s : K) (b : ℕ) (w o : List ℕ) → has_slash (b ∷ w) ≡ false
      → param_step (after_id v s) (b ∷ w ++ 47 ∷ o) ≡ (suc (length w), (47 ∷ 256 ∷ [], v) ∷ [])
  unfolding param_step
  takes_one v s b w o e =
      let seg = seg_cut (b ∷ w) o e in
      let longest = longest_is (b ∷ w ++ 47 ∷ []) v s true (a_cut b w) in
      let n : length (b ∷ w ++ 47 ∷ []) - 1 ≡ suc (length w) = omega (arith, length-append w (47 ∷ [])) in
      rw (seg, longest, n) refl

  -- A byte other than a slash does not match after a parameter.
  after_id_none : (v s : K) (c : ℕ) (w : List ℕ) → (47 == c) ≡ false → seek 0 (after_id v s) (c ∷ w) ≡ None
  after_id_none v s c w e = one_byte c (after_id v s) w refl refl ∙ (let none : step c (after_id v s) ≡ [] = rw e refl in rw none (seek-empty 0 w))

  -- If a parameter takes `n` bytes, the walk after it finds the route.
  walk : (rs after : RowsOf K) (b n : ℕ) (p : List ℕ) (k : K) → param_step (step param_token rs) (b ∷ p) ≡ (suc n, after)
      → seek n after p ≡ Some k → (seek 0 (step b rs) p ≡ None) ⊎ (seek 0 (step b rs) p ≡ Some k) → seek 0 rs (b ∷ p) ≡ Some k
  unfolding seek
  walk rs after b n p k e right left =
      let m : suc n - 1 ≡ n = omega arith in
      let there : seek ((param_step (step param_token rs) (b ∷ p)).0 - 1) (param_step (step param_token rs) (b ∷ p)).1 p ≡ Some k =
      ap (λ z. seek (z.0 - 1) z.1 p) e ∙ ap (λ i. seek i after p) m ∙ right in
      joined (seek 0 (step b rs) p) _ _ k left there

  -- A parameter takes the last segment.
  takes_last : (k : K) (c : ℕ) (o : List ℕ) → has_slash (c ∷ o) ≡ false → param_step (([], k) ∷ []) (c ∷ o) ≡ (suc (length o), ([], k) ∷ [])
  unfolding param_step
  takes_last k c o e = rw e refl

  ended : (k : K) (o : List ℕ) → (seek 0 (([], k) ∷ []) o ≡ None) ⊎ (seek 0 (([], k) ∷ []) o ≡ Some k)
  unfolding seek
  ended k [] = inr refl
  ended k (x ∷ o) = inl (one_byte x (([], k) ∷ []) o refl refl ∙ seek-empty 0 o)

  pub last_part : (k : K) (c : ℕ) (o : List ℕ) → has_slash (c ∷ o) ≡ false → seek 0 ((256 ∷ [], k) ∷ []) (c ∷ o) ≡ Some k
  last_part k c o e =
      walk ((256 ∷ [], k) ∷ []) (([], k) ∷ []) c (length o) o k (takes_last k c o e) (skip_all o (([], k) ∷ [])) (by (256 == c))
    where
      by : (d : Bool) → (seek 0 (cond d (([], k) ∷ []) []) o ≡ None) ⊎ (seek 0 (cond d (([], k) ∷ []) []) o ≡ Some k)
      by true = ended k o
      by false = inl (seek-empty 0 o)

  -- A segment other than `query` ends the path.
  after_id_end : (v s : K) (b : ℕ) (w : List ℕ) → has_slash (b ∷ w) ≡ false
      → (seek 0 (after_id v s) w ≡ None) ⊎ (seek 0 (after_id v s) w ≡ Some s)
  unfolding seek
  after_id_end v s b [] e = inr refl
  after_id_end v s b (c ∷ w) e =
      let rest = no_slash_head b (c ∷ w) e in inl (after_id_none v s c w (no_slash_head c w rest.1).0)

  pub single : (q v s : K) (b : ℕ) (w : List ℕ) → has_slash (b ∷ w) ≡ false → (b ∷ w ≡ codes "query" → ⊥) → seek 0 (leaf q v s) (b ∷ w) ≡ Some s
  single q v s b w e n =
      walk (leaf q v s) (after_id v s) b (length w) w s (takes_all v s b w e) (skip_all w (after_id v s)) (by (113 == b) refl (256 == b) refl)
    where
      by : (c : Bool) → (113 == b) ≡ c → (d : Bool) → (256 == b) ≡ d
          → let rest : RowsOf K = cond d ((47 ∷ 256 ∷ [], v) ∷ cond d (([], s) ∷ []) []) (cond d (([], s) ∷ []) []) in
          (seek 0 (cond c ((codes "uery", q) ∷ rest) rest) w ≡ None) ⊎ (seek 0 (cond c ((codes "uery", q) ∷ rest) rest) w ≡ Some s)
      by true x true y = let f : 113 ≡ b = eqb-true 113 b x in let g : 256 ≡ b = eqb-true 256 b y in absurd (omega arith)
      by true x false y = inl (only_text (codes "uery") q w refl (λ same. n (let f : 113 ≡ b = eqb-true 113 b x in cc)))
      by false x true y = after_id_end v s b w e
      by false x false y = inl (seek-empty 0 w)

  -- Such a segment is followed by a slash and one more segment.
  after_id_slash : (v s : K) (b : ℕ) (w : List ℕ) (c : ℕ) (o : List ℕ) → has_slash (b ∷ w) ≡ false → has_slash (c ∷ o) ≡ false
      → (seek 0 (after_id v s) (w ++ 47 ∷ c ∷ o) ≡ None) ⊎ (seek 0 (after_id v s) (w ++ 47 ∷ c ∷ o) ≡ Some v)
  after_id_slash v s b [] c o e f = inr (one_byte 47 (after_id v s) (c ∷ o) refl refl ∙ last_part v c o f)
  after_id_slash v s b (a ∷ w) c o e f =
      let rest = no_slash_head b (a ∷ w) e in inl (after_id_none v s a (w ++ 47 ∷ c ∷ o) (no_slash_head a w rest.1).0)

  pub two_parts : (q v s : K) (b : ℕ) (w : List ℕ) (c : ℕ) (o : List ℕ) → has_slash (b ∷ w) ≡ false → has_slash (c ∷ o) ≡ false
      → seek 0 (leaf q v s) (b ∷ w ++ 47 ∷ c ∷ o) ≡ Some v
  two_parts q v s b w c o e f =
      walk (leaf q v s) ((47 ∷ 256 ∷ [], v) ∷ []) b (length w) (w ++ 47 ∷ c ∷ o) v (takes_one v s b w (c ∷ o) e)
      (skip w ((47 ∷ 256 ∷ [], v) ∷ []) (47 ∷ c ∷ o) ∙ one_byte 47 ((47 ∷ 256 ∷ [], v) ∷ []) (c ∷ o) refl refl ∙ last_part v c o f)
      (by (113 == b) refl (256 == b) refl)
    where
      by : (x : Bool) → (113 == b) ≡ x → (d : Bool) → (256 == b) ≡ d
          → let rest : RowsOf K = cond d ((47 ∷ 256 ∷ [], v) ∷ cond d (([], s) ∷ []) []) (cond d (([], s) ∷ []) []) in
          (seek 0 (cond x ((codes "uery", q) ∷ rest) rest) (w ++ 47 ∷ c ∷ o) ≡ None)
          ⊎ (seek 0 (cond x ((codes "uery", q) ∷ rest) rest) (w ++ 47 ∷ c ∷ o) ≡ Some v)
      by true x true y = let g : 113 ≡ b = eqb-true 113 b x in let h : 256 ≡ b = eqb-true 256 b y in absurd (omega arith)
      by true x false y =
          inl (only_text (codes "uery") q (w ++ 47 ∷ c ∷ o) refl (λ same. let bad : true ≡ false = sym (slash_in w (c ∷ o)) ∙ ap has_slash same in false≢true (sym bad)))
      by false x true y = after_id_slash v s b w c o e f
      by false x false y = inl (seek-empty 0 (w ++ 47 ∷ c ∷ o))
