-- Lemmas: the events of instances that start from files, told as if each was given its file at its start, are those of a pool.
use Rattle.std.proofs.Common.{◌≡◌, ◌==◌, ℕ, ◌+◌, ◌-◌, ◌≤◌, Bool, true, false, List, [], ◌∷◌, ◌++◌, length, map, take, drop, refl, sym, ap, subst, ◌∙◌, append_assoc, arith, inl, inr, length-append}
use Rattle.std.specs.Prelude.{Contains, if◌then◌else◌}
use Rattle.std.proofs.Math.Seq.{take-add}
use Rattle.std.proofs.lemmas.List.{append-nil, length-map, length-take-le, map-append, take-append-drop}
use Rattle.std.proofs.lemmas.List.Elements.{filter-append}
use Rattle.pool_core.specs.Events.{AsksForEnd, Batch, InstanceEvent, LearnsEnd, PoolEvent, batches_offered, entries_given, events_at}
use Rattle.pool_core.specs.FromFiles.{HasActed, IsPoolFrom}
use Rattle.pool_core.specs.Pool.{Begins, EndIsNotBefore, IsPool, batches_by, count_given, count_offered, entry_of_batch}
use Rattle.pool_core.proofs.Given.{given_more, offered_more}
use Rattle.pool_core.proofs.Lists.{contains_head, heads, prefixes}
use Rattle.pool_core.proofs.Projections.{at_append, at_one, event_of, given_append}
use Rattle.pool_core.proofs.Retold.{Happened, at_gets, at_other_gets, contains_happened, file, first_given, from_asks, from_learns, gifts, given_gets, given_retold, happened, offered_retold, only_gifts, other_gifts, retold, retold_append}

pub by_more : (w n m : ℕ) (xs : List Batch) → n ≤ m → length (batches_by w (take n xs)) ≤ length (batches_by w (take m xs))
by_more w n m xs le =
    let k = m - n in
    let e : m ≡ n + k = omega (arith, le) in
    let s : take m xs ≡ take n xs ++ take k (drop n xs) = ap (λ v. take v xs) e ∙ take-add n k xs in
    omega (
      arith,
      ap (λ v. length (batches_by w v)) s,
      ap (λ v. length v) (filter-append (λ (b : Batch). w == b.writer) (take n xs) (take k (drop n xs))),
      length-append (batches_by w (take n xs)) (batches_by w (take k (drop n xs))),
    )

empty_front : {X : Type 0} (xs ys : List X) → [] ≡ xs ++ ys → xs ≡ []
empty_front [] ys h = refl
empty_front (x ∷ xs) ys h = absurd cc

module _ (offsets : ℕ → ℕ) (events : List PoolEvent) (pool : IsPoolFrom offsets events) where
  abbrev pub told : List PoolEvent → List PoolEvent
  told p = retold offsets pool.log [] p

  offered_same : (w : ℕ) (p : List PoolEvent) → count_offered w (told p) ≡ count_offered w p
  offered_same w p = ap (λ v. length v) (offered_retold offsets pool.log w p)

  first_length : (i : ℕ) (es : List InstanceEvent) → length (first_given offsets pool.log i es) ≤ offsets i
  first_length i [] = omega arith
  first_length i (e ∷ es) = omega (arith, length-map (file offsets pool.log i) entry_of_batch, length-take-le (offsets i) pool.log (pool.starts i))

  given_at_most : (i : ℕ) (p : List PoolEvent) → count_given i (told p) ≤ offsets i + count_given i p
  given_at_most i p =
      omega (
        arith,
        ap (λ v. length v) (given_retold offsets pool.log i p),
        length-append (first_given offsets pool.log i (events_at i p)) (entries_given (events_at i p)),
        first_length i (events_at i p),
      )

  -- ---- what was given, and what was offered

  one_case : (i : ℕ) (es : List InstanceEvent) → Begins (entries_given es) (map entry_of_batch (drop (offsets i) pool.log))
      → Begins (first_given offsets pool.log i es ++ entries_given es) (map entry_of_batch pool.log)
  one_case i [] b = (map entry_of_batch pool.log, refl)
  one_case i (e ∷ es) b =
      let front = take (offsets i) pool.log in (
        b.0,
        ap (λ v. map entry_of_batch v) (sym (take-append-drop (offsets i) pool.log))
            ∙ map-append entry_of_batch front (drop (offsets i) pool.log)
            ∙ ap (λ v. map entry_of_batch front ++ v) b.1
            ∙ sym (append_assoc (map entry_of_batch front) (entries_given (e ∷ es)) b.0),
      )

  pub one : (i : ℕ) → Begins (entries_given (events_at i (told events))) (map entry_of_batch pool.log)
  one i = subst (λ v. Begins v (map entry_of_batch pool.log)) (sym (given_retold offsets pool.log i events)) (one_case i (events_at i events) (pool.one i))

  pub own : (i : ℕ) → Begins (batches_by i pool.log) (batches_offered i (events_at i (told events)))
  own i = subst (λ v. Begins (batches_by i pool.log) v) (sym (offered_retold offsets pool.log i events)) (pool.own i)

  -- ---- causes

  abbrev pub IsCaused : ℕ → ℕ → List PoolEvent → Type 0
  IsCaused i writer before = length (batches_by writer (take (count_given i before) pool.log)) ≤ count_offered writer before

  abbrev pub AreCaused : List PoolEvent → Type 0
  AreCaused p = (before after : List PoolEvent) → told p ≡ before ++ after → (i writer : ℕ) → IsCaused i writer before

  given_up_to : (i : ℕ) (p before after : List PoolEvent) → told p ≡ before ++ after → count_given i before ≤ count_given i (told p)
  given_up_to i p before after h = let e : count_given i (told p) ≡ count_given i (before ++ after) = ap (λ v. count_given i v) h in omega (arith, e, given_more i before after)

  caused_own : (p : List PoolEvent) (e : PoolEvent) (q : List PoolEvent) → events ≡ p ++ e ∷ q → (before after : List PoolEvent) → told (p ++ e ∷ []) ≡ before ++ after
      → (r : List PoolEvent) → before ≡ told p ++ r → (writer : ℕ) → IsCaused e.instance writer before
  caused_own p e q split before after h r b w =
      let n = offsets e.instance + count_given e.instance (p ++ e ∷ []) in
      let le : count_given e.instance before ≤ n = omega (arith, given_up_to e.instance (p ++ e ∷ []) before after h, given_at_most e.instance (p ++ e ∷ [])) in
      let grown : count_offered w before ≡ count_offered w (told p ++ r) = ap (λ v. count_offered w v) b in
      omega (arith, pool.caused p e q split w, by_more w (count_given e.instance before) n pool.log le, offered_same w p, offered_more w (told p) r, grown)

  caused_other : (p : List PoolEvent) (e : PoolEvent) → AreCaused p → (before after : List PoolEvent) → told (p ++ e ∷ []) ≡ before ++ after
      → (r : List PoolEvent) → before ≡ told p ++ r → (i writer : ℕ) → (i == e.instance) ≡ false → IsCaused i writer before
  caused_other p e c before after h r b i w other =
      let none : at_one i e ≡ [] = ap (λ t. if t then e.event ∷ [] else []) other in
      let still : events_at i (p ++ e ∷ []) ≡ events_at i p = at_append i p (e ∷ []) ∙ ap (λ v. events_at i p ++ (v ++ [])) none ∙ append-nil (events_at i p) in
      let same : count_given i (told (p ++ e ∷ [])) ≡ count_given i (told p) =
      ap (λ v. length v) (given_retold offsets pool.log i (p ++ e ∷ [])) ∙ ap (λ v. length (first_given offsets pool.log i v ++ entries_given v)) still ∙ sym (ap (λ v. length v) (given_retold offsets pool.log i p)) in
      let begun : count_given i before ≡ count_given i (told p ++ r) = ap (λ v. count_given i v) b in
      let here : count_given i before ≡ count_given i (told p) = omega (arith, same, begun, given_up_to i (p ++ e ∷ []) before after h, given_more i (told p) r) in
      let there : length (batches_by w (take (count_given i before) pool.log)) ≡ length (batches_by w (take (count_given i (told p)) pool.log)) = ap (λ v. length (batches_by w (take v pool.log))) here in
      let grown : count_offered w before ≡ count_offered w (told p ++ r) = ap (λ v. count_offered w v) b in
      omega (arith, there, c (told p) [] (sym (append-nil (told p))) i w, offered_more w (told p) r, grown)

  caused_case : (p : List PoolEvent) (e : PoolEvent) (q : List PoolEvent) → events ≡ p ++ e ∷ q → AreCaused p → (before after : List PoolEvent) → told (p ++ e ∷ []) ≡ before ++ after
      → (r : List PoolEvent) → before ≡ told p ++ r → (i writer : ℕ) → (t : Bool) → (i == e.instance) ≡ t → IsCaused i writer before
  caused_case p e q split c before after h r b i w true is =
      let same : e.instance ≡ i = grind (arith, is) in
      subst (λ (v : ℕ). IsCaused v w before) same (caused_own p e q split before after h r b w)
  caused_case p e q split c before after h r b i w false is = caused_other p e c before after h r b i w is

  caused_step : (p : List PoolEvent) (e : PoolEvent) (q : List PoolEvent) → events ≡ p ++ e ∷ q → AreCaused p → AreCaused (p ++ e ∷ [])
  caused_step p e q split c before after h i w =
      let x = retold offsets pool.log p (e ∷ []) in
      elim (prefixes before after (told p) x (sym h ∙ retold_append offsets pool.log [] p (e ∷ []))) [
        | inl u ↦ c before u.0 u.1 i w
        | inr u ↦ caused_case p e q split c before after h u.0 u.1 i w (i == e.instance) refl
      ]

  pub caused_none : AreCaused []
  caused_none before after h i w = let n : before ≡ [] = empty_front before after h in omega (arith, ap (λ v. length (batches_by w (take (count_given i v) pool.log))) n)

  pub caused_all : (p q : List PoolEvent) → events ≡ p ++ q → AreCaused p → AreCaused events
  caused_all p [] split c = subst (λ (v : List PoolEvent). AreCaused v) (sym (split ∙ append-nil p)) c
  caused_all p (e ∷ q) split c = caused_all (p ++ e ∷ []) q (split ∙ sym (append_assoc p (e ∷ []) q)) (caused_step p e q split c)

  -- ---- ends

  gifts_short : (i j : ℕ) (seen : List InstanceEvent) (t : Bool) → (j == i) ≡ t → count_given j (gifts offsets pool.log i seen) ≤ offsets i
  gifts_short i j [] true is =
      let same : j ≡ i = grind (arith, is) in
      let e : count_given j (gifts offsets pool.log i []) ≡ length (map entry_of_batch (file offsets pool.log i)) =
      ap (λ v. count_given v (gifts offsets pool.log i [])) same ∙ ap (λ v. length (entries_given v)) (at_gets i (file offsets pool.log i)) ∙ ap (λ v. length v) (given_gets (file offsets pool.log i)) in
      omega (arith, e, length-map (file offsets pool.log i) entry_of_batch, length-take-le (offsets i) pool.log (pool.starts i))
  gifts_short i j [] false is = let e : count_given j (gifts offsets pool.log i []) ≡ 0 = ap (λ v. length (entries_given v)) (at_other_gets j i (file offsets pool.log i) is) in omega (arith, e)
  gifts_short i j (e ∷ seen) t is = omega arith

  gifts_past : (i j : ℕ) (p : List PoolEvent) (e : InstanceEvent) (es : List InstanceEvent) → events_at j p ≡ e ∷ es → (t : Bool) → (j == i) ≡ t → count_given j (gifts offsets pool.log i (events_at i p)) ≡ 0
  gifts_past i j p e es h true is =
      let same : i ≡ j = grind (arith, is) in
      ap (λ v. count_given j (gifts offsets pool.log i v)) (ap (λ v. events_at v p) same ∙ h)
  gifts_past i j p e es h false is = ap (λ v. length (entries_given v)) (other_gifts offsets pool.log j i (events_at i p) is)

  end_case : (i j : ℕ) (front back later : List PoolEvent) (question count : ℕ) → events ≡ front ++ event_of i (AsksForEnd question) ∷ (back ++ event_of i (LearnsEnd question count) ∷ later)
      → (es : List InstanceEvent) → events_at j front ≡ es → count_given j (told front) + count_given j (gifts offsets pool.log i (events_at i front)) ≤ offsets i + count
  end_case i j front back later question count split [] h =
      let none : count_given j (told front) ≡ 0 = ap (λ v. length v) (given_retold offsets pool.log j front) ∙ ap (λ v. length (first_given offsets pool.log j v ++ entries_given v)) h in
      omega (arith, none, gifts_short i j (events_at i front) (j == i) refl)
  end_case i j front back later question count split (e ∷ es) h =
      let acted : HasActed j front = (e, subst (λ v. Contains v e) (sym h) (contains_head e es)) in
      omega (arith, given_at_most j front, gifts_past i j front e es h (j == i) refl, pool.end i j front back later question count split acted)

  end_asked : (i j : ℕ) (before between after : List PoolEvent) (question count : ℕ) → (l : Happened offsets pool.log [] events (before ++ event_of i (AsksForEnd question) ∷ between) (event_of i (LearnsEnd question count)) after)
      → (k : (r : List PoolEvent) × Happened offsets pool.log [] l.front before (event_of i (AsksForEnd question)) r) → count_given j before ≤ count
  end_asked i j before between after question count l k =
      let first = k.1 in
      let learned = from_learns (offsets l.one.instance) l.one.event question count (ap (λ (v : PoolEvent). v.event) l.same) in
      let asked = from_asks (offsets first.one.instance) first.one.event question (ap (λ (v : PoolEvent). v.event) first.same) in
      let learn : l.one ≡ event_of i (LearnsEnd question learned.0) = ap (λ v. event_of l.one.instance v) learned.1 ∙ ap (λ (v : PoolEvent). event_of v.instance (LearnsEnd question learned.0)) l.same in
      let ask : first.one ≡ event_of i (AsksForEnd question) = ap (λ v. event_of first.one.instance v) asked ∙ ap (λ (v : PoolEvent). event_of v.instance (AsksForEnd question)) first.same in
      let split : events ≡ first.front ++ event_of i (AsksForEnd question) ∷ (first.back ++ event_of i (LearnsEnd question learned.0) ∷ l.back) =
      l.split ∙ ap (λ v. v ++ l.one ∷ l.back) first.split ∙ append_assoc first.front (first.one ∷ first.back) (l.one ∷ l.back)
      ∙ ap (λ v. first.front ++ v ∷ (first.back ++ l.one ∷ l.back)) ask ∙ ap (λ v. first.front ++ event_of i (AsksForEnd question) ∷ (first.back ++ v ∷ l.back)) learn in
      let here : first.one.instance ≡ i = ap (λ (v : PoolEvent). v.instance) first.same in
      let befores : before ≡ told first.front ++ gifts offsets pool.log i (events_at i first.front) = first.befores ∙ ap (λ v. told first.front ++ gifts offsets pool.log v (events_at v first.front)) here in
      let g = gifts offsets pool.log i (events_at i first.front) in
      let given : count_given j before ≡ length (entries_given (events_at j (told first.front)) ++ entries_given (events_at j g)) =
      ap (λ v. count_given j v) befores ∙ ap (λ v. length (entries_given v)) (at_append j (told first.front) g) ∙ ap (λ v. length v) (given_append (events_at j (told first.front)) (events_at j g)) in
      let whole : count ≡ offsets i + learned.0 = learned.2 ∙ ap (λ v. offsets v + learned.0) (ap (λ (v : PoolEvent). v.instance) l.same) in
      omega (
        arith,
        given,
        length-append (entries_given (events_at j (told first.front))) (entries_given (events_at j g)),
        whole,
        end_case i j first.front first.back l.back question learned.0 split (events_at j first.front) refl,
      )

  ask_in_rest : (i : ℕ) (question : ℕ) (seen : List InstanceEvent) (k : ℕ) (front before between u : List PoolEvent) → told front ≡ before ++ u → event_of i (AsksForEnd question) ∷ between ≡ u ++ gifts offsets pool.log k seen
      → (r : List PoolEvent) × Happened offsets pool.log [] front before (event_of i (AsksForEnd question)) r
  ask_in_rest i question seen k front before between [] h g =
      absurd (only_gifts offsets pool.log k seen [] (event_of i (AsksForEnd question)) between (λ entry clash. absurd cc) (sym g))
  ask_in_rest i question seen k front before between (y ∷ u) h g =
      let e = heads (event_of i (AsksForEnd question)) y between (u ++ gifts offsets pool.log k seen) g in
      (u, happened offsets pool.log [] front before (event_of i (AsksForEnd question)) u (λ entry clash. absurd cc) (h ∙ ap (λ v. before ++ v ∷ u) (sym e)))

  pub end : (i j : ℕ) → EndIsNotBefore (told events) i j
  end i j before between after question count split =
      let ask = event_of i (AsksForEnd question) in
      let learn = event_of i (LearnsEnd question count) in
      let l = happened offsets pool.log [] events (before ++ ask ∷ between) learn after (λ entry clash. absurd cc) (split ∙ sym (append_assoc before (ask ∷ between) (learn ∷ after))) in
      let k = l.one.instance in
      let seen = events_at k l.front in
      elim (prefixes before (ask ∷ between) (told l.front) (gifts offsets pool.log k seen) l.befores) [
        | inl u ↦ end_asked i j before between after question count l (ask_in_rest i question seen k l.front before between u.0 u.1 u.2)
        | inr u ↦ absurd (only_gifts offsets pool.log k seen u.0 ask between (λ entry clash. absurd cc) u.2)
      ]

  pub within : (i question count : ℕ) → Contains (told events) (event_of i (LearnsEnd question count)) → count ≤ length pool.log
  within i question count h =
      let a = contains_happened offsets pool.log events (event_of i (LearnsEnd question count)) (λ entry clash. absurd cc) h in
      let learned = from_learns (offsets a.one.instance) a.one.event question count (ap (λ (v : PoolEvent). v.event) a.same) in
      let learn : a.one ≡ event_of i (LearnsEnd question learned.0) = ap (λ v. event_of a.one.instance v) learned.1 ∙ ap (λ (v : PoolEvent). event_of v.instance (LearnsEnd question learned.0)) a.same in
      let whole : count ≡ offsets i + learned.0 = learned.2 ∙ ap (λ v. offsets v + learned.0) (ap (λ (v : PoolEvent). v.instance) a.same) in
      omega (arith, whole, pool.within i question learned.0 (subst (λ v. Contains events v) learn a.there))

  -- The events, told so, are those of a pool with the same log.
  abbrev pub told_pool : IsPool (told events)
  told_pool = record { log = pool.log; one = one; own = own; caused = caused_all [] events refl caused_none; end = end; within = within }
