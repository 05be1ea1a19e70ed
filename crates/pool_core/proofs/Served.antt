-- Lemmas: what each event of an instance that serves follows, and that no request is used twice.
use Rattle.std.proofs.Common.{◌≡◌, ◌==◌, ℕ, zero, suc, ◌+◌, ◌≤◌, ◌⊎◌, Bool, true, false, List, [], ◌∷◌, ◌++◌, refl, sym, ap, subst, ◌∙◌, append_assoc, arith, inl, inr}
use Rattle.std.specs.List.{flat_map}
use Rattle.std.proofs.lemmas.List.{append-nil}
use Rattle.std.proofs.lemmas.List.Concat.{flat_map-append}
use Rattle.entity_core.specs.Airspace.{Airspace}
use Rattle.policy_core.specs.declared.call.Call.{Call}
use Rattle.pool_core.specs.Acts.{Act, Makes, Purges}
use Rattle.pool_core.specs.Events.{AfterFirst, Answers, AsksForEnd, AtOnce, Drops, Fails, Gets, InPlace, InstanceEvent, LearnsEnd, Offers, Receives}
use Rattle.pool_core.specs.Serves.{AllMayFollow, AreOpen, IsOpen, MayFollow, ServesPool, ended_in, ids_ended, ids_offered, offered_in, times}
use Rattle.pool_core.proofs.Lists.{count_append, count_no, count_yes}
use Rattle.pool_core.proofs.Projections.{same_number}

-- ---- single events

module _ (acts_of : List ℕ → List Act) (salt : List ℕ) (start : Airspace) (me : ℕ) where
  all_at : (before p : List InstanceEvent) (e : InstanceEvent) (q : List InstanceEvent) → AllMayFollow acts_of salt start me before (p ++ e ∷ q) → MayFollow acts_of salt start me (before ++ p) e
  all_at before [] e q h = subst (λ v. MayFollow acts_of salt start me v e) (sym (append-nil before)) h.0
  all_at before (y ∷ p) e q h = subst (λ v. MayFollow acts_of salt start me v e) (append_assoc before (y ∷ []) p) (all_at (before ++ y ∷ []) p e q h.1)

  pub follows_at : (events p : List InstanceEvent) (e : InstanceEvent) (q : List InstanceEvent) → ServesPool acts_of salt start me events → events ≡ p ++ e ∷ q → MayFollow acts_of salt start me p e
  follows_at events p e q h split = all_at [] p e q (subst (λ v. ServesPool acts_of salt start me v) split h)

  all_after : (before p q : List InstanceEvent) → AllMayFollow acts_of salt start me before (p ++ q) → AllMayFollow acts_of salt start me (before ++ p) q
  all_after before [] q h = subst (λ v. AllMayFollow acts_of salt start me v q) (sym (append-nil before)) h
  all_after before (y ∷ p) q h = subst (λ v. AllMayFollow acts_of salt start me v q) (append_assoc before (y ∷ []) p) (all_after (before ++ y ∷ []) p q h.1)

  pub serves_after : (p q : List InstanceEvent) → ServesPool acts_of salt start me (p ++ q) → AllMayFollow acts_of salt start me p q
  serves_after p q h = all_after [] p q h

  follow_then : (before p q : List InstanceEvent) → AllMayFollow acts_of salt start me before p → AllMayFollow acts_of salt start me (before ++ p) q → AllMayFollow acts_of salt start me before (p ++ q)
  follow_then before [] q h k = subst (λ v. AllMayFollow acts_of salt start me v q) (append-nil before) k
  follow_then before (e ∷ p) q h k = (h.0, follow_then (before ++ e ∷ []) p q h.1 (subst (λ v. AllMayFollow acts_of salt start me v q) (sym (append_assoc before (e ∷ []) p)) k))

  -- An instance that served, and goes on.
  pub serves_then : (p q : List InstanceEvent) → ServesPool acts_of salt start me p → AllMayFollow acts_of salt start me p q → ServesPool acts_of salt start me (p ++ q)
  serves_then p q h k = follow_then [] p q h k

-- ---- requests that were offered or answered as readings

abbrev pub read_in : InstanceEvent → List ℕ
read_in (Answers id (AfterFirst count timed) reply) = id ∷ []
read_in (Answers id (AtOnce timed) reply) = id ∷ []
read_in event = []

abbrev pub ids_read : List InstanceEvent → List ℕ
ids_read events = flat_map read_in events

-- How often a request was offered or answered as a reading, and how often it ended.
abbrev pub uses : ℕ → List InstanceEvent → ℕ
uses id events = times id (ids_offered events) + times id (ids_read events)

abbrev pub ends : ℕ → List InstanceEvent → ℕ
ends id events = times id (ids_ended events)

times_append : (id : ℕ) (xs ys : List ℕ) → times id (xs ++ ys) ≡ times id xs + times id ys
times_append id xs ys = count_append (λ k. id == k) xs ys

times_more : (id : ℕ) (f : InstanceEvent → List ℕ) (before : List InstanceEvent) (e : InstanceEvent) → times id (flat_map f (before ++ e ∷ [])) ≡ times id (flat_map f before) + times id (f e)
times_more id f before e =
    ap (λ v. times id v) (flat_map-append f before (e ∷ []) ∙ ap (λ v. flat_map f before ++ v) (append-nil (f e))) ∙ times_append id (flat_map f before) (f e)

read_one : (id : ℕ) (e : InstanceEvent) → times id (read_in e) ≤ times id (ended_in e)
read_one id (Receives x call) = omega arith
read_one id (Offers ids bytes) = omega arith
read_one id (Gets entry) = omega arith
read_one id (AsksForEnd question) = omega arith
read_one id (LearnsEnd question count) = omega arith
read_one id (Answers x InPlace reply) = omega arith
read_one id (Answers x (AfterFirst count timed) reply) = omega arith
read_one id (Answers x (AtOnce timed) reply) = omega arith
read_one id (Fails x) = omega arith
read_one id (Drops x) = omega arith

read_ended : (id : ℕ) (events : List InstanceEvent) → times id (ids_read events) ≤ times id (ids_ended events)
read_ended id [] = omega arith
read_ended id (e ∷ es) = omega (arith, read_one id e, read_ended id es, times_append id (read_in e) (ids_read es), times_append id (ended_in e) (ids_ended es))

open_case : (id : ℕ) (before : List InstanceEvent) (k : ℕ) (ids : List ℕ) (call : Call) → IsOpen before k call → (1 ≤ times id ids → ends id before ≡ 0) → 1 ≤ times id (k ∷ ids) → (b : Bool) → (id == k) ≡ b → ends id before ≡ 0
open_case id before k ids call is rest some true h = let e : id ≡ k = grind (arith, h) in ap (λ v. ends v before) e ∙ is.unended
open_case id before k ids call is rest some false h = rest (omega (arith, some, count_no (λ n. id == n) k ids h))

open_unended : (id : ℕ) (before : List InstanceEvent) (ids : List ℕ) (xs : List Act) → AreOpen before ids xs → 1 ≤ times id ids → ends id before ≡ 0
open_unended id before [] xs h some = absurd (omega (arith, some))
open_unended id before (k ∷ ids) [] h some = absurd h
open_unended id before (k ∷ ids) (Makes c ∷ xs) h some = open_case id before k ids c.1 h.0 (open_unended id before ids xs h.1) some (id == k) refl
open_unended id before (k ∷ ids) (Purges until ∷ xs) h some = absurd h

-- Some or none.
some_or_none : (n : ℕ) → (1 ≤ n) ⊎ (n ≡ 0)
some_or_none zero = inr refl
some_or_none (suc n) = inl (omega arith)

offers_once : (before : List InstanceEvent) (ids : List ℕ) (cs : List Act) (id : ℕ) → AreOpen before ids cs → times id (ids_offered before ++ ids) ≤ 1 → uses id before ≤ 1
    → times id ids + uses id before ≤ 1
offers_once before ids cs id calls once le = elim (some_or_none (times id ids)) [
  | inl some ↦ omega (arith, once, times_append id (ids_offered before) ids, open_unended id before ids cs calls some, read_ended id before)
  | inr none ↦ omega (arith, none, le)
]

reads_once : (before : List InstanceEvent) (id x : ℕ) → ends x before ≡ 0 → times x (ids_offered before) ≡ 0 → uses id before ≤ 1 → (b : Bool) → (id == x) ≡ b
    → times id (x ∷ []) + uses id before ≤ 1
reads_once before id x unended unoffered le true is =
    let e : id ≡ x = grind (arith, is) in
    let none : uses id before ≡ 0 = ap (λ v. uses v before) e ∙ omega (arith, unended, unoffered, read_ended x before) in
    omega (arith, none, count_yes (λ k. id == k) x [] is)
reads_once before id x unended unoffered le false is = omega (arith, le, count_no (λ k. id == k) x [] is)

none_offered : (before : List InstanceEvent) (ids : List ℕ) (cs : List Act) (id : ℕ) → AreOpen before ids cs → 1 ≤ ends id before → times id ids ≡ 0
none_offered before ids cs id calls ended = elim (some_or_none (times id ids)) [
  | inl some ↦ absurd (omega (arith, ended, open_unended id before ids cs calls some))
  | inr none ↦ none
]

none_read : (before : List InstanceEvent) (id x : ℕ) → ends x before ≡ 0 → 1 ≤ ends id before → (b : Bool) → (id == x) ≡ b → times id (x ∷ []) ≡ 0
none_read before id x unended ended true is =
    let e : id ≡ x = grind (arith, is) in
    let same : ends id before ≡ 0 = ap (λ v. ends v before) e ∙ unended in
    absurd (omega (arith, same, ended))
none_read before id x unended ended false is = count_no (λ k. id == k) x [] is

module _ (acts_of : List ℕ → List Act) (salt : List ℕ) (start : Airspace) (me : ℕ) (id : ℕ) where
  -- One more event uses the request once at most, and only if it was unused.
  once_more : (before : List InstanceEvent) (e : InstanceEvent) → MayFollow acts_of salt start me before e → uses id before ≤ 1 → times id (offered_in e) + times id (read_in e) + uses id before ≤ 1
  once_more before (Receives x call) h le = omega (arith, le)
  once_more before (Offers ids bytes) h le = omega (arith, offers_once before ids (acts_of bytes) id h.calls (h.once id) le)
  once_more before (Gets entry) h le = omega (arith, le)
  once_more before (AsksForEnd question) h le = omega (arith, le)
  once_more before (LearnsEnd question count) h le = omega (arith, le)
  once_more before (Answers x InPlace reply) h le = omega (arith, le)
  once_more before (Answers x (AfterFirst count timed) reply) h le = omega (arith, reads_once before id x h.0.unended h.1.unoffered le (id == x) refl)
  once_more before (Answers x (AtOnce timed) reply) h le = omega (arith, reads_once before id x h.0.unended h.1.unoffered le (id == x) refl)
  once_more before (Fails x) h le = omega (arith, le)
  once_more before (Drops x) h le = omega (arith, le)

  uses_more : (before : List InstanceEvent) (e : InstanceEvent) → uses id (before ++ e ∷ []) ≡ times id (offered_in e) + times id (read_in e) + uses id before
  uses_more before e = omega (arith, times_more id offered_in before e, times_more id read_in before e)

  once_all : (before es : List InstanceEvent) → AllMayFollow acts_of salt start me before es → uses id before ≤ 1 → uses id (before ++ es) ≤ 1
  once_all before [] h le = subst (λ v. uses id v ≤ 1) (sym (append-nil before)) le
  once_all before (e ∷ es) h le =
      let more : uses id (before ++ e ∷ []) ≤ 1 = omega (arith, uses_more before e, once_more before e h.0 le) in
      subst (λ v. uses id v ≤ 1) (append_assoc before (e ∷ []) es) (once_all (before ++ e ∷ []) es h.1 more)

  -- A request is offered or answered as a reading once at most.
  pub used_once : (events : List InstanceEvent) → ServesPool acts_of salt start me events → uses id events ≤ 1
  used_once events h = once_all [] events h (omega arith)

  -- A request that ended is not used any more.
  none_more : (before : List InstanceEvent) (e : InstanceEvent) → MayFollow acts_of salt start me before e → 1 ≤ ends id before → times id (offered_in e) + times id (read_in e) ≡ 0
  none_more before (Receives x call) h ended = omega arith
  none_more before (Offers ids bytes) h ended = omega (arith, none_offered before ids (acts_of bytes) id h.calls ended)
  none_more before (Gets entry) h ended = omega arith
  none_more before (AsksForEnd question) h ended = omega arith
  none_more before (LearnsEnd question count) h ended = omega arith
  none_more before (Answers x InPlace reply) h ended = omega arith
  none_more before (Answers x (AfterFirst count timed) reply) h ended = omega (arith, none_read before id x h.0.unended ended (id == x) refl)
  none_more before (Answers x (AtOnce timed) reply) h ended = omega (arith, none_read before id x h.0.unended ended (id == x) refl)
  none_more before (Fails x) h ended = omega arith
  none_more before (Drops x) h ended = omega arith

  unused_after : (before es : List InstanceEvent) → AllMayFollow acts_of salt start me before es → 1 ≤ ends id before → uses id (before ++ es) ≡ uses id before
  unused_after before [] h ended = ap (λ v. uses id v) (append-nil before)
  unused_after before (e ∷ es) h ended =
      let still : 1 ≤ ends id (before ++ e ∷ []) = omega (arith, ended, times_more id ended_in before e) in
      let same : uses id (before ++ e ∷ []) ≡ uses id before = omega (arith, uses_more before e, none_more before e h.0 ended) in
      sym (ap (λ v. uses id v) (append_assoc before (e ∷ []) es)) ∙ unused_after (before ++ e ∷ []) es h.1 still ∙ same

  -- A request that failed before it was offered is never used.
  pub never_used : (events p q : List InstanceEvent) → ServesPool acts_of salt start me events → events ≡ p ++ Drops id ∷ q → uses id events ≡ 0
  never_used events p q h split =
      let all = subst (λ v. ServesPool acts_of salt start me v) (split ∙ sym (append_assoc p (Drops id ∷ []) q)) h in
      let failed : ends id (p ++ Drops id ∷ []) ≡ ends id p + times id (id ∷ []) = times_more id ended_in p (Drops id) in
      let one : times id (id ∷ []) ≡ 1 = count_yes (λ k. id == k) id [] (same_number id) in
      let follows = follows_at acts_of salt start me events p (Drops id) q h split in
      let unended : ends id p ≡ 0 = follows.0.1.unended in
      let same : uses id (p ++ Drops id ∷ []) ≡ uses id p = omega (arith, uses_more p (Drops id)) in
      ap (λ v. uses id v) (split ∙ sym (append_assoc p (Drops id ∷ []) q))
      ∙ unused_after (p ++ Drops id ∷ []) q (serves_after acts_of salt start me (p ++ Drops id ∷ []) q all) (omega (arith, failed, one))
      ∙ same ∙ omega (arith, follows.1, unended, read_ended id p)
