-- Lemmas: the events of instances that start from files, told as those of instances that are given the entries of their files as they start.
use Rattle.std.proofs.Common.{◌≡◌, ◌==◌, ℕ, ◌+◌, Bool, true, false, List, [], ◌∷◌, ◌++◌, map, take, refl, sym, ap, subst, ◌∙◌, append_assoc, inl, inr}
use Rattle.std.specs.Prelude.{Contains, if◌then◌else◌}
use Rattle.std.proofs.lemmas.List.{append-nil}
use Rattle.policy_core.specs.declared.call.Call.{Call}
use Rattle.service_step.specs.declared.reply.Reply.{Reply}
use Rattle.pool_core.specs.Events.{AfterFirst, Answers, AsksForEnd, AtOnce, Basis, Batch, Drops, Fails, Gets, InPlace, InstanceEvent, LearnsEnd, Offers, PoolEvent, Receives, batch_in, batches_offered, entries_given, entry_in, events_at}
use Rattle.pool_core.specs.Log.{LogEntry}
use Rattle.pool_core.specs.Pool.{entry_of_batch}
use Rattle.pool_core.specs.Starts.{gets_of}
use Rattle.pool_core.proofs.Lists.{contains_at, contains_same, contains_split, heads, map_split, prefixes, tails}
use Rattle.pool_core.proofs.Projections.{at_append, at_one, at_own, event_of, given_append, offered_append, same_from_test}

-- ---- events with the counts of the whole log

abbrev pub shifted_basis : ℕ → Basis → Basis
shifted_basis n InPlace = InPlace
shifted_basis n (AfterFirst count timed) = AfterFirst (n + count) timed
shifted_basis n (AtOnce timed) = AtOnce timed

abbrev pub shifted : ℕ → InstanceEvent → InstanceEvent
shifted n (Receives id call) = Receives id call
shifted n (Offers ids bytes) = Offers ids bytes
shifted n (Gets entry) = Gets entry
shifted n (AsksForEnd question) = AsksForEnd question
shifted n (LearnsEnd question count) = LearnsEnd question (n + count)
shifted n (Answers id basis reply) = Answers id (shifted_basis n basis) reply
shifted n (Fails id) = Fails id
shifted n (Drops id) = Drops id

pub from_receives : (n : ℕ) (e : InstanceEvent) (id : ℕ) (call : Call) → shifted n e ≡ Receives id call → e ≡ Receives id call
from_receives n (Receives a b) id call h = h
from_receives n (Offers a b) id call h = absurd cc
from_receives n (Gets a) id call h = absurd cc
from_receives n (AsksForEnd a) id call h = absurd cc
from_receives n (LearnsEnd a b) id call h = absurd cc
from_receives n (Answers a b c) id call h = absurd cc
from_receives n (Fails a) id call h = absurd cc
from_receives n (Drops a) id call h = absurd cc

pub from_asks : (n : ℕ) (e : InstanceEvent) (question : ℕ) → shifted n e ≡ AsksForEnd question → e ≡ AsksForEnd question
from_asks n (Receives a b) question h = absurd cc
from_asks n (Offers a b) question h = absurd cc
from_asks n (Gets a) question h = absurd cc
from_asks n (AsksForEnd a) question h = h
from_asks n (LearnsEnd a b) question h = absurd cc
from_asks n (Answers a b c) question h = absurd cc
from_asks n (Fails a) question h = absurd cc
from_asks n (Drops a) question h = absurd cc

same_question : (q q' c c' : ℕ) → LearnsEnd q c ≡ LearnsEnd q' c' → (q ≡ q') × (c ≡ c')
same_question q q' c c' h = (cc, cc)

pub from_learns : (n : ℕ) (e : InstanceEvent) (question count : ℕ) → shifted n e ≡ LearnsEnd question count → (own : ℕ) × (e ≡ LearnsEnd question own) × (count ≡ n + own)
from_learns n (Receives a b) question count h = absurd cc
from_learns n (Offers a b) question count h = absurd cc
from_learns n (Gets a) question count h = absurd cc
from_learns n (AsksForEnd a) question count h = absurd cc
from_learns n (LearnsEnd a b) question count h = let s = same_question a question (n + b) count h in (b, ap (λ v. LearnsEnd v b) s.0, sym s.1)
from_learns n (Answers a b c) question count h = absurd cc
from_learns n (Fails a) question count h = absurd cc
from_learns n (Drops a) question count h = absurd cc

same_answer : (a id : ℕ) (b basis : Basis) (c reply : Reply) → Answers a b c ≡ Answers id basis reply → (a ≡ id) × (c ≡ reply)
same_answer a id b basis c reply h = (cc, cc)

pub from_answers : (n : ℕ) (e : InstanceEvent) (id : ℕ) (basis : Basis) (reply : Reply) → shifted n e ≡ Answers id basis reply → (own : Basis) × (e ≡ Answers id own reply)
from_answers n (Receives a b) id basis reply h = absurd cc
from_answers n (Offers a b) id basis reply h = absurd cc
from_answers n (Gets a) id basis reply h = absurd cc
from_answers n (AsksForEnd a) id basis reply h = absurd cc
from_answers n (LearnsEnd a b) id basis reply h = absurd cc
from_answers n (Answers a b c) id basis reply h = let s = same_answer a id (shifted_basis n b) basis c reply h in (b, ap (λ v. Answers v b c) s.0 ∙ ap (λ v. Answers id b v) s.1)
from_answers n (Fails a) id basis reply h = absurd cc
from_answers n (Drops a) id basis reply h = absurd cc

given_shifted : (n : ℕ) (e : InstanceEvent) → entry_in (shifted n e) ≡ entry_in e
given_shifted n (Receives a b) = refl
given_shifted n (Offers a b) = refl
given_shifted n (Gets a) = refl
given_shifted n (AsksForEnd a) = refl
given_shifted n (LearnsEnd a b) = refl
given_shifted n (Answers a b c) = refl
given_shifted n (Fails a) = refl
given_shifted n (Drops a) = refl

pub given_all_shifted : (n : ℕ) (es : List InstanceEvent) → entries_given (map (shifted n) es) ≡ entries_given es
given_all_shifted n [] = refl
given_all_shifted n (e ∷ es) = ap (λ v. v ++ entries_given (map (shifted n) es)) (given_shifted n e) ∙ ap (λ v. entry_in e ++ v) (given_all_shifted n es)

offered_shifted : (i n : ℕ) (e : InstanceEvent) → batch_in i (shifted n e) ≡ batch_in i e
offered_shifted i n (Receives a b) = refl
offered_shifted i n (Offers a b) = refl
offered_shifted i n (Gets a) = refl
offered_shifted i n (AsksForEnd a) = refl
offered_shifted i n (LearnsEnd a b) = refl
offered_shifted i n (Answers a b c) = refl
offered_shifted i n (Fails a) = refl
offered_shifted i n (Drops a) = refl

pub offered_all_shifted : (i n : ℕ) (es : List InstanceEvent) → batches_offered i (map (shifted n) es) ≡ batches_offered i es
offered_all_shifted i n [] = refl
offered_all_shifted i n (e ∷ es) = ap (λ v. v ++ batches_offered i (map (shifted n) es)) (offered_shifted i n e) ∙ ap (λ v. batch_in i e ++ v) (offered_all_shifted i n es)

-- ---- being given entries

abbrev pub gets_all : List Batch → List InstanceEvent
gets_all batches = map (λ b. Gets (entry_of_batch b)) batches

pub at_gets : (i : ℕ) (batches : List Batch) → events_at i (gets_of i batches) ≡ gets_all batches
at_gets i [] = refl
at_gets i (b ∷ batches) = at_own i (Gets (entry_of_batch b)) (gets_of i batches) ∙ ap (λ v. Gets (entry_of_batch b) ∷ v) (at_gets i batches)

pub at_other_gets : (i j : ℕ) (batches : List Batch) → (i == j) ≡ false → events_at i (gets_of j batches) ≡ []
at_other_gets i j [] h = refl
at_other_gets i j (b ∷ batches) h = ap (λ t. (if t then Gets (entry_of_batch b) ∷ [] else []) ++ events_at i (gets_of j batches)) h ∙ at_other_gets i j batches h

pub given_gets : (batches : List Batch) → entries_given (gets_all batches) ≡ map entry_of_batch batches
given_gets [] = refl
given_gets (b ∷ batches) = ap (λ v. entry_of_batch b ∷ v) (given_gets batches)

pub offered_gets : (i : ℕ) (batches : List Batch) → batches_offered i (gets_all batches) ≡ []
offered_gets i [] = refl
offered_gets i (b ∷ batches) = offered_gets i batches

-- The event is not one of being given an entry.
abbrev pub IsNoGift : PoolEvent → Type 0
IsNoGift x = (entry : LogEntry) → x.event ≡ Gets entry → ⊥

-- ---- the events, told so

module _ (offsets : ℕ → ℕ) (log : List Batch) where
  abbrev pub file : ℕ → List Batch
  file i = take (offsets i) log

  -- What an instance is given before its next event, if these were its events before.
  abbrev pub gifts : ℕ → List InstanceEvent → List PoolEvent
  gifts i [] = gets_of i (file i)
  gifts i (e ∷ es) = []

  abbrev pub again : PoolEvent → PoolEvent
  again e = event_of e.instance (shifted (offsets e.instance) e.event)

  abbrev pub retold : List PoolEvent → List PoolEvent → List PoolEvent
  retold seen [] = []
  retold seen (e ∷ es) = gifts e.instance (events_at e.instance seen) ++ again e ∷ retold (seen ++ e ∷ []) es

  pub retold_append : (seen xs ys : List PoolEvent) → retold seen (xs ++ ys) ≡ retold seen xs ++ retold (seen ++ xs) ys
  retold_append seen [] ys = ap (λ v. retold v ys) (sym (append-nil seen))
  retold_append seen (e ∷ xs) ys =
      let g = gifts e.instance (events_at e.instance seen) in
      let s = seen ++ e ∷ [] in
      ap (λ v. g ++ again e ∷ v) (retold_append s xs ys ∙ ap (λ v. retold s xs ++ retold v ys) (append_assoc seen (e ∷ []) xs))
      ∙ sym (append_assoc g (again e ∷ retold s xs) (retold (seen ++ e ∷ xs) ys))

  -- ---- at one instance

  abbrev pub first_gifts : ℕ → List InstanceEvent → List InstanceEvent → List InstanceEvent
  first_gifts i (s ∷ seen) es = []
  first_gifts i [] [] = []
  first_gifts i [] (e ∷ es) = gets_all (file i)

  -- The events of an instance, told so, if those before were the first list.
  abbrev pub told_at : ℕ → List InstanceEvent → List InstanceEvent → List InstanceEvent
  told_at i seen es = first_gifts i seen es ++ map (shifted (offsets i)) es

  no_gifts : (i : ℕ) (seen : List InstanceEvent) (e : InstanceEvent) (es : List InstanceEvent) → first_gifts i (seen ++ e ∷ []) es ≡ []
  no_gifts i [] e es = refl
  no_gifts i (s ∷ seen) e es = refl

  own_gifts : (i : ℕ) (seen : List InstanceEvent) (e : InstanceEvent) (es : List InstanceEvent) → events_at i (gifts i seen) ≡ first_gifts i seen (e ∷ es)
  own_gifts i [] e es = at_gets i (file i)
  own_gifts i (s ∷ seen) e es = refl

  pub other_gifts : (i j : ℕ) (seen : List InstanceEvent) → (i == j) ≡ false → events_at i (gifts j seen) ≡ []
  other_gifts i j [] h = at_other_gets i j (file j) h
  other_gifts i j (s ∷ seen) h = refl

  at_retold_own : (i : ℕ) (seen : List PoolEvent) (e : InstanceEvent) (es : List PoolEvent)
      → events_at i (retold (seen ++ event_of i e ∷ []) es) ≡ told_at i (events_at i (seen ++ event_of i e ∷ [])) (events_at i es)
      → events_at i (retold seen (event_of i e ∷ es)) ≡ told_at i (events_at i seen) (events_at i (event_of i e ∷ es))
  at_retold_own i seen e es rest =
      let s = events_at i seen in
      let more = retold (seen ++ event_of i e ∷ []) es in
      let seen_is : events_at i (seen ++ event_of i e ∷ []) ≡ s ++ e ∷ [] = at_append i seen (event_of i e ∷ []) ∙ ap (λ v. s ++ v) (at_own i e []) in
      let rest_is : events_at i more ≡ map (shifted (offsets i)) (events_at i es) =
      rest ∙ ap (λ v. first_gifts i v (events_at i es) ++ map (shifted (offsets i)) (events_at i es)) seen_is
      ∙ ap (λ v. v ++ map (shifted (offsets i)) (events_at i es)) (no_gifts i s e (events_at i es)) in
      at_append i (gifts i s) (again (event_of i e) ∷ more)
      ∙ ap (λ v. v ++ events_at i (again (event_of i e) ∷ more)) (own_gifts i s e (events_at i es))
      ∙ ap (λ v. first_gifts i s (e ∷ events_at i es) ++ v) (at_own i (shifted (offsets i) e) more ∙ ap (λ v. shifted (offsets i) e ∷ v) rest_is)
      ∙ ap (λ v. told_at i s v) (sym (at_own i e es))

  at_retold_other : (i : ℕ) (seen : List PoolEvent) (e : PoolEvent) (es : List PoolEvent) → (i == e.instance) ≡ false
      → events_at i (retold (seen ++ e ∷ []) es) ≡ told_at i (events_at i (seen ++ e ∷ [])) (events_at i es)
      → events_at i (retold seen (e ∷ es)) ≡ told_at i (events_at i seen) (events_at i (e ∷ es))
  at_retold_other i seen e es other rest =
      let more = retold (seen ++ e ∷ []) es in
      let none : at_one i e ≡ [] = ap (λ t. if t then e.event ∷ [] else []) other in
      let none_again : at_one i (again e) ≡ [] = ap (λ t. if t then shifted (offsets e.instance) e.event ∷ [] else []) other in
      let seen_is : events_at i (seen ++ e ∷ []) ≡ events_at i seen = at_append i seen (e ∷ []) ∙ ap (λ v. events_at i seen ++ (v ++ [])) none ∙ append-nil (events_at i seen) in
      at_append i (gifts e.instance (events_at e.instance seen)) (again e ∷ more)
      ∙ ap (λ v. v ++ events_at i (again e ∷ more)) (other_gifts i e.instance (events_at e.instance seen) other)
      ∙ ap (λ v. v ++ events_at i more) none_again
      ∙ rest ∙ ap (λ v. told_at i v (events_at i es)) seen_is
      ∙ ap (λ v. told_at i (events_at i seen) v) (sym (ap (λ v. v ++ events_at i es) none))

  at_retold_case : (i : ℕ) (seen : List PoolEvent) (e : PoolEvent) (es : List PoolEvent)
      → ((s : List PoolEvent) → events_at i (retold s es) ≡ told_at i (events_at i s) (events_at i es))
      → (t : Bool) → (i == e.instance) ≡ t → events_at i (retold seen (e ∷ es)) ≡ told_at i (events_at i seen) (events_at i (e ∷ es))
  at_retold_case i seen e es rest true is =
      subst (λ (v : PoolEvent). events_at i (retold seen (v ∷ es)) ≡ told_at i (events_at i seen) (events_at i (v ∷ es))) (sym (same_from_test i e is))
      (at_retold_own i seen e.event es (rest (seen ++ event_of i e.event ∷ [])))
  at_retold_case i seen e es rest false is = at_retold_other i seen e es is (rest (seen ++ e ∷ []))

  none_told : (i : ℕ) (seen : List InstanceEvent) → [] ≡ told_at i seen []
  none_told i [] = refl
  none_told i (s ∷ seen) = refl

  pub at_retold : (i : ℕ) (seen xs : List PoolEvent) → events_at i (retold seen xs) ≡ told_at i (events_at i seen) (events_at i xs)
  at_retold i seen [] = none_told i (events_at i seen)
  at_retold i seen (e ∷ es) = at_retold_case i seen e es (λ s. at_retold i s es) (i == e.instance) refl

  -- What an instance has at first, if these are its events.
  abbrev pub first_given : ℕ → List InstanceEvent → List LogEntry
  first_given i [] = []
  first_given i (e ∷ es) = map entry_of_batch (file i)

  given_told : (i : ℕ) (es : List InstanceEvent) → entries_given (told_at i [] es) ≡ first_given i es ++ entries_given es
  given_told i [] = refl
  given_told i (e ∷ es) =
      given_append (gets_all (file i)) (map (shifted (offsets i)) (e ∷ es))
      ∙ ap (λ v. v ++ entries_given (map (shifted (offsets i)) (e ∷ es))) (given_gets (file i))
      ∙ ap (λ v. map entry_of_batch (file i) ++ v) (given_all_shifted (offsets i) (e ∷ es))

  pub given_retold : (i : ℕ) (xs : List PoolEvent) → entries_given (events_at i (retold [] xs)) ≡ first_given i (events_at i xs) ++ entries_given (events_at i xs)
  given_retold i xs = ap (λ v. entries_given v) (at_retold i [] xs) ∙ given_told i (events_at i xs)

  offered_told : (i : ℕ) (es : List InstanceEvent) → batches_offered i (told_at i [] es) ≡ batches_offered i es
  offered_told i [] = refl
  offered_told i (e ∷ es) =
      offered_append i (gets_all (file i)) (map (shifted (offsets i)) (e ∷ es))
      ∙ ap (λ v. v ++ batches_offered i (map (shifted (offsets i)) (e ∷ es))) (offered_gets i (file i))
      ∙ offered_all_shifted i (offsets i) (e ∷ es)

  pub offered_retold : (i : ℕ) (xs : List PoolEvent) → batches_offered i (events_at i (retold [] xs)) ≡ batches_offered i (events_at i xs)
  offered_retold i xs = ap (λ v. batches_offered i v) (at_retold i [] xs) ∙ offered_told i (events_at i xs)

  -- ---- from the events, told so, to those that happened

  pub only_gifts : (i : ℕ) (seen : List InstanceEvent) (before : List PoolEvent) (x : PoolEvent) (after : List PoolEvent) → IsNoGift x → gifts i seen ≡ before ++ x ∷ after → ⊥
  only_gifts i [] before x after none h =
      let s = map_split (λ b. event_of i (Gets (entry_of_batch b))) (file i) before x after h in
      none (entry_of_batch s.one) (sym (ap (λ (v : PoolEvent). v.event) s.same))
  only_gifts i (e ∷ seen) [] x after none h = absurd cc
  only_gifts i (e ∷ seen) (y ∷ before) x after none h = absurd cc

  -- The event that happened, of one that is told so.
  pub record Happened (seen xs before : List PoolEvent) (x : PoolEvent) (after : List PoolEvent) : Type 0 where
    pub front : List PoolEvent
    pub one : PoolEvent
    pub back : List PoolEvent
    pub split : xs ≡ front ++ one ∷ back
    pub same : again one ≡ x
    pub befores : before ≡ retold seen front ++ gifts one.instance (events_at one.instance (seen ++ front))

  now_happened : (seen : List PoolEvent) (e : PoolEvent) (es before : List PoolEvent) (x : PoolEvent) (after : List PoolEvent) → before ≡ gifts e.instance (events_at e.instance seen) → again e ≡ x → Happened seen (e ∷ es) before x after
  now_happened seen e es before x after b same = record {
    front = [];
    one = e;
    back = es;
    split = refl;
    same = same;
    befores = b ∙ ap (λ v. gifts e.instance (events_at e.instance v)) (sym (append-nil seen));
  }

  later_happened : (seen : List PoolEvent) (e : PoolEvent) (es before r : List PoolEvent) (x : PoolEvent) (after : List PoolEvent) → before ≡ gifts e.instance (events_at e.instance seen) ++ again e ∷ r
      → Happened (seen ++ e ∷ []) es r x after → Happened seen (e ∷ es) before x after
  later_happened seen e es before r x after b h =
      let g = gifts e.instance (events_at e.instance seen) in
      let last = gifts h.one.instance (events_at h.one.instance ((seen ++ e ∷ []) ++ h.front)) in
      record {
        front = e ∷ h.front;
        one = h.one;
        back = h.back;
        split = ap (λ v. e ∷ v) h.split;
        same = h.same;
        befores = b ∙ ap (λ v. g ++ again e ∷ v) h.befores
            ∙ sym (append_assoc g (again e ∷ retold (seen ++ e ∷ []) h.front) last)
            ∙ ap (λ v. retold seen (e ∷ h.front) ++ gifts h.one.instance (events_at h.one.instance v)) (append_assoc seen (e ∷ []) h.front);
      }

  in_rest : (seen : List PoolEvent) (e : PoolEvent) (es before r : List PoolEvent) (x : PoolEvent) (after : List PoolEvent)
      → ((b : List PoolEvent) → retold (seen ++ e ∷ []) es ≡ b ++ x ∷ after → Happened (seen ++ e ∷ []) es b x after)
      → before ≡ gifts e.instance (events_at e.instance seen) ++ r → again e ∷ retold (seen ++ e ∷ []) es ≡ r ++ x ∷ after → Happened seen (e ∷ es) before x after
  in_rest seen e es before [] x after rest b h =
      now_happened seen e es before x after (b ∙ append-nil (gifts e.instance (events_at e.instance seen))) (heads (again e) x (retold (seen ++ e ∷ []) es) after h)
  in_rest seen e es before (y ∷ r) x after rest b h =
      later_happened seen e es before r x after (b ∙ ap (λ v. gifts e.instance (events_at e.instance seen) ++ v ∷ r) (sym (heads (again e) y (retold (seen ++ e ∷ []) es) (r ++ x ∷ after) h)))
      (rest r (tails (again e) y (retold (seen ++ e ∷ []) es) (r ++ x ∷ after) h))

  in_gifts : (seen : List PoolEvent) (e : PoolEvent) (es before r : List PoolEvent) (x : PoolEvent) (after : List PoolEvent) → IsNoGift x
      → gifts e.instance (events_at e.instance seen) ≡ before ++ r → x ∷ after ≡ r ++ again e ∷ retold (seen ++ e ∷ []) es → Happened seen (e ∷ es) before x after
  in_gifts seen e es before [] x after none b h =
      now_happened seen e es before x after (sym (b ∙ append-nil before)) (sym (heads x (again e) after (retold (seen ++ e ∷ []) es) h))
  in_gifts seen e es before (y ∷ r) x after none b h =
      absurd (only_gifts e.instance (events_at e.instance seen) before x r none (b ∙ ap (λ v. before ++ v ∷ r) (sym (heads x y after (r ++ again e ∷ retold (seen ++ e ∷ []) es) h))))

  pub happened : (seen xs before : List PoolEvent) (x : PoolEvent) (after : List PoolEvent) → IsNoGift x → retold seen xs ≡ before ++ x ∷ after → Happened seen xs before x after
  happened seen [] [] x after none h = absurd cc
  happened seen [] (y ∷ before) x after none h = absurd cc
  happened seen (e ∷ es) before x after none h =
      elim (prefixes (gifts e.instance (events_at e.instance seen)) (again e ∷ retold (seen ++ e ∷ []) es) before (x ∷ after) h) [
        | inl u ↦ in_rest seen e es before u.0 x after (λ b k. happened (seen ++ e ∷ []) es b x after none k) u.1 u.2
        | inr u ↦ in_gifts seen e es before u.0 x after none u.1 u.2
      ]

  -- The split of the events, told so, at one that happened.
  pub retold_split : (p : List PoolEvent) (e : PoolEvent) (q : List PoolEvent)
      → retold [] (p ++ e ∷ q) ≡ (retold [] p ++ gifts e.instance (events_at e.instance p)) ++ again e ∷ retold (p ++ e ∷ []) q
  retold_split p e q = retold_append [] p (e ∷ q) ∙ sym (append_assoc (retold [] p) (gifts e.instance (events_at e.instance p)) (again e ∷ retold (p ++ e ∷ []) q))

  pub contains_again : (xs : List PoolEvent) (e : PoolEvent) → Contains xs e → Contains (retold [] xs) (again e)
  contains_again xs e h =
      let s = contains_split xs e h in
      let g = retold [] s.front ++ gifts e.instance (events_at e.instance s.front) in
      let r = retold (s.front ++ e ∷ []) s.back in
      contains_same (retold [] xs) (g ++ again e ∷ r) (again e) (ap (λ v. retold [] v) s.split ∙ retold_split s.front e s.back) (contains_at g (again e) r)

  -- One that is told so happened.
  pub record Among (xs : List PoolEvent) (x : PoolEvent) : Type 0 where
    pub one : PoolEvent
    pub there : Contains xs one
    pub same : again one ≡ x

  pub contains_happened : (xs : List PoolEvent) (x : PoolEvent) → IsNoGift x → Contains (retold [] xs) x → Among xs x
  contains_happened xs x none h =
      let s = contains_split (retold [] xs) x h in
      let k = happened [] xs s.front x s.back none s.split in
      record { one = k.one; there = contains_same xs (k.front ++ k.one ∷ k.back) k.one k.split (contains_at k.front k.one k.back); same = k.same }
