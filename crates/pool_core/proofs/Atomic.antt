-- Lemmas: the events at an atomic log are those of a pool.
use Rattle.std.proofs.Common.{◌≡◌, ◌==◌, ℕ, ◌+◌, ◌≤◌, ◌⊎◌, Bool, true, false, List, [], ◌∷◌, ◌++◌, length, map, take, drop, Some, slice_get, refl, sym, ap, subst, ◌∙◌, append_assoc, arith, inl, inr, length-append}
use Rattle.std.specs.Prelude.{Contains, if◌then◌else◌}
use Rattle.std.proofs.lemmas.List.{append-nil, length-map, map-append, take-append-drop, take-append-le}
use Rattle.std.proofs.lemmas.List.Elements.{Contains-push_cases, filter-append}
use Rattle.pool_core.specs.Atomic.{Accepts, AtomicLog, AtomicLogIsPool, Gives, Happens, IsFree, Starts, Tells}
use Rattle.pool_core.specs.Events.{Answers, AsksForEnd, Batch, Drops, Fails, Gets, InstanceEvent, LearnsEnd, Offers, PoolEvent, Receives, batches_offered, entries_given, entry_in, events_at}
use Rattle.pool_core.specs.Log.{LogEntry}
use Rattle.pool_core.specs.Pool.{Begins, EndIsNotBefore, batches_by, count_given, count_offered, entry_of_batch}
use Rattle.pool_core.proofs.Given.{given_more}
use Rattle.pool_core.proofs.Lists.{Split, contains_none, get_split, heads, prefixes, tails}
use Rattle.pool_core.proofs.Places.{same_fronts}
use Rattle.pool_core.proofs.Projections.{at_append, event_of, given_append, offered_append}

-- ---- one more event

no_more : {X : Type 0} (r a : List X) → [] ≡ r ++ a → (r ≡ []) × (a ≡ [])
no_more [] a h = (refl, sym h)
no_more (x ∷ r) a h = absurd cc

-- A split of events with one more event.
split_rest : {X : Type 0} (xs : List X) (x : X) (before after r : List X) → before ≡ xs ++ r → x ∷ [] ≡ r ++ after
    → ((rest : List X) × (xs ≡ before ++ rest) × (after ≡ rest ++ x ∷ [])) ⊎ ((before ≡ xs ++ x ∷ []) × (after ≡ []))
split_rest xs x before after [] h k = inl ([], sym (h ∙ append-nil xs) ∙ sym (append-nil before), sym k)
split_rest xs x before after (y ∷ r) h k =
    let n = no_more r after (tails x y [] (r ++ after) k) in
    inr (h ∙ ap (λ v. xs ++ v ∷ r) (sym (heads x y [] (r ++ after) k)) ∙ ap (λ v. xs ++ x ∷ v) n.0, n.1)

pub split_last : {X : Type 0} (xs : List X) (x : X) (before after : List X) → xs ++ x ∷ [] ≡ before ++ after
    → ((rest : List X) × (xs ≡ before ++ rest) × (after ≡ rest ++ x ∷ [])) ⊎ ((before ≡ xs ++ x ∷ []) × (after ≡ []))
split_last xs x before after h = elim (prefixes before after xs (x ∷ []) (sym h)) [
  | inl u ↦ inl (u.0, u.1, u.2)
  | inr u ↦ split_rest xs x before after u.0 u.1 u.2
]

pub given_last : (i : ℕ) (events : List PoolEvent) (e : PoolEvent) → entries_given (events_at i (events ++ e ∷ [])) ≡ entries_given (events_at i events) ++ entries_given (events_at i (e ∷ []))
given_last i events e = ap (λ v. entries_given v) (at_append i events (e ∷ [])) ∙ given_append (events_at i events) (events_at i (e ∷ []))

pub offered_last : (i : ℕ) (events : List PoolEvent) (e : PoolEvent) → batches_offered i (events_at i (events ++ e ∷ [])) ≡ batches_offered i (events_at i events) ++ batches_offered i (events_at i (e ∷ []))
offered_last i events e = ap (λ v. batches_offered i v) (at_append i events (e ∷ [])) ∙ offered_append i (events_at i events) (events_at i (e ∷ []))

none_in : (b : Bool) (event : InstanceEvent) → entry_in event ≡ [] → entries_given ((if b then event ∷ [] else []) ++ []) ≡ []
none_in true event h = ap (λ v. v ++ []) h
none_in false event h = refl

pub none_given : (i : ℕ) (e : PoolEvent) → entry_in e.event ≡ [] → entries_given (events_at i (e ∷ [])) ≡ []
none_given i e h = none_in (i == e.instance) e.event h

pub free_gives : (event : InstanceEvent) → IsFree event → entry_in event ≡ []
free_gives (Receives id call) h = refl
free_gives (Offers ids bytes) h = refl
free_gives (Gets entry) h = absurd h
free_gives (AsksForEnd question) h = refl
free_gives (LearnsEnd question count) h = absurd h
free_gives (Answers id basis reply) h = refl
free_gives (Fails id) h = refl
free_gives (Drops id) h = refl

-- ---- the parts of a pool

-- The events are those of a pool with this log.
pub record Shares (events : List PoolEvent) (log : List Batch) : Type 0 where
  pub one : (i : ℕ) → Begins (entries_given (events_at i events)) (map entry_of_batch log)
  pub own : (i : ℕ) → Begins (batches_by i log) (batches_offered i (events_at i events))
  pub caused : (before after : List PoolEvent) → events ≡ before ++ after → (i writer : ℕ) → length (batches_by writer (take (count_given i before) log)) ≤ count_offered writer before
  pub end : (i j : ℕ) → EndIsNotBefore events i j
  pub within : (i question count : ℕ) → Contains events (event_of i (LearnsEnd question count)) → count ≤ length log

given_within : (events : List PoolEvent) (log : List Batch) → ((i : ℕ) → Begins (entries_given (events_at i events)) (map entry_of_batch log)) → (i : ℕ) → count_given i events ≤ length log
given_within events log one i = omega (arith, ap (λ v. length v) (one i).1, length-append (entries_given (events_at i events)) (one i).0, length-map log entry_of_batch)

part_of_log : (w n : ℕ) (log : List Batch) → length (batches_by w (take n log)) ≤ length (batches_by w log)
part_of_log w n log =
    let e : batches_by w log ≡ batches_by w (take n log) ++ batches_by w (drop n log) = ap (λ v. batches_by w v) (sym (take-append-drop n log)) ∙ filter-append (λ (b : Batch). w == b.writer) (take n log) (drop n log) in
    omega (arith, ap (λ v. length v) e, length-append (batches_by w (take n log)) (batches_by w (drop n log)))

-- At the end of the events, causality follows from what each instance offered.
pub caused_now : (events : List PoolEvent) (log : List Batch) → ((i : ℕ) → Begins (batches_by i log) (batches_offered i (events_at i events))) → (n w : ℕ) → length (batches_by w (take n log)) ≤ count_offered w events
caused_now events log own n w = omega (arith, part_of_log w n log, ap (λ v. length v) (own w).1, length-append (batches_by w log) (own w).0)

own_more : (events : List PoolEvent) (log : List Batch) (e : PoolEvent) → Shares events log → (i : ℕ) → Begins (batches_by i log) (batches_offered i (events_at i (events ++ e ∷ [])))
own_more events log e s i =
    let more = batches_offered i (events_at i (e ∷ [])) in
    ((s.own i).0 ++ more, offered_last i events e ∙ ap (λ v. v ++ more) (s.own i).1 ∙ append_assoc (batches_by i log) (s.own i).0 more)

caused_more : (events : List PoolEvent) (log : List Batch) (e : PoolEvent) → Shares events log → (before after : List PoolEvent) → events ++ e ∷ [] ≡ before ++ after → (i w : ℕ)
    → length (batches_by w (take (count_given i before) log)) ≤ count_offered w before
caused_more events log e s before after split i w = elim (split_last events e before after split) [
  | inl u ↦ s.caused before u.0 u.1 i w
  | inr u ↦
      let now = caused_now (events ++ e ∷ []) log (own_more events log e s) (count_given i before) w in
      let same : count_offered w before ≡ count_offered w (events ++ e ∷ []) = ap (λ v. count_offered w v) u.0 in
      omega (arith, now, same)
]

-- The last event, or an earlier one.
pub last_or : {X : Type 0} (y : X) (after rest : List X) (x : X) → y ∷ after ≡ rest ++ x ∷ [] → ((more : List X) × (rest ≡ y ∷ more)) ⊎ ((y ≡ x) × (rest ≡ []))
last_or y after [] x h = inr (heads y x after [] h, refl)
last_or y after (z ∷ rest) x h = inl (rest, ap (λ v. v ∷ rest) (sym (heads y z after (rest ++ x ∷ []) h)))

end_more : (events : List PoolEvent) (log : List Batch) (e : PoolEvent) → Shares events log → ((i question count : ℕ) → e ≡ event_of i (LearnsEnd question count) → count ≡ length log) → (i j : ℕ) → EndIsNotBefore (events ++ e ∷ []) i j
end_more events log e s told i j before between after question count split =
    let ask = event_of i (AsksForEnd question) in
    let learn = event_of i (LearnsEnd question count) in
    elim (split_last events e (before ++ ask ∷ between) (learn ∷ after) (split ∙ sym (append_assoc before (ask ∷ between) (learn ∷ after)))) [
      | inl u ↦ elim (last_or learn after u.0 e u.2) [
        | inl more ↦ s.end i j before between more.0 question count (u.1 ∙ ap (λ v. (before ++ ask ∷ between) ++ v) more.1 ∙ append_assoc before (ask ∷ between) (learn ∷ more.0))
        | inr last ↦
            let whole : events ≡ before ++ (ask ∷ between) = u.1 ∙ ap (λ v. (before ++ ask ∷ between) ++ v) last.1 ∙ append-nil (before ++ ask ∷ between) in
            let grown : count_given j events ≡ count_given j (before ++ ask ∷ between) = ap (λ v. count_given j v) whole in
            omega (arith, told i question count (sym last.0), grown, given_more j before (ask ∷ between), given_within events log s.one j)
      ]
      | inr u ↦ absurd cc
    ]

within_more : (events : List PoolEvent) (log : List Batch) (e : PoolEvent) → Shares events log → ((i question count : ℕ) → e ≡ event_of i (LearnsEnd question count) → count ≡ length log)
    → (i question count : ℕ) → Contains (events ++ e ∷ []) (event_of i (LearnsEnd question count)) → count ≤ length log
within_more events log e s told i question count h = elim (Contains-push_cases events e (event_of i (LearnsEnd question count)) h) [
  | inl before ↦ s.within i question count before
  | inr last ↦ omega (arith, told i question count last)
]

pub shares_more : (events : List PoolEvent) (log : List Batch) (e : PoolEvent) → Shares events log → ((i question count : ℕ) → e ≡ event_of i (LearnsEnd question count) → count ≡ length log)
    → ((i : ℕ) → Begins (entries_given (events_at i (events ++ e ∷ []))) (map entry_of_batch log)) → Shares (events ++ e ∷ []) log
shares_more events log e s told one = record {
  one = one;
  own = own_more events log e s;
  caused = caused_more events log e s;
  end = end_more events log e s told;
  within = within_more events log e s told;
}

same_given : (events : List PoolEvent) (log : List Batch) (e : PoolEvent) → Shares events log → entry_in e.event ≡ [] → (i : ℕ) → Begins (entries_given (events_at i (events ++ e ∷ []))) (map entry_of_batch log)
same_given events log e s none i =
    let same : entries_given (events_at i (events ++ e ∷ [])) ≡ entries_given (events_at i events) =
    given_last i events e ∙ ap (λ v. entries_given (events_at i events) ++ v) (none_given i e none) ∙ append-nil (entries_given (events_at i events)) in
    ((s.one i).0, (s.one i).1 ∙ ap (λ v. v ++ (s.one i).0) (sym same))

-- An event that the log does not decide is no answer to a question.
free_untold : (e : PoolEvent) (log : List Batch) → IsFree e.event → (i question count : ℕ) → e ≡ event_of i (LearnsEnd question count) → count ≡ length log
free_untold e log free i question count h = absurd (subst (λ (v : PoolEvent). IsFree v.event) h free)

pub get_untold : (j : ℕ) (entry : LogEntry) (log : List Batch) (i question count : ℕ) → event_of j (Gets entry) ≡ event_of i (LearnsEnd question count) → count ≡ length log
get_untold j entry log i question count h = let e : Gets entry ≡ LearnsEnd question count = ap (λ (v : PoolEvent). v.event) h in absurd cc

told_now : (j asked : ℕ) (log : List Batch) (i question count : ℕ) → event_of j (LearnsEnd asked (length log)) ≡ event_of i (LearnsEnd question count) → count ≡ length log
told_now j asked log i question count h = let e : LearnsEnd asked (length log) ≡ LearnsEnd question count = ap (λ (v : PoolEvent). v.event) h in cc

-- ---- the steps of the log

-- The next entry of a log, behind those that were given.
given_next : (g rest : List LogEntry) (log : List Batch) (b : Batch) → map entry_of_batch log ≡ g ++ rest → Split log (length g) b → Begins (g ++ entry_of_batch b ∷ []) (map entry_of_batch log)
given_next g rest log b one c =
    let parts : map entry_of_batch log ≡ map entry_of_batch c.front ++ entry_of_batch b ∷ map entry_of_batch c.back = ap (λ v. map entry_of_batch v) c.split ∙ map-append entry_of_batch c.front (b ∷ c.back) in
    let front : map entry_of_batch c.front ≡ g =
    same_fronts (map entry_of_batch c.front) (entry_of_batch b ∷ map entry_of_batch c.back) g rest (length-map c.front entry_of_batch ∙ c.at) (sym parts ∙ one) in
    (map entry_of_batch c.back, parts ∙ ap (λ v. v ++ entry_of_batch b ∷ map entry_of_batch c.back) front ∙ sym (append_assoc g (entry_of_batch b ∷ []) (map entry_of_batch c.back)))

gives_case : (i j : ℕ) (events : List PoolEvent) (log : List Batch) (b : Batch) → Shares events log → slice_get log (count_given j events) ≡ Some b → (t : Bool) → (i == j) ≡ t
    → Begins (entries_given (events_at i events) ++ entries_given ((if t then Gets (entry_of_batch b) ∷ [] else []) ++ [])) (map entry_of_batch log)
gives_case i j events log b s h false is = ((s.one i).0, (s.one i).1 ∙ ap (λ v. v ++ (s.one i).0) (sym (append-nil (entries_given (events_at i events)))))
gives_case i j events log b s h true is =
    let same : j ≡ i = grind (arith, is) in
    let g = entries_given (events_at i events) in
    let there : slice_get log (length g) ≡ Some b = ap (λ v. slice_get log (count_given v events)) (sym same) ∙ h in
    given_next g (s.one i).0 log b (s.one i).1 (get_split log (length g) b there)

pub gives_one : (i j : ℕ) (events : List PoolEvent) (log : List Batch) (b : Batch) → Shares events log → slice_get log (count_given j events) ≡ Some b
    → Begins (entries_given (events_at i (events ++ event_of j (Gets (entry_of_batch b)) ∷ []))) (map entry_of_batch log)
gives_one i j events log b s h =
    subst (λ v. Begins v (map entry_of_batch log)) (sym (given_last i events (event_of j (Gets (entry_of_batch b))))) (gives_case i j events log b s h (i == j) refl)

by_last : (i : ℕ) (log : List Batch) (b : Batch) → batches_by i (log ++ b ∷ []) ≡ batches_by i log ++ (if i == b.writer then b ∷ [] else [])
by_last i log b = filter-append (λ (v : Batch). i == v.writer) log (b ∷ [])

accepts_case : (i : ℕ) (events : List PoolEvent) (log : List Batch) (b : Batch) (rest : List Batch) → batches_offered b.writer (events_at b.writer events) ≡ batches_by b.writer log ++ b ∷ rest → Shares events log
    → (t : Bool) → (i == b.writer) ≡ t → Begins (batches_by i log ++ (if t then b ∷ [] else [])) (batches_offered i (events_at i events))
accepts_case i events log b rest offered s false is = ((s.own i).0, (s.own i).1 ∙ ap (λ v. v ++ (s.own i).0) (sym (append-nil (batches_by i log))))
accepts_case i events log b rest offered s true is =
    let same : b.writer ≡ i = grind (arith, is) in
    let these : batches_offered i (events_at i events) ≡ batches_by i log ++ b ∷ rest = subst (λ (v : ℕ). batches_offered v (events_at v events) ≡ batches_by v log ++ b ∷ rest) same offered in
    (rest, these ∙ sym (append_assoc (batches_by i log) (b ∷ []) rest))

accepts : (events : List PoolEvent) (log : List Batch) (b : Batch) (rest : List Batch) → batches_offered b.writer (events_at b.writer events) ≡ batches_by b.writer log ++ b ∷ rest → Shares events log → Shares events (log ++ b ∷ [])
accepts events log b rest offered s =
    let long : length (log ++ b ∷ []) ≡ length log + 1 = length-append log (b ∷ []) in
    let own : (i : ℕ) → Begins (batches_by i (log ++ b ∷ [])) (batches_offered i (events_at i events)) =
    λ i. subst (λ v. Begins v (batches_offered i (events_at i events))) (sym (by_last i log b)) (accepts_case i events log b rest offered s (i == b.writer) refl) in
    record {
      one = λ i. ((s.one i).0 ++ entry_of_batch b ∷ [], map-append entry_of_batch log (b ∷ []) ∙ ap (λ v. v ++ entry_of_batch b ∷ []) (s.one i).1 ∙ append_assoc (entries_given (events_at i events)) (s.one i).0 (entry_of_batch b ∷ []));
      own = own;
      caused = λ before after split i w.
          let grown : count_given i events ≡ count_given i (before ++ after) = ap (λ v. count_given i v) split in
          let le : count_given i before ≤ length log = omega (arith, grown, given_more i before after, given_within events log s.one i) in
          let same : length (batches_by w (take (count_given i before) (log ++ b ∷ []))) ≡ length (batches_by w (take (count_given i before) log)) = ap (λ v. length (batches_by w v)) (take-append-le (count_given i before) log (b ∷ []) le) in
          omega (arith, same, s.caused before after split i w);
      end = s.end;
      within = λ i question count h. omega (arith, s.within i question count h, long);
    }

nothing_split : {X A : Type 0} (before : List X) (x : X) (after : List X) → [] ≡ before ++ x ∷ after → A
nothing_split [] x after h = absurd cc
nothing_split (y ∷ before) x after h = absurd cc

shares : (events : List PoolEvent) (log : List Batch) → AtomicLog events log → Shares events log
shares _ _ Starts = record {
  one = λ i. ([], refl);
  own = λ i. ([], refl);
  caused = λ before after split i w. let n : before ≡ [] = (no_more before after split).0 in omega (arith, ap (λ v. length (batches_by w (take (count_given i v) []))) n);
  end = λ i j before between after question count split. nothing_split before (event_of i (AsksForEnd question)) (between ++ event_of i (LearnsEnd question count) ∷ after) split;
  within = λ i question count h. contains_none (event_of i (LearnsEnd question count)) h;
}
shares _ _ (Happens events log e free h) = let s = shares events log h in shares_more events log e s (free_untold e log free) (same_given events log e s (free_gives e.event free))
shares _ _ (Accepts events log b rest offered h) = accepts events log b rest offered (shares events log h)
shares _ _ (Gives events log i b there h) = let s = shares events log h in shares_more events log (event_of i (Gets (entry_of_batch b))) s (get_untold i (entry_of_batch b) log) (λ j. gives_one j i events log b s there)
shares _ _ (Tells events log i question h) =
    let s = shares events log h in
    let e = event_of i (LearnsEnd question (length log)) in
    shares_more events log e s (told_now i question log) (same_given events log e s refl)

pub atomic_pool : AtomicLogIsPool
atomic_pool events log h =
    let s = shares events log h in
    (record { log = log; one = s.one; own = s.own; caused = s.caused; end = s.end; within = s.within }, refl)
