-- Lemmas: the events at an atomic log whose instances start from files are those of a pool.
use Rattle.std.proofs.Common.{◌≡◌, ◌==◌, ℕ, zero, suc, ◌+◌, ◌≤◌, Bool, true, false, cond, List, [], ◌∷◌, ◌++◌, length, map, take, drop, Some, slice_get, refl, sym, ap, subst, ◌∙◌, append_assoc, arith, inl, inr, length-append}
use Rattle.std.specs.Prelude.{Contains, if◌then◌else◌}
use Rattle.std.proofs.lemmas.List.{append-nil, map-append, take-append-le}
use Rattle.std.proofs.lemmas.List.Elements.{Contains-append_left, Contains-push_cases, filter-append}
use Rattle.entity_core.specs.Airspace.{Airspace}
use Rattle.service_step.specs.declared.reply.Reply.{Reply}
use Rattle.service_step.specs.Step.{step}
use Rattle.service_calls.specs.Run.{TimedCall}
use Rattle.pool_core.specs.Acts.{Act, Makes, airspace_by}
use Rattle.pool_core.specs.Atomic.{IsFree}
use Rattle.pool_core.specs.AtomicFrom.{AcceptsNext, ActsFreely, AtomicLogFrom, AtomicLogFromIsPool, FromFileCanAnswer, GivesNext, NoneYet, TellsCount}
use Rattle.pool_core.specs.Events.{AfterFirst, Answers, AsksForEnd, Batch, Gets, InPlace, InstanceEvent, LearnsEnd, Offers, PoolEvent, Receives, batches_offered, entries_given, entry_in, events_at}
use Rattle.pool_core.specs.FromFiles.{EndIsNotBehind, HasActed, file_of}
use Rattle.pool_core.specs.Log.{LogEntry}
use Rattle.pool_core.specs.Pool.{Begins, batches_by, count_given, count_offered, entry_of_batch}
use Rattle.pool_core.specs.Serves.{ServesPool}
use Rattle.pool_core.proofs.Atomic.{caused_now, free_gives, given_last, last_or, none_given, offered_last, split_last}
use Rattle.pool_core.proofs.Given.{given_more}
use Rattle.pool_core.proofs.Lists.{contains_at, contains_head, contains_none, get_within}
use Rattle.pool_core.proofs.Projections.{at_append, at_one, at_own, at_split, event_of}
use Rattle.pool_core.proofs.Witness.{called, calls_by_one, is_open, one_calls}

drop_more : {X : Type 0} (n : ℕ) (xs ys : List X) → n ≤ length xs → drop n (xs ++ ys) ≡ drop n xs ++ ys
drop_more zero xs ys le = refl
drop_more (suc n) [] ys le = absurd (omega (arith, le))
drop_more (suc n) (x ∷ xs) ys le = drop_more n xs ys (omega (arith, le))

get_dropped : {X : Type 0} (n k : ℕ) (xs : List X) (x : X) → slice_get xs (n + k) ≡ Some x → slice_get (drop n xs) k ≡ Some x
get_dropped zero k xs x h = let e : 0 + k ≡ k = omega arith in sym (ap (λ v. slice_get xs v) e) ∙ h
get_dropped (suc n) k [] x h = absurd cc
get_dropped (suc n) k (y ∷ xs) x h =
    let e : suc n + k ≡ suc (n + k) = omega arith in
    get_dropped n k xs x (sym (ap (λ v. slice_get (y ∷ xs) v) e) ∙ h)

next_given : (g : List LogEntry) (rest : List LogEntry) (bs : List Batch) (b : Batch) → map entry_of_batch bs ≡ g ++ rest → slice_get bs (length g) ≡ Some b → Begins (g ++ entry_of_batch b ∷ []) (map entry_of_batch bs)
next_given [] rest [] b h there = absurd cc
next_given [] rest (x ∷ bs) b h there = let e : x ≡ b = cc in (map entry_of_batch bs, ap (λ v. entry_of_batch v ∷ map entry_of_batch bs) e)
next_given (y ∷ g) rest [] b h there = absurd cc
next_given (y ∷ g) rest (x ∷ bs) b h there =
    let same : entry_of_batch x ≡ y = cc in
    let more : map entry_of_batch bs ≡ g ++ rest = cc in
    let n = next_given g rest bs b more there in
    (n.0, ap (λ v. v ∷ map entry_of_batch bs) same ∙ ap (λ v. y ∷ v) n.1)

nothing_split : {X A : Type 0} (before : List X) (x : X) (after : List X) → [] ≡ before ++ x ∷ after → A
nothing_split [] x after h = absurd cc
nothing_split (y ∷ before) x after h = absurd cc

module _ (offsets : ℕ → ℕ) where
  -- The events are those of a pool with this log.
  record Shares (events : List PoolEvent) (log : List Batch) : Type 0 where
    pub one : (i : ℕ) → Begins (entries_given (events_at i events)) (map entry_of_batch (drop (offsets i) log))
    pub own : (i : ℕ) → Begins (batches_by i log) (batches_offered i (events_at i events))
    pub caused : (before : List PoolEvent) (e : PoolEvent) (after : List PoolEvent) → events ≡ before ++ e ∷ after → (w : ℕ)
        → length (batches_by w (take (offsets e.instance + count_given e.instance (before ++ e ∷ [])) log)) ≤ count_offered w before
    pub end : (i j : ℕ) → EndIsNotBehind offsets events i j
    pub within : (i question count : ℕ) → Contains events (event_of i (LearnsEnd question count)) → offsets i + count ≤ length log
    pub bound : (i : ℕ) → HasActed i events → offsets i + count_given i events ≤ length log

  acted_more : (i : ℕ) (p r : List PoolEvent) → HasActed i p → HasActed i (p ++ r)
  acted_more i p r h = (h.0, subst (λ v. Contains v h.0) (sym (at_append i p r)) (Contains-append_left (events_at i p) (events_at i r) h.0 h.1))

  acted_now : (before : List PoolEvent) (e : PoolEvent) (after events : List PoolEvent) → events ≡ before ++ e ∷ after → HasActed e.instance events
  acted_now before e after events split =
      let i = e.instance in
      (e.event, subst (λ v. Contains v e.event) (sym (ap (λ v. events_at i v) split ∙ at_split i e.event before after)) (contains_at (events_at i before) e.event (events_at i after)))

  -- ---- one more event

  module _ (events : List PoolEvent) (log : List Batch) (e : PoolEvent) (s : Shares events log)
      (ones : (i : ℕ) → Begins (entries_given (events_at i (events ++ e ∷ []))) (map entry_of_batch (drop (offsets i) log)))
      (fits : offsets e.instance + count_given e.instance (events ++ e ∷ []) ≤ length log)
      (told : (i question count : ℕ) → e ≡ event_of i (LearnsEnd question count) → offsets i + count ≡ length log) where
    more_own : (i : ℕ) → Begins (batches_by i log) (batches_offered i (events_at i (events ++ e ∷ [])))
    more_own i =
        let more = batches_offered i (events_at i (e ∷ [])) in
        ((s.own i).0 ++ more, offered_last i events e ∙ ap (λ v. v ++ more) (s.own i).1 ∙ append_assoc (batches_by i log) (s.own i).0 more)

    more_caused : (before : List PoolEvent) (x : PoolEvent) (after : List PoolEvent) → events ++ e ∷ [] ≡ before ++ x ∷ after → (w : ℕ)
        → length (batches_by w (take (offsets x.instance + count_given x.instance (before ++ x ∷ [])) log)) ≤ count_offered w before
    more_caused before x after split w = elim (split_last events e before (x ∷ after) split) [
      | inl u ↦ elim (last_or x after u.0 e u.2) [
        | inl more ↦ s.caused before x more.0 (u.1 ∙ ap (λ v. before ++ v) more.1) w
        | inr last ↦
            let same : events ≡ before = u.1 ∙ ap (λ v. before ++ v) last.1 ∙ append-nil before in
            let now = caused_now events log s.own (offsets x.instance + count_given x.instance (before ++ x ∷ [])) w in
            omega (arith, now, ap (λ v. count_offered w v) same)
      ]
      | inr u ↦ absurd cc
    ]

    more_end : (i j : ℕ) → EndIsNotBehind offsets (events ++ e ∷ []) i j
    more_end i j before between after question count split acted =
        let ask = event_of i (AsksForEnd question) in
        let learn = event_of i (LearnsEnd question count) in
        elim (split_last events e (before ++ ask ∷ between) (learn ∷ after) (split ∙ sym (append_assoc before (ask ∷ between) (learn ∷ after)))) [
          | inl u ↦ elim (last_or learn after u.0 e u.2) [
            | inl more ↦ s.end i j before between more.0 question count (u.1 ∙ ap (λ v. (before ++ ask ∷ between) ++ v) more.1 ∙ append_assoc before (ask ∷ between) (learn ∷ more.0)) acted
            | inr last ↦
                let whole : events ≡ before ++ (ask ∷ between) = u.1 ∙ ap (λ v. (before ++ ask ∷ between) ++ v) last.1 ∙ append-nil (before ++ ask ∷ between) in
                let grown : count_given j events ≡ count_given j (before ++ ask ∷ between) = ap (λ v. count_given j v) whole in
                let acted_in : HasActed j events = subst (λ (v : List PoolEvent). HasActed j v) (sym whole) (acted_more j before (ask ∷ between) acted) in
                omega (arith, told i question count (sym last.0), grown, given_more j before (ask ∷ between), s.bound j acted_in)
          ]
          | inr u ↦ absurd cc
        ]

    more_within : (i question count : ℕ) → Contains (events ++ e ∷ []) (event_of i (LearnsEnd question count)) → offsets i + count ≤ length log
    more_within i question count h = elim (Contains-push_cases events e (event_of i (LearnsEnd question count)) h) [
      | inl before ↦ s.within i question count before
      | inr last ↦ omega (arith, told i question count last)
    ]

    bound_case : (i : ℕ) → HasActed i (events ++ e ∷ []) → (t : Bool) → (i == e.instance) ≡ t → offsets i + count_given i (events ++ e ∷ []) ≤ length log
    bound_case i acted true is =
        let same : e.instance ≡ i = grind (arith, is) in
        subst (λ (v : ℕ). offsets v + count_given v (events ++ e ∷ []) ≤ length log) same fits
    bound_case i acted false is =
        let none : at_one i e ≡ [] = ap (λ t. if t then e.event ∷ [] else []) is in
        let still : events_at i (events ++ e ∷ []) ≡ events_at i events = at_append i events (e ∷ []) ∙ ap (λ v. events_at i events ++ (v ++ [])) none ∙ append-nil (events_at i events) in
        let before : HasActed i events = (acted.0, subst (λ v. Contains v acted.0) still acted.1) in
        omega (arith, s.bound i before, ap (λ v. length (entries_given v)) still)

    shares_more : Shares (events ++ e ∷ []) log
    shares_more = record {
      one = ones;
      own = more_own;
      caused = more_caused;
      end = more_end;
      within = more_within;
      bound = λ i acted. bound_case i acted (i == e.instance) refl;
    }

  -- An event in which no entry is given.
  no_gift : (events : List PoolEvent) (log : List Batch) (e : PoolEvent) → Shares events log → entry_in e.event ≡ [] → (i : ℕ)
      → entries_given (events_at i (events ++ e ∷ [])) ≡ entries_given (events_at i events)
  no_gift events log e s none i = given_last i events e ∙ ap (λ v. entries_given (events_at i events) ++ v) (none_given i e none) ∙ append-nil (entries_given (events_at i events))

  started_case : (events : List PoolEvent) (log : List Batch) (i : ℕ) → Shares events log → offsets i ≤ length log → (es : List InstanceEvent) → events_at i events ≡ es → offsets i + count_given i events ≤ length log
  started_case events log i s le [] h = let none : count_given i events ≡ 0 = ap (λ v. length (entries_given v)) h in omega (arith, none, le)
  started_case events log i s le (x ∷ xs) h = s.bound i (x, subst (λ v. Contains v x) (sym h) (contains_head x xs))

  acts : (events : List PoolEvent) (log : List Batch) (e : PoolEvent) → Shares events log → entry_in e.event ≡ [] → offsets e.instance ≤ length log
      → ((i question count : ℕ) → e ≡ event_of i (LearnsEnd question count) → offsets i + count ≡ length log) → Shares (events ++ e ∷ []) log
  acts events log e s none le told =
      shares_more events log e s
      (λ i. subst (λ v. Begins v (map entry_of_batch (drop (offsets i) log))) (sym (no_gift events log e s none i)) (s.one i))
      (omega (arith, ap (λ v. length v) (no_gift events log e s none e.instance), started_case events log e.instance s le (events_at e.instance events) refl)) told

  -- ---- being given an entry

  gift_case : (i j : ℕ) (events : List PoolEvent) (log : List Batch) (b : Batch) → Shares events log → slice_get log (offsets j + count_given j events) ≡ Some b → (t : Bool) → (i == j) ≡ t
      → Begins (entries_given (events_at i events) ++ entries_given (events_at i (event_of j (Gets (entry_of_batch b)) ∷ []))) (map entry_of_batch (drop (offsets i) log))
  gift_case i j events log b s h true is =
      let same : j ≡ i = grind (arith, is) in
      let there : slice_get log (offsets i + count_given i events) ≡ Some b = subst (λ (v : ℕ). slice_get log (offsets v + count_given v events) ≡ Some b) same h in
      let g = entries_given (events_at i events) in
      let mine : entries_given (events_at i (event_of j (Gets (entry_of_batch b)) ∷ [])) ≡ entry_of_batch b ∷ [] = ap (λ t. entries_given ((if t then Gets (entry_of_batch b) ∷ [] else []) ++ [])) is in
      subst (λ v. Begins (g ++ v) (map entry_of_batch (drop (offsets i) log))) (sym mine)
      (next_given g (s.one i).0 (drop (offsets i) log) b (s.one i).1 (get_dropped (offsets i) (length g) log b there))
  gift_case i j events log b s h false is =
      let g = entries_given (events_at i events) in
      let none : entries_given (events_at i (event_of j (Gets (entry_of_batch b)) ∷ [])) ≡ [] = ap (λ t. entries_given ((if t then Gets (entry_of_batch b) ∷ [] else []) ++ [])) is in
      subst (λ v. Begins v (map entry_of_batch (drop (offsets i) log))) (sym (ap (λ v. g ++ v) none ∙ append-nil g)) (s.one i)

  gift : (events : List PoolEvent) (log : List Batch) (j : ℕ) (b : Batch) → Shares events log → slice_get log (offsets j + count_given j events) ≡ Some b → Shares (events ++ event_of j (Gets (entry_of_batch b)) ∷ []) log
  gift events log j b s h =
      let e = event_of j (Gets (entry_of_batch b)) in
      let one_more : count_given j (events ++ e ∷ []) ≡ length (entries_given (events_at j events) ++ entry_of_batch b ∷ []) =
      ap (λ v. length v) (given_last j events e) ∙ ap (λ v. length (entries_given (events_at j events) ++ entries_given v)) (at_own j (Gets (entry_of_batch b)) []) in
      shares_more events log e s
      (λ i. subst (λ v. Begins v (map entry_of_batch (drop (offsets i) log))) (sym (given_last i events e)) (gift_case i j events log b s h (i == j) refl))
      (omega (arith, one_more, length-append (entries_given (events_at j events)) (entry_of_batch b ∷ []), get_within log (offsets j + count_given j events) b h))
      (λ i question count clash.
      let other : Gets (entry_of_batch b) ≡ LearnsEnd question count = ap (λ (v : PoolEvent). v.event) clash in
      absurd cc)

  -- ---- a longer log

  longer_one : (events : List PoolEvent) (log : List Batch) (b : Batch) (s : Shares events log) (i : ℕ) → (es : List InstanceEvent) → events_at i events ≡ es
      → Begins (entries_given (events_at i events)) (map entry_of_batch (drop (offsets i) (log ++ b ∷ [])))
  longer_one events log b s i [] h = subst (λ v. Begins (entries_given v) (map entry_of_batch (drop (offsets i) (log ++ b ∷ [])))) (sym h) (map entry_of_batch (drop (offsets i) (log ++ b ∷ [])), refl)
  longer_one events log b s i (x ∷ xs) h =
      let le : offsets i ≤ length log = omega (arith, s.bound i (x, subst (λ v. Contains v x) (sym h) (contains_head x xs))) in
      let g = entries_given (events_at i events) in (
        (s.one i).0 ++ entry_of_batch b ∷ [],
        ap (λ v. map entry_of_batch v) (drop_more (offsets i) log (b ∷ []) le)
            ∙ map-append entry_of_batch (drop (offsets i) log) (b ∷ [])
            ∙ ap (λ v. v ++ entry_of_batch b ∷ []) (s.one i).1
            ∙ append_assoc g (s.one i).0 (entry_of_batch b ∷ []),
      )

  longer_own : (events : List PoolEvent) (log : List Batch) (b : Batch) (rest : List Batch) → batches_offered b.writer (events_at b.writer events) ≡ batches_by b.writer log ++ b ∷ rest → Shares events log
      → (i : ℕ) → (t : Bool) → (i == b.writer) ≡ t → Begins (batches_by i log ++ (if t then b ∷ [] else [])) (batches_offered i (events_at i events))
  longer_own events log b rest offered s i false is = ((s.own i).0, (s.own i).1 ∙ ap (λ v. v ++ (s.own i).0) (sym (append-nil (batches_by i log))))
  longer_own events log b rest offered s i true is =
      let same : b.writer ≡ i = grind (arith, is) in
      let these : batches_offered i (events_at i events) ≡ batches_by i log ++ b ∷ rest = subst (λ (v : ℕ). batches_offered v (events_at v events) ≡ batches_by v log ++ b ∷ rest) same offered in
      (rest, these ∙ sym (append_assoc (batches_by i log) (b ∷ []) rest))

  longer : (events : List PoolEvent) (log : List Batch) (b : Batch) (rest : List Batch) → batches_offered b.writer (events_at b.writer events) ≡ batches_by b.writer log ++ b ∷ rest → Shares events log → Shares events (log ++ b ∷ [])
  longer events log b rest offered s =
      let long : length (log ++ b ∷ []) ≡ length log + 1 = length-append log (b ∷ []) in
      record {
        one = λ i. longer_one events log b s i (events_at i events) refl;
        own = λ i. subst (λ v. Begins v (batches_offered i (events_at i events))) (sym (filter-append (λ (v : Batch). i == v.writer) log (b ∷ []))) (longer_own events log b rest offered s i (i == b.writer) refl);
        caused = λ before e after split w.
            let n = offsets e.instance + count_given e.instance (before ++ e ∷ []) in
            let whole : events ≡ (before ++ e ∷ []) ++ after = split ∙ sym (append_assoc before (e ∷ []) after) in
            let grown : count_given e.instance events ≡ count_given e.instance ((before ++ e ∷ []) ++ after) = ap (λ v. count_given e.instance v) whole in
            let acted : HasActed e.instance events = acted_now before e after events split in
            let le : n ≤ length log = omega (arith, s.bound e.instance acted, grown, given_more e.instance (before ++ e ∷ []) after) in
            omega (arith, ap (λ v. length (batches_by w v)) (take-append-le n log (b ∷ []) le), s.caused before e after split w);
        end = s.end;
        within = λ i question count h. omega (arith, s.within i question count h, long);
        bound = λ i acted. omega (arith, s.bound i acted, long);
      }

  -- ---- any events

  none_acted : (i : ℕ) → HasActed i [] → ⊥
  none_acted i h = contains_none h.0 h.1

  nothing : Shares [] []
  nothing = record {
    one = λ i. (map entry_of_batch (drop (offsets i) []), refl);
    own = λ i. ([], refl);
    caused = λ before e after split w. nothing_split before e after split;
    end = λ i j before between after question count split acted. nothing_split before (event_of i (AsksForEnd question)) (between ++ event_of i (LearnsEnd question count) ∷ after) split;
    within = λ i question count h. contains_none (event_of i (LearnsEnd question count)) h;
    bound = λ i acted. absurd (none_acted i acted);
  }

  free_learns : (e : PoolEvent) → IsFree e.event → (i question count : ℕ) → e ≡ event_of i (LearnsEnd question count) → ⊥
  free_learns e free i question count is = subst (λ (v : PoolEvent). IsFree v.event) is free

  learns_count : (q r c d : ℕ) → LearnsEnd q c ≡ LearnsEnd r d → c ≡ d
  learns_count q r c d h = cc

  shares : (events : List PoolEvent) (log : List Batch) → AtomicLogFrom offsets events log → Shares events log
  shares _ _ NoneYet = nothing
  shares _ _ (ActsFreely events log e free le h) =
      acts events log e (shares events log h) (free_gives e.event free) le (λ i question count is. absurd (free_learns e free i question count is))
  shares _ _ (AcceptsNext events log b rest offered h) = longer events log b rest offered (shares events log h)
  shares _ _ (GivesNext events log i b there h) = gift events log i b (shares events log h) there
  shares _ _ (TellsCount events log i question count all h) =
      acts events log (event_of i (LearnsEnd question count)) (shares events log h) refl (omega (arith, all))
      (λ j other more is.
      let here : i ≡ j = ap (λ (v : PoolEvent). v.instance) is in
      let same : count ≡ more = learns_count question other count more (ap (λ (v : PoolEvent). v.event) is) in
      omega (arith, all, ap (λ v. offsets v) here, same))

pub atomic_from_pool : AtomicLogFromIsPool
atomic_from_pool offsets events log h starts =
    let s = shares offsets events log h in
    (record { log = log; starts = starts; one = s.one; own = s.own; caused = s.caused; end = s.end; within = s.within }, refl)

-- ---- an instance that answers behind its file

-- The second instance starts with one entry.
abbrev one_behind : ℕ → ℕ
one_behind i = cond (i == 2) 1 0

one_fits : (b : Bool) → cond b 1 0 ≤ 1
one_fits true = omega arith
one_fits false = omega arith

module _ (acts_of : List ℕ → List Act) (salt : List ℕ) (start : Airspace) (bytes : List ℕ) (timed read : TimedCall) (spells : acts_of bytes ≡ Makes timed ∷ []) where
  abbrev second : Airspace × Reply
  second = step salt (step salt start timed.0 timed.1).0 read.0 read.1

  abbrev first_batch : Batch
  first_batch = called acts_of salt start bytes timed read spells

  abbrev by_one : List PoolEvent
  by_one = calls_by_one acts_of salt start bytes timed read spells

  abbrev receives : PoolEvent
  receives = event_of 2 (Receives 1 read.1)

  abbrev asks : PoolEvent
  asks = event_of 2 (AsksForEnd 7)

  abbrev learns : PoolEvent
  learns = event_of 2 (LearnsEnd 7 0)

  abbrev answers : PoolEvent
  answers = event_of 2 (Answers 1 (AfterFirst 0 read) second.1)

  abbrev behind : List PoolEvent
  behind = by_one ++ receives ∷ asks ∷ learns ∷ answers ∷ []

  behind_atomic : AtomicLogFrom one_behind behind (first_batch ∷ [])
  behind_atomic =
      let log = first_batch ∷ [] in
      let one_receives = event_of 1 (Receives 1 timed.1) in
      let one_offers = event_of 1 (Offers (1 ∷ []) bytes) in
      let one_gets = event_of 1 (Gets (entry_of_batch first_batch)) in
      let one_answers = event_of 1 (Answers 1 InPlace (step salt start timed.0 timed.1).1) in
      let received = ActsFreely [] [] one_receives tt (omega arith) NoneYet in
      let offered = ActsFreely (one_receives ∷ []) [] one_offers tt (omega arith) received in
      let accepted = AcceptsNext (one_receives ∷ one_offers ∷ []) [] first_batch [] refl offered in
      let given = GivesNext (one_receives ∷ one_offers ∷ []) log 1 first_batch refl accepted in
      let answered = ActsFreely (one_receives ∷ one_offers ∷ one_gets ∷ []) log one_answers tt (omega arith) given in
      let also_received = ActsFreely by_one log receives tt (omega arith) answered in
      let asked = ActsFreely (by_one ++ receives ∷ []) log asks tt (omega arith) also_received in
      let told = TellsCount (by_one ++ receives ∷ asks ∷ []) log 2 7 0 refl asked in
      ActsFreely (by_one ++ receives ∷ asks ∷ learns ∷ []) log answers tt (omega arith) told

  behind_serves : second.0 ≡ (step salt start timed.0 timed.1).0 → ServesPool acts_of salt (file_of acts_of salt start (first_batch ∷ []) 1) 2 (events_at 2 behind)
  behind_serves inert = (
    λ other h. contains_none (Receives 1 other) h,
    (
      tt,
      (
        tt,
        (
          (
            record { received = is_open read.1 (AsksForEnd 7 ∷ LearnsEnd 7 0 ∷ []); unended = refl },
            record {
              unoffered = refl;
              given = omega arith;
              end = record { earlier = []; waiting = []; asking = []; later = []; question = 7; end = 0; events = refl; reached = omega arith };
              is_policy = subst (λ v. step salt (airspace_by salt start (v ++ [])) read.0 read.1 ≡ (airspace_by salt start (v ++ []), second.1)) (sym spells) (ap (λ (v : Airspace). (v, second.1)) inert);
            },
          ),
          tt,
        ),
      ),
    ),
  )

pub file_answers : FromFileCanAnswer
file_answers acts_of salt start bytes timed read spells inert = (
  behind acts_of salt start bytes timed read spells,
  record {
    offsets = one_behind;
    log = first_batch acts_of salt start bytes timed read spells ∷ [];
    atomic = behind_atomic acts_of salt start bytes timed read spells;
    starts = λ i. one_fits (i == 2);
    first = one_calls acts_of salt start bytes timed read spells;
    second = behind_serves acts_of salt start bytes timed read spells inert;
    behind = refl;
  },
  (3, omega arith, refl),
  (7, omega arith, refl),
)
