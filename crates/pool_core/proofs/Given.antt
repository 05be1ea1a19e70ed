-- Lemmas: what instances were given, when a request stands late, and the airspaces along the log.
use Rattle.std.proofs.Common.{◌≡◌, ◌==◌, ℕ, zero, suc, ◌-◌, ◌≤◌, ◌⊎◌, cond, List, [], ◌∷◌, ◌++◌, length, map, take, Some, slice_get, refl, sym, ap, subst, ◌∙◌, append_assoc, arith, inl, inr, length-append}
use Rattle.std.specs.Prelude.{Contains}
use Rattle.std.proofs.lemmas.List.{append-nil, length-map, map-append, take-append-le, take_at}
use Rattle.std.proofs.lemmas.List.Concat.{flat_map-append}
use Rattle.std.proofs.lemmas.List.Elements.{Contains-append_left, filter-append}
use Rattle.entity_core.specs.Airspace.{Airspace}
use Rattle.policy_core.specs.declared.call.Call.{Call}
use Rattle.pool_core.specs.Acts.{Act, airspace_by}
use Rattle.pool_core.specs.Events.{Batch, Offers, PoolEvent, Receives, batches_offered, entries_given, events_at}
use Rattle.pool_core.specs.Log.{LogEntry}
use Rattle.pool_core.specs.Pool.{IsPool, batches_by, count_given, count_offered, entry_of_batch}
use Rattle.pool_core.specs.Serves.{airspace_at, acts_in}
use Rattle.pool_core.proofs.Acts.{after_append}
use Rattle.pool_core.proofs.Lists.{contains_same, fits_or_more, get_split, prefixes}
use Rattle.pool_core.proofs.Projections.{at_append, event_of, given_append, lift, offer_at, offered_append, same_number}
use Rattle.pool_core.proofs.Readings.{given_most, most_given, most_least}

-- ---- beginnings of the events

pub given_more : (j : ℕ) (p r : List PoolEvent) → count_given j p ≤ count_given j (p ++ r)
given_more j p r =
    let e : entries_given (events_at j (p ++ r)) ≡ entries_given (events_at j p) ++ entries_given (events_at j r) =
    ap (λ v. entries_given v) (at_append j p r) ∙ given_append (events_at j p) (events_at j r) in
    omega (arith, ap (λ v. length v) e, length-append (entries_given (events_at j p)) (entries_given (events_at j r)))

pub offered_more : (j : ℕ) (p r : List PoolEvent) → count_offered j p ≤ count_offered j (p ++ r)
offered_more j p r =
    let e : batches_offered j (events_at j (p ++ r)) ≡ batches_offered j (events_at j p) ++ batches_offered j (events_at j r) =
    ap (λ v. batches_offered j v) (at_append j p r) ∙ offered_append j (events_at j p) (events_at j r) in
    omega (arith, ap (λ v. length v) e, length-append (batches_offered j (events_at j p)) (batches_offered j (events_at j r)))

pub most_more : (p r : List PoolEvent) → most_given p ≤ most_given (p ++ r)
most_more p r = most_least p (most_given (p ++ r)) (λ j. omega (arith, given_more j p r, given_most j (p ++ r)))

-- A beginning in which a request was not received yet is before one in which it was.
pub earlier_than : (i id : ℕ) (call : Call) (p q b a : List PoolEvent) → p ++ q ≡ b ++ a → ((c : Call) → Contains (events_at i p) (Receives id c) → ⊥) → Contains (events_at i b) (Receives id call)
    → (r : List PoolEvent) × (b ≡ p ++ r)
earlier_than i id call p q b a same new received = elim (prefixes p q b a same) [
  | inl u ↦ (u.0, u.1)
  | inr u ↦ absurd (new call (contains_same (events_at i p) (events_at i b ++ events_at i u.0) (Receives id call) (ap (λ v. events_at i v) u.1 ∙ at_append i b u.0) (Contains-append_left (events_at i b) (events_at i u.0) (Receives id call) received)))
]

pub take_past : (xs : List Batch) (b : Batch) (ys : List Batch) (n : ℕ) → suc (length xs) ≤ n → take n (xs ++ b ∷ ys) ≡ xs ++ b ∷ take (n - suc (length xs)) ys
take_past [] b ys zero le = absurd (omega (arith, le))
take_past [] b ys (suc n) le = let e : n ≡ suc n - 1 = omega arith in ap (λ v. b ∷ take v ys) e
take_past (x ∷ xs) b ys zero le = absurd (omega (arith, le))
take_past (x ∷ xs) b ys (suc n) le =
    let e : n - suc (length xs) ≡ suc n - suc (suc (length xs)) = omega arith in
    ap (λ v. x ∷ v) (take_past xs b ys n (omega (arith, le))) ∙ ap (λ v. x ∷ (xs ++ b ∷ take v ys)) e

module _ (acts_of : List ℕ → List Act) (salt : List ℕ) (start : Airspace) (events : List PoolEvent) (pool : IsPool events) where
  abbrev pub entries : List LogEntry
  entries = map entry_of_batch pool.log

  abbrev pub state : ℕ → Airspace
  state n = airspace_at acts_of salt start entries n

  -- ---- what was given

  pub given_front : (i : ℕ) (before after : List PoolEvent) → events ≡ before ++ after → (rest : List LogEntry) × (entries ≡ entries_given (events_at i before) ++ rest)
  given_front i before after split =
      let these = entries_given (events_at i before) in
      let those = entries_given (events_at i after) in
      let e : entries_given (events_at i events) ≡ these ++ those = ap (λ v. entries_given (events_at i v)) split ∙ ap (λ v. entries_given v) (at_append i before after) ∙ given_append (events_at i before) (events_at i after) in
      (those ++ (pool.one i).0, (pool.one i).1 ∙ ap (λ v. v ++ (pool.one i).0) e ∙ append_assoc these those (pool.one i).0)

  pub given_fits : (i : ℕ) (before after : List PoolEvent) → events ≡ before ++ after → count_given i before ≤ length pool.log
  given_fits i before after split =
      let f = given_front i before after split in
      omega (arith, ap (λ v. length v) f.1, length-append (entries_given (events_at i before)) f.0, length-map pool.log entry_of_batch)

  pub given_take : (i : ℕ) (before after : List PoolEvent) → events ≡ before ++ after → (n : ℕ) → n ≤ count_given i before → take n (entries_given (events_at i before)) ≡ take n entries
  given_take i before after split n le =
      let f = given_front i before after split in
      sym (take-append-le n (entries_given (events_at i before)) f.0 le) ∙ ap (λ v. take n v) (sym f.1)

  -- ---- airspaces along the log

  pub front_take : (xs ys : List Batch) → pool.log ≡ xs ++ ys → take (length xs) entries ≡ map entry_of_batch xs
  front_take xs ys split =
      ap (λ v. take (length xs) (map entry_of_batch v)) split ∙ ap (λ v. take (length xs) v) (map-append entry_of_batch xs ys)
      ∙ take_at (map entry_of_batch xs) (map entry_of_batch ys) (length xs) (length-map xs entry_of_batch)

  pub next_state : (xs : List Batch) (b : Batch) (ys : List Batch) → pool.log ≡ xs ++ b ∷ ys → airspace_by salt (state (length xs)) (acts_of b.bytes) ≡ state (suc (length xs))
  next_state xs b ys split =
      let more = front_take (xs ++ b ∷ []) ys (split ∙ sym (append_assoc xs (b ∷ []) ys)) in
      let long : length (xs ++ b ∷ []) ≡ suc (length xs) = omega (arith, length-append xs (b ∷ [])) in
      let calls : acts_in acts_of (map entry_of_batch (xs ++ b ∷ [])) ≡ acts_in acts_of (map entry_of_batch xs) ++ acts_of b.bytes =
      ap (λ v. acts_in acts_of v) (map-append entry_of_batch xs (b ∷ [])) ∙ flat_map-append (λ (e : LogEntry). acts_of e.bytes) (map entry_of_batch xs) (entry_of_batch b ∷ [])
      ∙ ap (λ v. acts_in acts_of (map entry_of_batch xs) ++ v) (append-nil (acts_of b.bytes)) in
      ap (λ v. airspace_by salt (airspace_by salt start (acts_in acts_of v)) (acts_of b.bytes)) (front_take xs (b ∷ ys) split)
      ∙ sym (after_append salt start (acts_in acts_of (map entry_of_batch xs)) (acts_of b.bytes))
      ∙ ap (λ v. airspace_by salt start v) (sym calls)
      ∙ ap (λ v. airspace_by salt start (acts_in acts_of v)) (sym more)
      ∙ ap (λ v. state v) long

  pub state_steps : (n m : ℕ) (b : Batch) → slice_get pool.log n ≡ Some b → m ≡ n → airspace_by salt (state m) (acts_of b.bytes) ≡ state (suc m)
  state_steps n m b h e =
      let s = get_split pool.log n b h in
      subst (λ v. airspace_by salt (state v) (acts_of b.bytes) ≡ state (suc v)) (s.at ∙ sym e) (next_state s.front b s.back s.split)

  -- ---- batches

  pub by_split : (w : ℕ) (xs : List Batch) (b : Batch) (ys : List Batch) → b.writer ≡ w → batches_by w (xs ++ b ∷ ys) ≡ batches_by w xs ++ b ∷ batches_by w ys
  by_split w xs b ys is =
      filter-append (λ (v : Batch). w == v.writer) xs (b ∷ ys)
      ∙ ap (λ t. batches_by w xs ++ cond t (b ∷ batches_by w ys) (batches_by w ys)) (ap (λ v. w == v) is ∙ same_number w)

  -- The offer of a batch in the log.
  pub record Offer (xs : List Batch) (b : Batch) : Type 0 where
    pub before : List PoolEvent
    pub after : List PoolEvent
    pub split : events ≡ before ++ event_of b.writer (Offers b.ids b.bytes) ∷ after
    pub count : count_offered b.writer before ≡ length (batches_by b.writer xs)

  pub offer_of : (xs : List Batch) (b : Batch) (ys : List Batch) → pool.log ≡ xs ++ b ∷ ys → Offer xs b
  offer_of xs b ys split =
      let w = b.writer in
      let own = pool.own w in
      let e : batches_offered w (events_at w events) ≡ batches_by w xs ++ b ∷ (batches_by w ys ++ own.0) =
      own.1 ∙ ap (λ v. batches_by w v ++ own.0) split ∙ ap (λ v. v ++ own.0) (by_split w xs b ys refl) ∙ append_assoc (batches_by w xs) (b ∷ batches_by w ys) own.0 in
      let o = offer_at w (events_at w events) (batches_by w xs) b (batches_by w ys ++ own.0) e in
      let l = lift w events o.before (Offers b.ids b.bytes) o.after o.split in
      record {
        before = l.before;
        after = l.after;
        split = l.split;
        count = ap (λ v. length (batches_offered w v)) l.befores ∙ ap (λ v. length v) o.befores;
      }

  take_more : (w n : ℕ) (xs : List Batch) (b : Batch) (ys : List Batch) → b.writer ≡ w → suc (length xs) ≤ n → suc (length (batches_by w xs)) ≤ length (batches_by w (take n (xs ++ b ∷ ys)))
  take_more w n xs b ys is le =
      let e : take n (xs ++ b ∷ ys) ≡ xs ++ b ∷ take (n - suc (length xs)) ys = take_past xs b ys n le in
      omega (
        arith,
        ap (λ v. length (batches_by w v)) e,
        ap (λ v. length v) (by_split w xs b (take (n - suc (length xs)) ys) is),
        length-append (batches_by w xs) (b ∷ batches_by w (take (n - suc (length xs)) ys)),
      )

  late_one : (xs : List Batch) (b : Batch) (ys : List Batch) → pool.log ≡ xs ++ b ∷ ys → (p q : List PoolEvent) → events ≡ p ++ q → (o : Offer xs b) → (r : List PoolEvent) × (o.before ≡ p ++ r)
      → (j : ℕ) → (count_given j p ≤ length xs) ⊎ (suc (length xs) ≤ count_given j p) → count_given j p ≤ length xs
  late_one xs b ys split p q cut o r j (inl le) = le
  late_one xs b ys split p q cut o r j (inr more) =
      let caused = pool.caused p q cut j b.writer in
      let there : length (batches_by b.writer (take (count_given j p) pool.log)) ≡ length (batches_by b.writer (take (count_given j p) (xs ++ b ∷ ys))) = ap (λ v. length (batches_by b.writer (take (count_given j p) v))) split in
      let grown : count_offered b.writer o.before ≡ count_offered b.writer (p ++ r.0) = ap (λ v. count_offered b.writer v) r.1 in
      absurd (omega (arith, caused, there, grown, o.count, offered_more b.writer p r.0, take_more b.writer (count_given j p) xs b ys refl more))

  -- A request that was not received in a beginning of the events is in no batch that anybody was given by then.
  pub offered_late : (xs : List Batch) (b : Batch) (ys : List Batch) → pool.log ≡ xs ++ b ∷ ys → (p q : List PoolEvent) → events ≡ p ++ q → (o : Offer xs b) → (r : List PoolEvent) × (o.before ≡ p ++ r)
      → most_given p ≤ length xs
  offered_late xs b ys split p q cut o r = most_least p (length xs) (λ j. late_one xs b ys split p q cut o r j (fits_or_more (count_given j p) (length xs)))
