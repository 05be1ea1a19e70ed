-- Lemmas: the list of a pool whose instances start from files.
use Rattle.std.proofs.Common.{◌≡◌, ◌==◌, ℕ, ◌+◌, ◌≤◌, ◌⊎◌, Bool, true, false, List, [], ◌∷◌, ◌++◌, length, map, take, drop, refl, sym, ap, subst, ◌∙◌, append_assoc, arith, inl, inr, length-append}
use Rattle.std.specs.Prelude.{Contains, if◌then◌else◌}
use Rattle.std.proofs.Math.Seq.{take-add}
use Rattle.std.proofs.lemmas.List.{append-nil, drop-map, length-map, length-take-le, map-append, take-append-drop, take-append-le, take-map}
use Rattle.std.proofs.lemmas.List.Concat.{flat_map-append}
use Rattle.entity_core.specs.Airspace.{Airspace, empty_at}
use Rattle.service_step.specs.declared.reply.Reply.{Reply}
use Rattle.pool_core.specs.Acts.{Act, airspace_by}
use Rattle.pool_core.specs.Events.{Answers, AsksForEnd, Basis, Batch, Drops, Fails, Gets, InstanceEvent, LearnsEnd, Offers, PoolEvent, Receives, batch_in, batches_offered, entries_given, entry_in, events_at}
use Rattle.pool_core.specs.FromFiles.{FilesFollow, FromBeginning, FromFilesIsKnown, IsOneListFrom, IsPoolFrom, ListHasTimes, PoolFromFiles, file_of}
use Rattle.pool_core.specs.FromEmpty.{IsKnown}
use Rattle.pool_core.specs.Log.{LogEntry}
use Rattle.pool_core.specs.OneList.{AnsweredBefore, FailedUnsent, ListedAct, RequestName, at, listed_acts}
use Rattle.pool_core.specs.Pool.{IsPool, batches_by, count_given, count_offered, entry_of_batch}
use Rattle.pool_core.specs.Serves.{ServesPool, acts_in, airspace_at}
use Rattle.pool_core.proofs.Acts.{after_append}
use Rattle.pool_core.proofs.Known.{lists_known}
use Rattle.pool_core.proofs.Law.{log_held, one_list_holds}
use Rattle.pool_core.proofs.Places.{list}
use Rattle.pool_core.proofs.Projections.{at_append, event_of, given_append, lift, offered_append}
use Rattle.pool_core.proofs.Retold.{again, at_retold, contains_again, contains_happened, from_answers, gifts, retold, retold_append, retold_split, shifted_basis, told_at}
use Rattle.pool_core.proofs.Shared.{by_more, told_pool}
use Rattle.pool_core.proofs.Shifted.{serves_told}
use Rattle.pool_core.proofs.Timed.{made, made_happened}

module _ (acts_of : List ℕ → List Act) (salt : List ℕ) (start : Airspace) (offsets : ℕ → ℕ) (serves : ℕ → Bool) (events : List PoolEvent) (pool : IsPoolFrom offsets events)
    (served : (i : ℕ) → serves i ≡ true → ServesPool acts_of salt (file_of acts_of salt start pool.log (offsets i)) i (events_at i events)) where
  abbrev pub log : List Batch
  log = pool.log

  abbrev pub told : List PoolEvent → List PoolEvent
  told p = retold offsets pool.log [] p

  abbrev pub again_of : PoolEvent → PoolEvent
  again_of e = again offsets pool.log e

  -- ---- what serves from its file serves

  -- An instance has no own entry in its file.
  fresh : (i : ℕ) (e : InstanceEvent) (es : List InstanceEvent) → events_at i events ≡ e ∷ es → length (batches_by i (take (offsets i) log)) ≡ 0
  fresh i e es h =
      let l = lift i events [] e es h in
      let n = offsets i + count_given i (l.before ++ event_of i e ∷ []) in
      let none : count_offered i l.before ≡ 0 = ap (λ v. length (batches_offered i v)) l.befores in
      omega (arith, pool.caused l.before (event_of i e) l.after l.split i, by_more i (offsets i) n log (omega arith), none)

  served_case : (i : ℕ) (es : List InstanceEvent) → events_at i events ≡ es → ServesPool acts_of salt (file_of acts_of salt start log (offsets i)) i es → ServesPool acts_of salt start i (told_at offsets log i [] es)
  served_case i [] h s = tt
  served_case i (e ∷ es) h s = serves_told log (offsets i) acts_of salt start (pool.starts i) i (fresh i e es h) (e ∷ es) s

  pub served_told : (i : ℕ) → serves i ≡ true → ServesPool acts_of salt start i (events_at i (told events))
  served_told i s = subst (λ v. ServesPool acts_of salt start i v) (sym (at_retold offsets log i [] events)) (served_case i (events_at i events) refl (served i s))

  abbrev pub again_pool : IsPool (told events)
  again_pool = told_pool offsets events pool

  abbrev pub whole : List ListedAct
  whole = list acts_of salt start (told events) (told_pool offsets events pool) serves served_told

  -- ---- from the events, told so, to those that happened

  answer_happened : (x : RequestName) (basis : Basis) (reply : Reply) → Contains (told events) (at x (Answers x.id basis reply)) → (own : Basis) × Contains events (at x (Answers x.id own reply))
  answer_happened x basis reply h =
      let a = contains_happened offsets log events (at x (Answers x.id basis reply)) (λ entry clash. absurd cc) h in
      let own = from_answers (offsets a.one.instance) a.one.event x.id basis reply (ap (λ (v : PoolEvent). v.event) a.same) in
      let is : a.one ≡ at x (Answers x.id own.0 reply) = ap (λ v. event_of a.one.instance v) own.1 ∙ ap (λ (v : PoolEvent). event_of v.instance (Answers x.id own.0 reply)) a.same in
      (own.0, subst (λ v. Contains events v) is a.there)

  -- ---- from what happened to the events, told so

  failed_told : (x : RequestName) → FailedUnsent events x → FailedUnsent (told events) x
  failed_told x f =
      let i = x.instance in
      let e = at x (Drops x.id) in
      let g = gifts offsets log i (events_at i f.before) in
      record {
        before = told f.before ++ g;
        after = retold offsets log (f.before ++ e ∷ []) f.after;
        split = ap (λ v. told v) f.split ∙ retold_split offsets log f.before e f.after;
      }

  order_told : (x y : RequestName) → AnsweredBefore events x y → AnsweredBefore (told events) x y
  order_told x y d =
      let answer = at x (Answers x.id d.basis d.reply) in
      let receive = at y (Receives y.id d.call) in
      let p = d.before ++ answer ∷ [] in
      let between = retold offsets log p d.between ++ gifts offsets log y.instance (events_at y.instance (p ++ d.between)) in
      record {
        before = told d.before ++ gifts offsets log x.instance (events_at x.instance d.before);
        basis = shifted_basis (offsets x.instance) d.basis;
        reply = d.reply;
        between = between;
        call = d.call;
        after = retold offsets log ((p ++ d.between) ++ receive ∷ []) d.after;
        split = ap (λ v. told v) d.split ∙ retold_split offsets log d.before answer (d.between ++ receive ∷ d.after)
            ∙ ap (λ v. (told d.before ++ gifts offsets log x.instance (events_at x.instance d.before)) ++ again_of answer ∷ v)
            (retold_append offsets log p d.between (receive ∷ d.after)
            ∙ sym (append_assoc (retold offsets log p d.between) (gifts offsets log y.instance (events_at y.instance (p ++ d.between))) (again_of receive ∷ retold offsets log ((p ++ d.between) ++ receive ∷ []) d.after)));
      }

  -- ---- airspaces

  fits : (i count : ℕ) → count ≤ count_given i events → offsets i + count ≤ length log
  fits i count le =
      let b = pool.one i in
      omega (
        arith,
        le,
        ap (λ v. length v) b.1,
        length-append (entries_given (events_at i events)) b.0,
        length-map (drop (offsets i) log) entry_of_batch,
        ap (λ v. length v) (take-append-drop (offsets i) log),
        length-append (take (offsets i) log) (drop (offsets i) log),
        length-take-le (offsets i) log (pool.starts i),
      )

  held_entries : (i count : ℕ) → count ≤ count_given i events → take (offsets i + count) (map entry_of_batch log) ≡ map entry_of_batch (take (offsets i) log) ++ take count (entries_given (events_at i events))
  held_entries i count le =
      let b = pool.one i in
      let given = entries_given (events_at i events) in
      take-add (offsets i) count (map entry_of_batch log)
      ∙ ap (λ v. v ++ take count (drop (offsets i) (map entry_of_batch log))) (take-map entry_of_batch (offsets i) log)
      ∙ ap (λ v. map entry_of_batch (take (offsets i) log) ++ take count v) (drop-map entry_of_batch (offsets i) log ∙ b.1)
      ∙ ap (λ v. map entry_of_batch (take (offsets i) log) ++ v) (take-append-le count given b.0 le)

  held : (i count : ℕ) → count ≤ count_given i events → (n : ℕ)
      × (airspace_by salt start (listed_acts (take n whole)) ≡ airspace_at acts_of salt (file_of acts_of salt start log (offsets i)) (entries_given (events_at i events)) count)
  held i count le =
      let h = log_held acts_of salt start (told events) (told_pool offsets events pool) serves served_told (offsets i + count) (fits i count le) in
      let front = map entry_of_batch (take (offsets i) log) in
      let given = take count (entries_given (events_at i events)) in (
        h.0,
        h.1 ∙ ap (λ v. airspace_by salt start (acts_in acts_of v)) (held_entries i count le)
            ∙ ap (λ v. airspace_by salt start v) (flat_map-append (λ (e : LogEntry). acts_of e.bytes) front given)
            ∙ after_append salt start (acts_in acts_of front) (acts_in acts_of given),
      )

  pub list_holds : IsOneListFrom acts_of salt start offsets serves events log whole
  list_holds =
      let l = one_list_holds acts_of salt start (told events) (told_pool offsets events pool) serves served_told in
      record {
        logged = l.logged;
        others = λ n listed there unlogged.
            let o = l.others n listed there unlogged in
            let a = answer_happened o.1 o.4.0 o.4.1 o.4.2 in
            (o.0, o.1, o.2, o.3, (a.0, o.4.1, a.1));
        made = λ x s n stands.
            let m = made acts_of salt start (told events) (told_pool offsets events pool) serves served_told x s n stands in
            (m.0, m.1, made_happened offsets log acts_of events x m.0 m.2);
        answered = λ x basis reply s h. l.answered x (shifted_basis (offsets x.instance) basis) reply s (contains_again offsets log events (at x (Answers x.id basis reply)) h);
        once = l.once;
        unsent = λ x s f n stands. l.unsent x s (failed_told x f) n stands;
        order = λ x y sx sy d n k a b. l.order x y sx sy (order_told x y d) n k a b;
        held = held;
      }

pub from_files : PoolFromFiles
from_files acts_of salt start offsets serves events pool served = (whole acts_of salt start offsets serves events pool served, list_holds acts_of salt start offsets serves events pool served)

pub list_has_times : ListHasTimes
list_has_times acts_of salt start offsets readings serves events all acts one takes x s n stands =
    let m = one.made x s n stands in
    (m.0, m.1, m.2, takes x.instance s m.2.before m.2.event m.2.after m.2.split x.id m.0 m.2.makes)

pub from_files_known : FromFilesIsKnown
from_files_known acts_of salt serial offsets serves events all acts one i count le =
    let h = one.held i count le in
    (h.0, subst (λ (a : Airspace). IsKnown salt (empty_at serial) (listed_acts (take h.0 acts)) a) h.1 (lists_known salt serial (listed_acts (take h.0 acts))))

-- ---- files

pub files_follow : FilesFollow
files_follow acts_of salt start all offset count entries b le =
    let front = map entry_of_batch (take offset all) in
    let these : map entry_of_batch (take count (drop offset all)) ≡ take count entries =
    sym (take-map entry_of_batch count (drop offset all)) ∙ ap (λ v. take count v) b.1 ∙ take-append-le count entries b.0 le in
    let split : map entry_of_batch (take (offset + count) all) ≡ front ++ take count entries =
    ap (λ v. map entry_of_batch v) (take-add offset count all) ∙ map-append entry_of_batch (take offset all) (take count (drop offset all)) ∙ ap (λ v. front ++ v) these in
    sym (
    ap (λ v. airspace_by salt start (acts_in acts_of v)) split
    ∙ ap (λ v. airspace_by salt start v) (flat_map-append (λ (e : LogEntry). acts_of e.bytes) front (take count entries))
    ∙ after_append salt start (acts_in acts_of front) (acts_in acts_of (take count entries))
    )

-- ---- all from the beginning

given_in : (t : Bool) (e : InstanceEvent) → entry_in e ≡ [] → entries_given ((if t then e ∷ [] else []) ++ []) ≡ []
given_in true e h = ap (λ v. v ++ []) h
given_in false e h = refl

given_still : (i : ℕ) (before : List PoolEvent) (e : PoolEvent) → entry_in e.event ≡ [] → count_given i (before ++ e ∷ []) ≡ count_given i before
given_still i before e h =
    ap (λ v. length (entries_given v)) (at_append i before (e ∷ []))
    ∙ ap (λ v. length v) (given_append (events_at i before) (events_at i (e ∷ [])))
    ∙ ap (λ v. length (entries_given (events_at i before) ++ v)) (given_in (i == e.instance) e.event h)
    ∙ ap (λ v. length v) (append-nil (entries_given (events_at i before)))

offered_in_one : (w : ℕ) (t : Bool) (e : InstanceEvent) → batch_in w e ≡ [] → batches_offered w ((if t then e ∷ [] else []) ++ []) ≡ []
offered_in_one w true e h = ap (λ v. v ++ []) h
offered_in_one w false e h = refl

offered_still : (w : ℕ) (before : List PoolEvent) (e : PoolEvent) → batch_in w e.event ≡ [] → count_offered w (before ++ e ∷ []) ≡ count_offered w before
offered_still w before e h =
    ap (λ v. length (batches_offered w v)) (at_append w before (e ∷ []))
    ∙ ap (λ v. length v) (offered_append w (events_at w before) (events_at w (e ∷ [])))
    ∙ ap (λ v. length (batches_offered w (events_at w before) ++ v)) (offered_in_one w (w == e.instance) e.event h)
    ∙ ap (λ v. length v) (append-nil (batches_offered w (events_at w before)))

-- An event is not both of an entry and of an offer.
not_both : (w : ℕ) (e : InstanceEvent) → (entry_in e ≡ []) ⊎ (batch_in w e ≡ [])
not_both w (Receives id call) = inl refl
not_both w (Offers ids bytes) = inl refl
not_both w (Gets entry) = inr refl
not_both w (AsksForEnd question) = inl refl
not_both w (LearnsEnd question count) = inl refl
not_both w (Answers id basis reply) = inl refl
not_both w (Fails id) = inl refl
not_both w (Drops id) = inl refl

beginning_caused : (events : List PoolEvent) (pool : IsPool events) (before : List PoolEvent) (e : PoolEvent) (after : List PoolEvent) → events ≡ before ++ e ∷ after → (w : ℕ)
    → length (batches_by w (take (0 + count_given e.instance (before ++ e ∷ [])) pool.log)) ≤ count_offered w before
beginning_caused events pool before e after split w = elim (not_both w e.event) [
  | inl none ↦
      let n : 0 + count_given e.instance (before ++ e ∷ []) ≡ count_given e.instance before = omega (arith, given_still e.instance before e none) in
      omega (arith, ap (λ v. length (batches_by w (take v pool.log))) n, pool.caused before (e ∷ after) split e.instance w)
  | inr none ↦
      let n : 0 + count_given e.instance (before ++ e ∷ []) ≡ count_given e.instance (before ++ e ∷ []) = omega arith in
      omega (arith, ap (λ v. length (batches_by w (take v pool.log))) n, pool.caused (before ++ e ∷ []) after (split ∙ sym (append_assoc before (e ∷ []) after)) e.instance w, offered_still w before e none)
]

pub from_beginning : FromBeginning
from_beginning events pool = (
  record {
    log = pool.log;
    starts = λ i. omega arith;
    one = pool.one;
    own = pool.own;
    caused = beginning_caused events pool;
    end = λ i j before between after question count split acted. omega (arith, pool.end i j before between after question count split);
    within = λ i question count h. omega (arith, pool.within i question count h);
  },
  refl,
)
