-- Lemmas: where the request of an answer stands, and its reply there.
use Rattle.std.proofs.Common.{◌≡◌, ◌==◌, ℕ, suc, ◌+◌, ◌<◌, Bool, true, cond, List, [], ◌∷◌, ◌++◌, length, map, take, drop, Option, Some, slice_get, refl, sym, ap, subst, ◌∙◌, append_assoc, arith, length-append}
use Rattle.std.specs.Prelude.{Contains, count_by}
use Rattle.std.proofs.lemmas.List.{length-map, length-take-le, map-append, take-append-drop, take_at}
use Rattle.std.proofs.lemmas.List.Concat.{flat_map-append}
use Rattle.std.proofs.lemmas.List.Elements.{Contains-append_left}
use Rattle.std.proofs.lemmas.List.Sums.{length-filter}
use Rattle.entity_core.specs.Airspace.{Airspace}
use Rattle.service_step.specs.declared.reply.Reply.{Reply}
use Rattle.service_calls.specs.Run.{TimedCall}
use Rattle.pool_core.specs.Acts.{Act, Makes, act_step, airspace_by, replies_by}
use Rattle.pool_core.specs.Events.{Answers, Basis, Batch, PoolEvent, batches_offered, entries_given, events_at}
use Rattle.pool_core.specs.Log.{LogEntry}
use Rattle.pool_core.specs.OneList.{ListedAct, RequestName, StandsWith, at, listed_acts}
use Rattle.pool_core.specs.Pool.{IsPool, batches_by, count_given, entry_of_batch}
use Rattle.pool_core.specs.Serves.{IsReplyInPlace, ServesPool, acts_in}
use Rattle.pool_core.proofs.Acts.{after_append, reply_at}
use Rattle.pool_core.proofs.Build.{at_slot, batch_acts, in_slot, listed_at, listed_act, one_cut, one_head, one_list, slot_split, tail_from, upto}
use Rattle.pool_core.proofs.Facts.{may_offer, open_get, reading_fact}
use Rattle.pool_core.proofs.Given.{by_split, entries, given_front, offer_of, state, state_steps, front_take}
use Rattle.pool_core.proofs.Lists.{count_cons, contains_same, get_at, get_more, get_split, map_split, some_same}
use Rattle.pool_core.proofs.Projections.{at_append, offered_append}
use Rattle.pool_core.proofs.Readings.{IsBasis, Reading, Source, reading, reading_in, readings, readings_append, source}
use Rattle.pool_core.proofs.States.{after_inert, upto_state}

count_map : {X Y : Type 0} (f : X → Y) (p : Y → Bool) (xs : List X) → count_by p (map f xs) ≡ count_by (λ x. p (f x)) xs
count_map f p [] = refl
count_map f p (x ∷ xs) = count_cons p (f x) (map f xs) ∙ ap (λ v. cond (p (f x)) 1 0 + v) (count_map f p xs) ∙ sym (count_cons (λ y. p (f y)) x xs)

pub same_fronts : {X : Type 0} (p a q b : List X) → length p ≡ length q → p ++ a ≡ q ++ b → p ≡ q
same_fronts p a q b long h = sym (take_at p a (length q) long) ∙ ap (λ v. take (length q) v) h ∙ take_at q b (length q) refl

-- The acts of entries around an act of one of them.
acts_around : (acts_of : List ℕ → List Act) (g f : List LogEntry) (entry : LogEntry) (k : List LogEntry) (front : List Batch) (b : Batch) (before : List Act) (act : Act) (after : List Act)
    → g ≡ f ++ entry ∷ k → map entry_of_batch front ≡ f → entry_of_batch b ≡ entry → acts_of b.bytes ≡ before ++ act ∷ after
    → acts_in acts_of g ≡ (acts_in acts_of (map entry_of_batch front) ++ before) ++ act ∷ (after ++ acts_in acts_of k)
acts_around acts_of g f entry k front b before act after split fronts same acts =
    let first = acts_in acts_of (map entry_of_batch front) in
    ap (λ v. acts_in acts_of v) split ∙ flat_map-append (λ (e : LogEntry). acts_of e.bytes) f (entry ∷ k)
    ∙ ap (λ v. acts_in acts_of v ++ (acts_of entry.bytes ++ acts_in acts_of k)) (sym fronts)
    ∙ ap (λ v. first ++ (v ++ acts_in acts_of k)) (sym (ap (λ (v : LogEntry). acts_of v.bytes) same) ∙ acts)
    ∙ ap (λ v. first ++ v) (append_assoc before (act ∷ after) (acts_in acts_of k))
    ∙ sym (append_assoc first before (act ∷ (after ++ acts_in acts_of k)))

-- The reply at a place of a list.
policy_at : (salt : List ℕ) (start : Airspace) (acts before : List Act) (act : Act) (after : List Act) (n : ℕ) (reply : Reply) → slice_get (replies_by salt start acts) n ≡ Some (Some reply)
    → acts ≡ before ++ act ∷ after → n ≡ length before → (act_step salt (airspace_by salt start before) act).1 ≡ Some reply
policy_at salt start acts before act after n reply h split at_n =
    some_same (act_step salt (airspace_by salt start before) act).1 (Some reply)
    (sym (reply_at salt start before act after) ∙ sym (ap (λ v. slice_get (replies_by salt start (before ++ act ∷ after)) v) at_n) ∙ sym (ap (λ v. slice_get (replies_by salt start v) n) split) ∙ h)

module _ (acts_of : List ℕ → List Act) (salt : List ℕ) (start : Airspace) (events : List PoolEvent) (pool : IsPool events) (serves : ℕ → Bool)
    (served : (i : ℕ) → serves i ≡ true → ServesPool acts_of salt start i (events_at i events)) where
  abbrev pub rs : List Reading
  rs = readings serves [] events

  abbrev pub list : List ListedAct
  list = one_list acts_of rs 0 pool.log

  abbrev pub after : ℕ → Airspace
  after n = state acts_of salt start events pool n

  -- ---- airspaces along the list

  pub inert_slot : (n : ℕ) (c : ListedAct) → Contains (at_slot n rs) c → (act_step salt (after n) c.act).0 ≡ after n
  inert_slot n c h =
      let s = in_slot n rs c h in
      let f = reading_fact acts_of salt start events pool serves served s.one (source serves [] events s.one s.among) in
      let same : (act_step salt (after s.one.slot) s.one.call.act).0 ≡ after s.one.slot = ap (λ (v : Airspace × Option Reply). v.0) f.inert in
      subst (λ (v : ListedAct). (act_step salt (after n) v.act).0 ≡ after n) s.call
      (subst (λ (v : ℕ). (act_step salt (after v) s.one.call.act).0 ≡ after v) s.slot same)

  pub state_upto : (xs ys : List Batch) → pool.log ≡ xs ++ ys → airspace_by salt start (listed_acts (upto acts_of rs 0 xs)) ≡ after (length xs)
  state_upto xs ys split =
      let e : 0 + length xs ≡ length xs = omega arith in
      upto_state salt acts_of rs after inert_slot 0 xs (λ n m b g w. state_steps acts_of salt start events pool n m b (ap (λ v. slice_get v n) split ∙ get_more xs ys n b g) (omega (arith, w)))
      ∙ ap after e

  pub list_cut : (xs ys : List Batch) → pool.log ≡ xs ++ ys → list ≡ upto acts_of rs 0 xs ++ (at_slot (length xs) rs ++ tail_from acts_of rs (length xs) ys)
  list_cut xs ys split =
      ap (λ v. one_list acts_of rs 0 v) split ∙ one_cut acts_of rs 0 (length xs) xs ys (omega arith) ∙ ap (λ v. upto acts_of rs 0 xs ++ v) (one_head acts_of rs (length xs) ys)

  pub log_cut : (n : ℕ) → pool.log ≡ take n pool.log ++ drop n pool.log
  log_cut n = sym (take-append-drop n pool.log)

  -- An act behind a part of the list, with its reply.
  pub stands_with : (x : RequestName) (reply : Reply) (front : List ListedAct) (call : ListedAct) (back : List ListedAct) → list ≡ front ++ call ∷ back → call.request ≡ Some x
      → (act_step salt (airspace_by salt start (listed_acts front)) call.act).1 ≡ Some reply → StandsWith acts_of salt start list x reply
  stands_with x reply front call back split named is =
      let acts : listed_acts list ≡ listed_acts front ++ call.act ∷ listed_acts back = ap (λ v. listed_acts v) split ∙ map-append (λ (c : ListedAct). c.act) front (call ∷ back) in
      let there : slice_get list (length front) ≡ Some call = ap (λ v. slice_get v (length front)) split ∙ get_at front call back in
      record {
        position = length front;
        stands = record { listed = call; there = there; of = named };
        is_policy =
            ap (λ v. slice_get (replies_by salt start v) (length front)) acts
            ∙ ap (λ n. slice_get (replies_by salt start (listed_acts front ++ call.act ∷ listed_acts back)) n) (sym (length-map front (λ (c : ListedAct). c.act)))
            ∙ reply_at salt start (listed_acts front) call.act (listed_acts back)
            ∙ ap (λ v. Some v) is;
      }

  -- ---- readings

  -- The reading that an answer makes.
  pub record ReadingAt (earlier later : List PoolEvent) (x : RequestName) (basis : Basis) (reply : Reply) : Type 0 where
    pub slot : ℕ
    pub timed : TimedCall
    pub is_basis : IsBasis earlier basis slot (Makes timed)
    pub made : reading_in serves earlier x.instance (Answers x.id basis reply) ≡ reading x.instance x.id slot timed ∷ []

  pub reading_split : (earlier later : List PoolEvent) (x : RequestName) (basis : Basis) (reply : Reply) → events ≡ earlier ++ at x (Answers x.id basis reply) ∷ later → (m : ReadingAt earlier later x basis reply)
      → rs ≡ readings serves [] earlier ++ reading x.instance x.id m.slot m.timed ∷ readings serves (earlier ++ at x (Answers x.id basis reply) ∷ []) later
  reading_split earlier later x basis reply split m =
      ap (λ v. readings serves [] v) split ∙ readings_append serves [] earlier (at x (Answers x.id basis reply) ∷ later)
      ∙ ap (λ v. readings serves [] earlier ++ (v ++ readings serves (earlier ++ at x (Answers x.id basis reply) ∷ []) later)) m.made

  pub reading_source : (earlier later : List PoolEvent) (x : RequestName) (basis : Basis) (reply : Reply) → serves x.instance ≡ true → events ≡ earlier ++ at x (Answers x.id basis reply) ∷ later → (m : ReadingAt earlier later x basis reply)
      → Source serves [] events (reading x.instance x.id m.slot m.timed)
  reading_source earlier later x basis reply s split m = record {
    earlier = earlier;
    instance = x.instance;
    id = x.id;
    basis = basis;
    reply = reply;
    later = later;
    split = split;
    serves_it = s;
    is_basis = m.is_basis;
    request = refl;
    unlogged = refl;
  }

  pub stands_reading : (earlier later : List PoolEvent) (x : RequestName) (basis : Basis) (reply : Reply) → serves x.instance ≡ true → events ≡ earlier ++ at x (Answers x.id basis reply) ∷ later
      → ReadingAt earlier later x basis reply → StandsWith acts_of salt start list x reply
  unfolding reading_source
  stands_reading earlier later x basis reply s split m =
      let r = reading x.instance x.id m.slot m.timed in
      let f = reading_fact acts_of salt start events pool serves served r (reading_source earlier later x basis reply s split m) in
      let n = m.slot in
      let xs = take n pool.log in
      let ys = drop n pool.log in
      let long : length xs ≡ n = length-take-le n pool.log f.fits in
      let r1 = readings serves [] earlier in
      let r2 = readings serves (earlier ++ at x (Answers x.id basis reply) ∷ []) later in
      let whole : rs ≡ r1 ++ r ∷ r2 = reading_split earlier later x basis reply split m in
      let slots : at_slot n rs ≡ at_slot n r1 ++ r.call ∷ at_slot n r2 = ap (λ v. at_slot n v) whole ∙ slot_split n r1 r r2 refl in
      let front = upto acts_of rs 0 xs ++ at_slot n r1 in
      let back = at_slot n r2 ++ tail_from acts_of rs (length xs) ys in
      let parts : list ≡ front ++ r.call ∷ back =
      list_cut xs ys (log_cut n)
      ∙ ap (λ v. upto acts_of rs 0 xs ++ (at_slot v rs ++ tail_from acts_of rs (length xs) ys)) long
      ∙ ap (λ v. upto acts_of rs 0 xs ++ (v ++ tail_from acts_of rs (length xs) ys)) slots
      ∙ ap (λ v. upto acts_of rs 0 xs ++ v) (append_assoc (at_slot n r1) (r.call ∷ at_slot n r2) (tail_from acts_of rs (length xs) ys))
      ∙ sym (append_assoc (upto acts_of rs 0 xs) (at_slot n r1) (r.call ∷ back)) in
      let still : airspace_by salt (after n) (listed_acts (at_slot n r1)) ≡ after n =
      after_inert salt (after n) (at_slot n r1) (λ c h. inert_slot n c (contains_same (at_slot n rs) (at_slot n r1 ++ r.call ∷ at_slot n r2) c slots (Contains-append_left (at_slot n r1) (r.call ∷ at_slot n r2) c h))) in
      let there : airspace_by salt start (listed_acts front) ≡ after n =
      ap (λ v. airspace_by salt start v) (map-append (λ (c : ListedAct). c.act) (upto acts_of rs 0 xs) (at_slot n r1))
      ∙ after_append salt start (listed_acts (upto acts_of rs 0 xs)) (listed_acts (at_slot n r1))
      ∙ ap (λ v. airspace_by salt v (listed_acts (at_slot n r1))) (state_upto xs ys (log_cut n) ∙ ap after long) ∙ still in
      stands_with x reply front r.call back parts refl (ap (λ v. (act_step salt v (Makes m.timed)).1) there ∙ ap (λ (v : Airspace × Option Reply). v.1) f.inert)

  -- ---- calls in the log

  -- The place of a call in the log.
  pub record Place (earlier : List PoolEvent) (x : RequestName) (reply : Reply) : Type 0 where
    pub front : List Batch
    pub batch : Batch
    pub back : List Batch
    pub split : pool.log ≡ front ++ batch ∷ back
    pub given : length front < count_given x.instance earlier
    pub writer : batch.writer ≡ x.instance
    pub position : ℕ
    pub timed : TimedCall
    pub id : slice_get batch.ids position ≡ Some x.id
    pub there : slice_get (acts_of batch.bytes) position ≡ Some (Makes timed)
    pub before : List Act
    pub after : List Act
    pub acts : acts_of batch.bytes ≡ before ++ Makes timed ∷ after
    pub at_position : length before ≡ position
    pub is_policy : (act_step salt (airspace_by salt start (acts_in acts_of (map entry_of_batch front) ++ before)) (Makes timed)).1 ≡ Some reply

  abbrev pub listed_call : (x : RequestName) (timed : TimedCall) → ListedAct
  listed_call x timed = record { request = Some x; act = Makes timed; logged = true }

  -- Two batches at one position of the batches of an instance.
  same_batch : (i : ℕ) (earlier later : List PoolEvent) → events ≡ earlier ++ later → (front : List Batch) (b : Batch) (back : List Batch) → pool.log ≡ front ++ b ∷ back → b.writer ≡ i
      → (n : ℕ) (c : Batch) → n ≡ length (batches_by i front) → slice_get (batches_offered i (events_at i earlier)) n ≡ Some c → c ≡ b
  same_batch i earlier later cut front b back split is n c at_n h =
      let own = pool.own i in
      let all : batches_offered i (events_at i events) ≡ batches_offered i (events_at i earlier) ++ batches_offered i (events_at i later) =
      ap (λ v. batches_offered i (events_at i v)) cut ∙ ap (λ v. batches_offered i v) (at_append i earlier later) ∙ offered_append i (events_at i earlier) (events_at i later) in
      let these : batches_offered i (events_at i events) ≡ batches_by i front ++ b ∷ (batches_by i back ++ own.0) =
      own.1 ∙ ap (λ v. batches_by i v ++ own.0) split ∙ ap (λ v. v ++ own.0) (by_split acts_of salt start events pool i front b back is) ∙ append_assoc (batches_by i front) (b ∷ batches_by i back) own.0 in
      let first : slice_get (batches_offered i (events_at i events)) n ≡ Some c = ap (λ v. slice_get v n) all ∙ get_more (batches_offered i (events_at i earlier)) (batches_offered i (events_at i later)) n c h in
      let second : slice_get (batches_offered i (events_at i events)) n ≡ Some b = ap (λ v. slice_get v n) these ∙ ap (λ v. slice_get (batches_by i front ++ b ∷ (batches_by i back ++ own.0)) v) at_n ∙ get_at (batches_by i front) b (batches_by i back ++ own.0) in
      some_same c b (sym first ∙ second)

  pub place_of : (earlier later : List PoolEvent) (x : RequestName) (reply : Reply) → serves x.instance ≡ true → events ≡ earlier ++ later
      → IsReplyInPlace acts_of salt start x.instance (events_at x.instance earlier) x.id reply → Place earlier x reply
  place_of earlier later x reply s cut h =
      let i = x.instance in
      let g = entries_given (events_at i earlier) in
      let sg = get_split g h.index h.entry h.given in
      let gf = given_front acts_of salt start events pool i earlier later cut in
      let these : entries acts_of salt start events pool ≡ sg.front ++ h.entry ∷ (sg.back ++ gf.0) = gf.1 ∙ ap (λ v. v ++ gf.0) sg.split ∙ append_assoc sg.front (h.entry ∷ sg.back) gf.0 in
      let sm = map_split entry_of_batch pool.log sg.front h.entry (sg.back ++ gf.0) these in
      let b = sm.one in
      let writer : b.writer ≡ i = ap (λ (v : LogEntry). v.writer) sm.same ∙ h.own in
      let taken : take h.index g ≡ map entry_of_batch sm.front = ap (λ v. take h.index v) sg.split ∙ take_at sg.front (h.entry ∷ sg.back) h.index sg.at ∙ sym sm.fronts in
      let count : count_by (λ (e : LogEntry). i == e.writer) (take h.index g) ≡ length (batches_by i sm.front) =
      ap (λ v. count_by (λ (e : LogEntry). i == e.writer) v) taken ∙ count_map entry_of_batch (λ e. i == e.writer) sm.front ∙ sym (length-filter (λ (v : Batch). i == v.writer) sm.front) in
      let same = same_batch i earlier later cut sm.front b sm.back sm.split writer (count_by (λ (e : LogEntry). i == e.writer) (take h.index g)) h.batch count h.offered in
      let id : slice_get b.ids h.position ≡ Some x.id = ap (λ (v : Batch). slice_get v.ids h.position) (sym same) ∙ h.asked in
      let o = offer_of acts_of salt start events pool sm.front b sm.back sm.split in
      let m = may_offer acts_of salt start events pool serves served sm.front b o (ap (λ v. serves v) writer ∙ s) in
      let og = open_get (events_at b.writer o.before) b.ids (acts_of b.bytes) h.position x.id m.calls id in
      let sc = get_split (acts_of b.bytes) h.position (Makes og.timed) og.there in
      let first = acts_in acts_of (map entry_of_batch sm.front) in
      let acts : acts_in acts_of g ≡ (first ++ sc.front) ++ Makes og.timed ∷ (sc.back ++ acts_in acts_of sg.back) =
      acts_around acts_of g sg.front h.entry sg.back sm.front b sc.front (Makes og.timed) sc.back sg.split sm.fronts sm.same sc.split in
      let place : length (acts_in acts_of (take h.index g)) + h.position ≡ length (first ++ sc.front) =
      omega (arith, ap (λ v. length (acts_in acts_of v)) taken, length-append first sc.front, sc.at) in
      record {
        front = sm.front;
        batch = b;
        back = sm.back;
        split = sm.split;
        given = omega (arith, sg.at, ap (λ v. length v) sg.split, length-append sg.front (h.entry ∷ sg.back), ap (λ v. length v) sm.fronts, length-map sm.front entry_of_batch);
        writer = writer;
        position = h.position;
        timed = og.timed;
        id = id;
        there = og.there;
        before = sc.front;
        after = sc.back;
        acts = sc.split;
        at_position = sc.at;
        is_policy = policy_at salt start (acts_in acts_of g) (first ++ sc.front) (Makes og.timed) (sc.back ++ acts_in acts_of sg.back) (length (acts_in acts_of (take h.index g)) + h.position) reply h.is_policy acts place;
      }

  pub place_listed : (earlier : List PoolEvent) (x : RequestName) (reply : Reply) (p : Place earlier x reply) → slice_get (batch_acts acts_of rs p.batch) p.position ≡ Some (listed_call x p.timed)
  place_listed earlier x reply p =
      listed_at p.batch.writer p.batch.ids (acts_of p.batch.bytes) p.position x.id (Makes p.timed) p.id p.there
      ∙ ap (λ v. Some (record { request = Some (record { instance = v; id = x.id }); act = Makes p.timed; logged = true })) p.writer

  pub stands_place : (earlier : List PoolEvent) (x : RequestName) (reply : Reply) → Place earlier x reply → StandsWith acts_of salt start list x reply
  stands_place earlier x reply p =
      let call = listed_call x p.timed in
      let bc = batch_acts acts_of rs p.batch in
      let k = length p.front in
      let sb = get_split bc p.position call (place_listed earlier x reply p) in
      let rest = one_list acts_of rs (suc k) p.back in
      let slot = at_slot k rs in
      let up = upto acts_of rs 0 p.front in
      let front = up ++ (slot ++ sb.front) in
      let parts : list ≡ front ++ call ∷ (sb.back ++ rest) =
      list_cut p.front (p.batch ∷ p.back) p.split
      ∙ ap (λ v. up ++ (slot ++ (v ++ rest))) sb.split
      ∙ ap (λ v. up ++ (slot ++ v)) (append_assoc sb.front (call ∷ sb.back) rest)
      ∙ ap (λ v. up ++ v) (sym (append_assoc slot sb.front (call ∷ (sb.back ++ rest))))
      ∙ sym (append_assoc up (slot ++ sb.front) (call ∷ (sb.back ++ rest))) in
      let act_front : listed_acts sb.front ≡ p.before =
      same_fronts (listed_acts sb.front) (Makes p.timed ∷ listed_acts sb.back) p.before (Makes p.timed ∷ p.after) (length-map sb.front (λ (c : ListedAct). c.act) ∙ sb.at ∙ sym p.at_position)
      (sym (map-append (λ (c : ListedAct). c.act) sb.front (call ∷ sb.back)) ∙ sym (ap (λ v. listed_acts v) sb.split) ∙ listed_act p.batch.writer p.batch.ids (acts_of p.batch.bytes) ∙ p.acts) in
      let first = acts_in acts_of (map entry_of_batch p.front) in
      let there : airspace_by salt start (listed_acts front) ≡ airspace_by salt start (first ++ p.before) =
      ap (λ v. airspace_by salt start v) (map-append (λ (c : ListedAct). c.act) up (slot ++ sb.front) ∙ ap (λ v. listed_acts up ++ v) (map-append (λ (c : ListedAct). c.act) slot sb.front ∙ ap (λ v. listed_acts slot ++ v) act_front))
      ∙ after_append salt start (listed_acts up) (listed_acts slot ++ p.before)
      ∙ ap (λ v. airspace_by salt v (listed_acts slot ++ p.before)) (state_upto p.front (p.batch ∷ p.back) p.split)
      ∙ after_append salt (after k) (listed_acts slot) p.before
      ∙ ap (λ v. airspace_by salt v p.before) (after_inert salt (after k) slot (inert_slot k))
      ∙ ap (λ v. airspace_by salt (airspace_by salt start (acts_in acts_of v)) p.before) (front_take acts_of salt start events pool p.front (p.batch ∷ p.back) p.split)
      ∙ sym (after_append salt start first p.before) in
      stands_with x reply front call (sb.back ++ rest) parts refl (ap (λ v. (act_step salt v (Makes p.timed)).1) there ∙ p.is_policy)
