-- Lemmas: what is known of a reading, and of the call of a request in a batch.
use Rattle.std.proofs.Common.{◌≡◌, ℕ, zero, suc, ◌≤◌, Bool, true, List, [], ◌∷◌, ◌++◌, length, Some, slice_get, refl, sym, ap, subst, ◌∙◌, append_assoc, arith}
use Rattle.std.specs.Prelude.{Contains}
use Rattle.entity_core.specs.Airspace.{Airspace}
use Rattle.policy_core.specs.declared.call.Call.{Call}
use Rattle.service_step.specs.declared.reply.Reply.{Reply}
use Rattle.service_step.specs.Step.{step}
use Rattle.service_calls.specs.Run.{TimedCall}
use Rattle.pool_core.specs.Acts.{Act, Makes, Purges, act_step, airspace_by}
use Rattle.pool_core.specs.Events.{AfterFirst, Answers, AsksForEnd, AtOnce, Basis, Batch, InPlace, InstanceEvent, LearnsEnd, Offers, PoolEvent, Receives, events_at}
use Rattle.pool_core.specs.Log.{LogEntry}
use Rattle.pool_core.specs.OneList.{ListedAct, RequestName}
use Rattle.pool_core.specs.Pool.{IsPool, count_given}
use Rattle.pool_core.specs.Serves.{AreOpen, IsOpen, IsReplyBy, MayOffer, ReachesEnd, ServesPool, acts_in}
use Rattle.pool_core.proofs.Build.{listed_get, batch_acts}
use Rattle.pool_core.proofs.Given.{Offer, earlier_than, given_fits, given_more, given_take, most_more, offer_of, offered_late, state}
use Rattle.pool_core.proofs.Lists.{contains_at, contains_same, some_same}
use Rattle.pool_core.proofs.Projections.{at_append, at_split, event_of, lift_two}
use Rattle.pool_core.proofs.Readings.{IsBasis, Reading, Source, most_given, most_least}
use Rattle.pool_core.proofs.Served.{follows_at}

-- The open request at a position of a batch.
pub record OpenAt (before : List InstanceEvent) (acts : List Act) (j id : ℕ) : Type 0 where
  pub timed : TimedCall
  pub there : slice_get acts j ≡ Some (Makes timed)
  pub is_open : IsOpen before id timed.1

pub open_get : (before : List InstanceEvent) (ids : List ℕ) (acts : List Act) (j id : ℕ) → AreOpen before ids acts → slice_get ids j ≡ Some id → OpenAt before acts j id
open_get before [] acts j id h g = absurd cc
open_get before (x ∷ ids) [] j id h g = absurd h
open_get before (x ∷ ids) (Purges until ∷ acts) j id h g = absurd h
open_get before (x ∷ ids) (Makes c ∷ acts) zero id h g = record { timed = c; there = refl; is_open = subst (λ v. IsOpen before v c.1) (some_same x id g) h.0 }
open_get before (x ∷ ids) (Makes c ∷ acts) (suc j) id h g =
    let o = open_get before ids acts j id h.1 g in
    record { timed = o.timed; there = o.there; is_open = o.is_open }

module _ (acts_of : List ℕ → List Act) (salt : List ℕ) (start : Airspace) (events : List PoolEvent) (pool : IsPool events) where
  -- ---- one reading

  -- What is known of a reading by its basis.
  pub record ReadingFact (earlier : List PoolEvent) (i id slot : ℕ) (act : Act) (reply : Reply) : Type 0 where
    pub fits : slot ≤ length pool.log
    pub inert : act_step salt (state acts_of salt start events pool slot) act ≡ (state acts_of salt start events pool slot, Some reply)
    pub timed : TimedCall
    pub is_call : act ≡ Makes timed
    pub received : Contains (events_at i earlier) (Receives id timed.1)

  fact_same : (earlier : List PoolEvent) (i id n slot : ℕ) (x act : Act) (reply : Reply) → slot ≡ n → act ≡ x → ReadingFact earlier i id n x reply → ReadingFact earlier i id slot act reply
  fact_same earlier i id n slot x act reply e f h =
      subst (λ (v : ℕ). ReadingFact earlier i id v act reply) (sym e) (subst (λ (v : Act). ReadingFact earlier i id n v reply) (sym f) h)

  -- A call that changes nothing, as an act.
  inert_call : (a : Airspace) (t : TimedCall) (reply : Reply) → step salt a t.0 t.1 ≡ (a, reply) → act_step salt a (Makes t) ≡ (a, Some reply)
  inert_call a t reply h = ap (λ (v : Airspace × Reply). (v.0, Some v.1)) h

  pub fact_by : (earlier after : List PoolEvent) → events ≡ earlier ++ after → (i id : ℕ) (basis : Basis) (reply : Reply) (slot : ℕ) (act : Act) → IsBasis earlier basis slot act
      → IsReplyBy acts_of salt start i (events_at i earlier) id basis reply → ReadingFact earlier i id slot act reply
  fact_by earlier after split i id InPlace reply slot act is h = absurd is
  fact_by earlier after split i id (AfterFirst n t) reply slot act is h =
      let e = given_take acts_of salt start events pool i earlier after split n h.1.given in
      let there = subst (λ (v : List LogEntry). step salt (airspace_by salt start (acts_in acts_of v)) t.0 t.1 ≡ (airspace_by salt start (acts_in acts_of v), reply)) e h.1.is_policy in
      fact_same earlier i id n slot (Makes t) act reply is.0 is.1 (record {
        fits = omega (arith, h.1.given, given_fits acts_of salt start events pool i earlier after split);
        inert = inert_call (state acts_of salt start events pool n) t reply there;
        timed = t;
        is_call = refl;
        received = h.0.received;
      })
  fact_by earlier after split i id (AtOnce t) reply slot act is h =
      let now = state acts_of salt start events pool (most_given earlier) in
      fact_same earlier i id (most_given earlier) slot (Makes t) act reply is.0 is.1 (record {
        fits = most_least earlier (length pool.log) (λ j. given_fits acts_of salt start events pool j earlier after split);
        inert = inert_call now t reply (h.1.is_policy now);
        timed = t;
        is_call = refl;
        received = h.0.received;
      })

  -- ---- late readings

  -- The events at an instance, around a question and its answer.
  end_events : (earlier after : List PoolEvent) → events ≡ earlier ++ after → (i id n : ℕ) (call : Call) (re : ReachesEnd (events_at i earlier) id call n)
      → events_at i events ≡ (re.earlier ++ Receives id call ∷ re.waiting) ++ AsksForEnd re.question ∷ (re.asking ++ LearnsEnd re.question re.end ∷ (re.later ++ events_at i after))
  end_events earlier after split i id n call re =
      let x = re.earlier ++ Receives id call ∷ re.waiting in
      let asks : InstanceEvent = AsksForEnd re.question in
      let learns : InstanceEvent = LearnsEnd re.question re.end in
      let y = re.asking ++ learns ∷ re.later in
      let z = events_at i after in
      let these : events_at i earlier ≡ x ++ asks ∷ y = re.events ∙ sym (append_assoc re.earlier (Receives id call ∷ re.waiting) (asks ∷ y)) in
      ap (λ v. events_at i v) split ∙ at_append i earlier after ∙ ap (λ v. v ++ z) {y = x ++ asks ∷ y} these ∙ append_assoc x (asks ∷ y) z
      ∙ ap (λ v. x ++ asks ∷ v) (append_assoc re.asking (learns ∷ re.later) z)

  end_late : (earlier after : List PoolEvent) → events ≡ earlier ++ after → (i id n : ℕ) (call : Call) → ReachesEnd (events_at i earlier) id call n
      → (p q : List PoolEvent) → events ≡ p ++ q → ((c : Call) → Contains (events_at i p) (Receives id c) → ⊥) → most_given p ≤ n
  end_late earlier after split i id n call re p q cut new =
      let x = re.earlier ++ Receives id call ∷ re.waiting in
      let asks : InstanceEvent = AsksForEnd re.question in
      let learns : InstanceEvent = LearnsEnd re.question re.end in
      let l = lift_two i events x asks re.asking learns (re.later ++ events_at i after) (end_events earlier after split i id n call re) in
      let received = contains_same (events_at i l.before) x (Receives id call) l.befores (contains_at re.earlier (Receives id call) re.waiting) in
      let r = earlier_than i id call p q l.before (event_of i asks ∷ (l.between ++ event_of i learns ∷ l.after)) (sym cut ∙ l.split) new received in
      most_least p n (λ j.
      let grown : count_given j l.before ≡ count_given j (p ++ r.0) = ap (λ v. count_given j v) {y = p ++ r.0} r.1 in
      omega (arith, given_more j p r.0, grown, pool.end i j l.before l.between l.after re.question re.end l.split, re.reached))

  -- A reading whose request was not received in a beginning of the events stands behind the entries given in it.
  pub late_by : (earlier after : List PoolEvent) → events ≡ earlier ++ after → (i id : ℕ) (basis : Basis) (reply : Reply) (slot : ℕ) (act : Act) → IsBasis earlier basis slot act
      → IsReplyBy acts_of salt start i (events_at i earlier) id basis reply
      → (p q : List PoolEvent) → events ≡ p ++ q → ((c : Call) → Contains (events_at i p) (Receives id c) → ⊥) → most_given p ≤ slot
  late_by earlier after split i id InPlace reply slot act is h p q cut new = absurd is
  late_by earlier after split i id (AfterFirst n t) reply slot act is h p q cut new =
      omega (arith, is.0, end_late earlier after split i id n t.1 h.1.end p q cut new)
  late_by earlier after split i id (AtOnce t) reply slot act is h p q cut new =
      let r = earlier_than i id t.1 p q earlier after (sym cut ∙ split) new h.0.received in
      let grown : most_given earlier ≡ most_given (p ++ r.0) = ap (λ v. most_given v) r.1 in
      omega (arith, is.0, grown, most_more p r.0)

  module _ (serves : ℕ → Bool) (served : (i : ℕ) → serves i ≡ true → ServesPool acts_of salt start i (events_at i events)) where
    pub reply_by : (r : Reading) (s : Source serves [] events r) → IsReplyBy acts_of salt start s.instance (events_at s.instance s.earlier) s.id s.basis s.reply
    reply_by r s =
        follows_at acts_of salt start s.instance (events_at s.instance events) (events_at s.instance s.earlier) (Answers s.id s.basis s.reply) (events_at s.instance s.later) (served s.instance s.serves_it)
        (ap (λ v. events_at s.instance v) s.split ∙ at_split s.instance (Answers s.id s.basis s.reply) s.earlier s.later)

    pub reading_fact : (r : Reading) (s : Source serves [] events r) → ReadingFact s.earlier s.instance s.id r.slot r.call.act s.reply
    reading_fact r s = fact_by s.earlier (event_of s.instance (Answers s.id s.basis s.reply) ∷ s.later) s.split s.instance s.id s.basis s.reply r.slot r.call.act s.is_basis (reply_by r s)

    pub reading_late : (r : Reading) (s : Source serves [] events r) (p q : List PoolEvent) → events ≡ p ++ q → ((c : Call) → Contains (events_at s.instance p) (Receives s.id c) → ⊥) → most_given p ≤ r.slot
    reading_late r s p q cut new =
        late_by s.earlier (event_of s.instance (Answers s.id s.basis s.reply) ∷ s.later) s.split s.instance s.id s.basis s.reply r.slot r.call.act s.is_basis (reply_by r s) p q cut new

    -- ---- one call of a batch

    pub may_offer : (xs : List Batch) (b : Batch) (o : Offer acts_of salt start events pool xs b) → serves b.writer ≡ true → MayOffer acts_of salt start (events_at b.writer o.before) b.ids b.bytes
    may_offer xs b o s =
        follows_at acts_of salt start b.writer (events_at b.writer events) (events_at b.writer o.before) (Offers b.ids b.bytes) (events_at b.writer o.after) (served b.writer s)
        (ap (λ v. events_at b.writer v) o.split ∙ at_split b.writer (Offers b.ids b.bytes) o.before o.after)

    -- What is known of a call of a batch, if its request is that of an instance that serves.
    pub record BatchFact (xs : List Batch) (b : Batch) (call : ListedAct) (x : RequestName) : Type 0 where
      pub writer : x.instance ≡ b.writer
      pub offer : Offer acts_of salt start events pool xs b
      pub timed : TimedCall
      pub is_call : call.act ≡ Makes timed
      pub received : Contains (events_at b.writer offer.before) (Receives x.id timed.1)

    pub batch_fact : (xs : List Batch) (b : Batch) (ys : List Batch) → pool.log ≡ xs ++ b ∷ ys → (rs : List Reading) (j : ℕ) (call : ListedAct) → slice_get (batch_acts acts_of rs b) j ≡ Some call
        → (x : RequestName) → call.request ≡ Some x → serves x.instance ≡ true → BatchFact xs b call x
    batch_fact xs b ys split rs j call there x named s =
        let l = listed_get b.writer b.ids (acts_of b.bytes) j call there in
        let n = l.named x named in
        let o = offer_of acts_of salt start events pool xs b ys split in
        let m = may_offer xs b o (subst (λ v. serves v ≡ true) n.1 s) in
        let g = open_get (events_at b.writer o.before) b.ids (acts_of b.bytes) j x.id m.calls n.0 in
        record { writer = n.1; offer = o; timed = g.timed; is_call = some_same call.act (Makes g.timed) (sym l.act ∙ g.there); received = g.is_open.received }

    pub batch_late : (xs : List Batch) (b : Batch) (ys : List Batch) → pool.log ≡ xs ++ b ∷ ys → (call : ListedAct) (x : RequestName) → BatchFact xs b call x
        → (p q : List PoolEvent) → events ≡ p ++ q → ((c : Call) → Contains (events_at x.instance p) (Receives x.id c) → ⊥) → most_given p ≤ length xs
    batch_late xs b ys split call x f p q cut new =
        let new' : (c : Call) → Contains (events_at b.writer p) (Receives x.id c) → ⊥ = λ c h. new c (subst (λ v. Contains (events_at v p) (Receives x.id c)) (sym f.writer) h) in
        let r = earlier_than b.writer x.id f.timed.1 p q f.offer.before (event_of b.writer (Offers b.ids b.bytes) ∷ f.offer.after) (sym cut ∙ f.offer.split) new' f.received in
        offered_late acts_of salt start events pool xs b ys split p q cut f.offer r
