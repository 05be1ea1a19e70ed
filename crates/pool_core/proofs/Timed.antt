-- Lemmas: the event in which an instance makes a call of the list.
use Rattle.std.proofs.Common.{◌≡◌, ℕ, Bool, true, List, [], ◌∷◌, ◌++◌, take, Some, refl, sym, ap, subst, ◌∙◌, inl, inr}
use Rattle.std.specs.Prelude.{Contains}
use Rattle.std.proofs.lemmas.List.{append-nil}
use Rattle.entity_core.specs.Airspace.{Airspace}
use Rattle.policy_core.specs.declared.call.Call.{Call}
use Rattle.service_step.specs.declared.reply.Reply.{Reply}
use Rattle.service_calls.specs.Run.{TimedCall}
use Rattle.pool_core.specs.Acts.{Act, Makes}
use Rattle.pool_core.specs.Events.{AfterFirst, Answers, AsksForEnd, AtOnce, Basis, Batch, Drops, Fails, Gets, InPlace, InstanceEvent, LearnsEnd, Offers, PoolEvent, Receives, events_at}
use Rattle.pool_core.specs.OneList.{ListedAct, RequestName, Stands, at}
use Rattle.pool_core.specs.Pool.{IsPool}
use Rattle.pool_core.specs.Serves.{IsOpen, IsReplyBy, ServesPool, ids_ended, times}
use Rattle.pool_core.specs.Timed.{IsMade, MadeIn, MakesIn}
use Rattle.pool_core.proofs.Build.{batch_acts, in_one, in_slot, listed_get}
use Rattle.pool_core.proofs.Facts.{may_offer, open_get, reply_by}
use Rattle.pool_core.proofs.Given.{offer_of}
use Rattle.pool_core.proofs.Lists.{contains_get, contains_split, get_from_split, some_same}
use Rattle.pool_core.proofs.Places.{list}
use Rattle.pool_core.proofs.Projections.{at_append, event_of}
use Rattle.pool_core.proofs.Readings.{IsBasis, Reading, readings, source}
use Rattle.pool_core.proofs.Retold.{at_gets, at_retold, gifts, happened, retold, shifted, told_at}
use Rattle.pool_core.proofs.Shifted.{ids_ended_told, no_receipt, receipt_told}

-- ---- at a pool whose instances start at the beginning

module _ (acts_of : List ℕ → List Act) (salt : List ℕ) (start : Airspace) (events : List PoolEvent) (pool : IsPool events) (serves : ℕ → Bool)
    (served : (i : ℕ) → serves i ≡ true → ServesPool acts_of salt start i (events_at i events)) where
  abbrev these : List Reading
  these = readings serves [] events

  made_by : (earlier later : List PoolEvent) (i id : ℕ) (basis : Basis) (reply : Reply) (slot : ℕ) (act : Act) → events ≡ earlier ++ event_of i (Answers id basis reply) ∷ later
      → IsBasis earlier basis slot act → IsReplyBy acts_of salt start i (events_at i earlier) id basis reply
      → (timed : TimedCall) × (act ≡ Makes timed) × MadeIn acts_of events (record { instance = i; id = id }) timed
  made_by earlier later i id InPlace reply slot act split is h = absurd is
  made_by earlier later i id (AfterFirst n t) reply slot act split is h =
      (t, is.1, record { before = earlier; event = Answers id (AfterFirst n t) reply; after = later; split = split; makes = (refl, refl); opens = h.0 })
  made_by earlier later i id (AtOnce t) reply slot act split is h =
      (t, is.1, record { before = earlier; event = Answers id (AtOnce t) reply; after = later; split = split; makes = (refl, refl); opens = h.0 })

  made_of : (call : ListedAct) → Contains (list acts_of salt start events pool serves served) call → (x : RequestName) → call.request ≡ Some x → serves x.instance ≡ true → IsMade acts_of events x call
  made_of call h x named s = elim (in_one acts_of these 0 pool.log call h) [
    | inl slots ↦
        let o = in_slot slots.slot these call slots.among in
        let src = source serves [] events o.one o.among in
        let m = made_by src.earlier src.later src.instance src.id src.basis src.reply o.one.slot o.one.call.act src.split src.is_basis (reply_by acts_of salt start events pool serves served o.one src) in
        let name : RequestName = record { instance = src.instance; id = src.id } in
        let same = some_same name x (sym src.request ∙ ap (λ (v : ListedAct). v.request) o.call ∙ named) in
        (m.0, sym (ap (λ (v : ListedAct). v.act) o.call) ∙ m.1, subst (λ (v : RequestName). MadeIn acts_of events v m.0) same m.2)
    | inr batch ↦
        let b = batch.batch in
        let there = contains_split (batch_acts acts_of these b) call batch.among in
        let j = batch.among.0 in
        let l = listed_get b.writer b.ids (acts_of b.bytes) j call (get_from_split (batch_acts acts_of these b) j call there) in
        let n = l.named x named in
        let o = offer_of acts_of salt start events pool batch.front b batch.back batch.split in
        let m = may_offer acts_of salt start events pool serves served batch.front b o (subst (λ v. serves v ≡ true) n.1 s) in
        let g = open_get (events_at b.writer o.before) b.ids (acts_of b.bytes) j x.id m.calls n.0 in
        let made : MadeIn acts_of events (record { instance = b.writer; id = x.id }) g.timed =
        record { before = o.before; event = Offers b.ids b.bytes; after = o.after; split = o.split; makes = (j, n.0, g.there); opens = g.is_open } in
        let name : record { instance = b.writer; id = x.id } ≡ x = ap (λ (v : ℕ). record { instance = v; id = x.id }) (sym n.1) in
        (g.timed, some_same call.act (Makes g.timed) (sym l.act ∙ g.there), subst (λ (v : RequestName). MadeIn acts_of events v g.timed) name made)
  ]

  pub made : (x : RequestName) → serves x.instance ≡ true → (n : ℕ) (s : Stands (list acts_of salt start events pool serves served) x n) → IsMade acts_of events x s.listed
  made x serving n s = made_of s.listed (contains_get (list acts_of salt start events pool serves served) n s.listed s.there) x s.of serving

-- ---- from the events, told so, to those that happened

unmade : (acts_of : List ℕ → List Act) (n id : ℕ) (timed : TimedCall) (e : InstanceEvent) → MakesIn acts_of id timed (shifted n e) → MakesIn acts_of id timed e
unmade acts_of n id timed (Receives a b) h = h
unmade acts_of n id timed (Offers a b) h = h
unmade acts_of n id timed (Gets a) h = h
unmade acts_of n id timed (AsksForEnd a) h = h
unmade acts_of n id timed (LearnsEnd a b) h = h
unmade acts_of n id timed (Answers a InPlace c) h = h
unmade acts_of n id timed (Answers a (AfterFirst count t) c) h = h
unmade acts_of n id timed (Answers a (AtOnce t) c) h = h
unmade acts_of n id timed (Fails a) h = h
unmade acts_of n id timed (Drops a) h = h

module _ (offsets : ℕ → ℕ) (log : List Batch) where
  untold : (i id : ℕ) (call : Call) (es : List InstanceEvent) → IsOpen (told_at offsets log i [] es ++ events_at i (gifts offsets log i es)) id call → IsOpen es id call
  untold i id call [] h =
      absurd (no_receipt log (offsets i) (take (offsets i) log) id call (subst (λ v. Contains v (Receives id call)) (at_gets i (take (offsets i) log)) h.received))
  untold i id call (e ∷ es) h =
      let told = told_at offsets log i [] (e ∷ es) in
      let all : told ++ [] ≡ told = append-nil told in
      record {
        received = receipt_told log (offsets i) (e ∷ es) id call (subst (λ v. Contains v (Receives id call)) all h.received);
        unended = sym (ap (λ v. times id v) (ids_ended_told log (offsets i) (e ∷ es))) ∙ subst (λ v. times id (ids_ended v) ≡ 0) all h.unended;
      }

  opens_happened : (i id : ℕ) (call : Call) (before front : List PoolEvent) → before ≡ retold offsets log [] front ++ gifts offsets log i (events_at i front) → IsOpen (events_at i before) id call → IsOpen (events_at i front) id call
  opens_happened i id call before front b h =
      let g = gifts offsets log i (events_at i front) in
      let same : events_at i before ≡ told_at offsets log i [] (events_at i front) ++ events_at i g =
      ap (λ v. events_at i v) b ∙ at_append i (retold offsets log [] front) g ∙ ap (λ v. v ++ events_at i g) (at_retold offsets log i [] front) in
      untold i id call (events_at i front) (subst (λ v. IsOpen v id call) same h)

  pub made_happened : (acts_of : List ℕ → List Act) (events : List PoolEvent) (x : RequestName) (timed : TimedCall) → MadeIn acts_of (retold offsets log [] events) x timed → MadeIn acts_of events x timed
  made_happened acts_of events x timed m =
      let k = happened offsets log [] events m.before (at x m.event) m.after (λ entry gift. subst (λ v. MakesIn acts_of x.id timed v) gift m.makes) m.split in
      let here : k.one.instance ≡ x.instance = ap (λ (v : PoolEvent). v.instance) k.same in
      let event : shifted (offsets k.one.instance) k.one.event ≡ m.event = ap (λ (v : PoolEvent). v.event) k.same in
      let is : k.one ≡ at x k.one.event = ap (λ v. event_of v k.one.event) here in
      record {
        before = k.front;
        event = k.one.event;
        after = k.back;
        split = k.split ∙ ap (λ v. k.front ++ v ∷ k.back) is;
        makes = unmade acts_of (offsets k.one.instance) x.id timed k.one.event (subst (λ v. MakesIn acts_of x.id timed v) (sym event) m.makes);
        opens = opens_happened x.instance x.id timed.1 m.before k.front (k.befores ∙ ap (λ v. retold offsets log [] k.front ++ gifts offsets log v (events_at v k.front)) here) m.opens;
      }
