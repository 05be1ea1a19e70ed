-- The events of a database form segments, and tell what these deliver.
use Rattle.std.proofs.Common.{◌≡◌, ◌∙◌, ◌<◌, ◌≤◌, ◌-◌, ◌||◌, ℕ, suc, Bool, true, false, List, [], ◌∷◌, ◌++◌, map, Option, Some, None, Result, Err, IfSome, is_some, refl, sym, ap, subst, arith, le_refl, inl, inr, true≢false, le_of_eq, ne_eqb, ◌==◌, if◌then◌else◌}
use Rattle.std.specs.declared.time.Duration.{Duration}
use Rattle.policy_core.specs.declared.call.Call.{Call}
use Rattle.service_calls.specs.declared.service.Service.{Service}
use Rattle.service_calls.specs.Batches.{delivered_reply}
use Rattle.service_calls.specs.Held.{space_of}
use Rattle.service_calls.specs.Run.{IsReplyTo}
use Rattle.service_step.specs.declared.reply.Reply.{Reply}
use Rattle.space_core.specs.declared.group_commit.GroupCommit as commits
use Rattle.space_core.specs.declared.space.Space as spaces
use Rattle.space_core.specs.declared.space.SpaceFault.{SpaceFault}
use Rattle.space_core.specs.declared.space.SpaceFault.TheVariants.{Unchanged}
use Rattle.server_backend.specs.BackendEvent.{Advances, Announces, Answers, BackendEvent, Forgets, Gives, GivesNone, Receives, Settles, Stops}
use Rattle.server_backend.specs.Does.{DoesAll}
use Rattle.server_backend.specs.Told.{reply_after, reply_by, reply_under, told_replies}
use Rattle.server_backend.specs.declared.outcome.Received.{Received}
use Rattle.server_backend.specs.declared.outcome.Received.TheVariants as came
use Rattle.database_backend.specs.Batches.{Act, AreActsOf, Commits, CutBetween, EventsFormSegments, IsActOf, Makes, Sweeps, acts_of_calls, record_of}
use Rattle.database_backend.specs.Database.{AdvancesAs, IsQuiet, PurgesAt, SettlesAs, StepsAs, is_commit_due, is_open_in, outcome_of, retention_of, service_of, settled_of, tickets_of, told_of}
use Rattle.database_backend.specs.Delivered.{AreDelivered, OutcomesAreDelivered}
use Rattle.database_backend.specs.declared.database.Database.{Database}
use Rattle.database_backend.proofs.Chains.{Chain, Goes, IsCommittedNext, Rest, Stays, acts_in, acts_of_next, closed, delivered_in, delivered_of_next, outcome_of_next, purged_before}
use Rattle.database_backend.proofs.Outcomes.{InOrder, all_grow, due_open, given, kept, kept_is_delivered, made_is_delivered, order_kept, told_some}

-- Holds if there is a reply for each request.
abbrev AllSome : List (Option Reply) → Type 0
AllSome [] = Unit {0}
AllSome (told ∷ more) = (is_some told ≡ true) × AllSome more

all_equal : (told : List (Option Reply)) (delivered : List Reply) → AreDelivered told delivered → AllSome told → told ≡ map (λ reply. Some reply) delivered
all_equal [] delivered h all = sym (ap (λ (v : List Reply). map (λ reply. Some reply) v) h)
all_equal (told ∷ more) [] h all = absurd h
all_equal (None ∷ more) (reply ∷ replies) h all = let no : false ≡ true = all.0 in absurd cc
all_equal (Some told ∷ more) (reply ∷ replies) h all =
    ap (λ (v : Reply). Some v ∷ more) h.0 ∙ ap (λ (v : List (Option Reply)). Some reply ∷ v) (all_equal more replies h.1 all.1)

-- Holds if the retention and the numbers of tickets are the same.
abbrev SameNumbers : {S : Type 0} → (d d' : Database S) → Type 0
SameNumbers d d' = (retention_of d' ≡ retention_of d) × (settled_of d' ≡ settled_of d) × (tickets_of d' ≡ tickets_of d)

module _ {S : Type 0} (g : spaces.Ghosts S) (k : commits.Ghosts S) where
  -- What follows a database over events: a chain, or the calls of its open batch and what follows them.
  abbrev Story : (opened : Bool) → Service S → Service S → Type 0
  Story false old new = Chain g k old new
  Story true old new = Rest g k old new

  abbrev acts_of_story : (opened : Bool) (old new : Service S) → Story opened old new → List Act
  acts_of_story false old new c = acts_in c.segments c.batches c.calls
  acts_of_story true old new r = acts_of_calls r.calls ++ acts_of_next g k r.called new r.next

  -- The outcome of the open batch.
  abbrev outcome_of_story : (opened : Bool) (old new : Service S) → Story opened old new → Result (Unit {0}) SpaceFault
  outcome_of_story false old new c = Err Unchanged
  outcome_of_story true old new r = outcome_of_next g k r.called new r.next

  abbrev delivered_of_story : (opened : Bool) (old new : Service S) → Story opened old new → List Reply
  delivered_of_story false old new c = delivered_in c.segments c.batches c.calls
  delivered_of_story true old new r =
      map (λ made. delivered_reply (outcome_of_next g k r.called new r.next) made) r.calls ++ delivered_of_next g k r.called new r.next

  abbrev IsCommittedStory : (opened : Bool) (old new : Service S) → Story opened old new → Type 0
  IsCommittedStory false old new c = c.calls ≡ []
  IsCommittedStory true old new r = IsCommittedNext g k r.called new r.next

  -- What the events after a service with so many tickets and settled ones are, and tell.
  record Found (opened : Bool) (events : List BackendEvent) (old : Service S) (retention : Option ℕ) (settled tickets : ℕ) (new : Database S) : Type 0 where
    pub story : Story opened old (service_of new)
    pub acts : AreActsOf retention events (acts_of_story opened old (service_of new) story)
    pub told : AreDelivered (told_replies events) (delivered_of_story opened old (service_of new) story)
    pub drafts : (ticket : ℕ) (draft : Reply) → settled ≤ ticket → ticket < tickets
        → IfSome (reply_under ticket (Some draft) events) (λ it. it ≡ kept (outcome_of_story opened old (service_of new) story) draft)
    pub committed : is_open_in new ≡ false → IsCommittedStory opened old (service_of new) story

  abbrev FoundAt : (opened : Bool) → List BackendEvent → (d new : Database S) → Type 0
  FoundAt opened events d new = Found opened events (service_of d) (retention_of d) (settled_of d) (tickets_of d) new

  -- ---- no more events

  found_end : (opened : Bool) (d new : Database S) → is_open_in d ≡ opened → new ≡ d → FoundAt opened [] d new
  found_end false d new is h = record {
    story = record {
      segments = [];
      batches = [];
      calls = [];
      last = service_of d;
      committed = service_of d;
      segments_made = refl;
      made = refl;
      calls_made = ap (λ (x : Database S). service_of x) h;
    };
    acts = refl;
    told = refl;
    drafts = λ ticket draft low high. tt;
    committed = λ shut. refl;
  }
  found_end true d new is h = record {
    story = record { calls = []; called = service_of d; made = refl; next = Stays (ap (λ (x : Database S). service_of x) h) };
    acts = refl;
    told = refl;
    drafts = λ ticket draft low high. tt;
    committed = λ shut. absurd (true≢false (sym is ∙ ap (λ (x : Database S). is_open_in x) (sym h) ∙ shut));
  }

  -- ---- an open batch that ends

  -- If all tickets are settled, the calls of the open batch and what follows form a chain.
  found_closed : (events : List BackendEvent) (old : Service S) (retention : Option ℕ) (settled tickets : ℕ) (new : Database S) → settled ≡ tickets
      → Found true events old retention settled tickets new → Found false events old retention settled tickets new
  found_closed events old retention settled tickets new same f =
      let c = closed g k old f.story.called (service_of new) f.story.calls f.story.made f.story.next in
      record {
        story = c.it.chain;
        acts = subst (λ (v : List Act). AreActsOf retention events v) (sym c.it.acts_are) f.acts;
        told = subst (λ (v : List Reply). AreDelivered (told_replies events) v) (sym c.it.delivered_are) f.told;
        drafts = λ ticket draft low high. absurd (omega arith);
        committed = λ shut. c.ends (f.committed shut);
      }

  -- ---- calls

  -- A call before what follows.
  found_called : (moment : ℕ) (call : Call) (reply : Reply) (waits : Bool) (received : Received) (events : List BackendEvent) (old mid : Service S) (retention : Option ℕ)
      (settled tickets more : ℕ) (new : Database S) → IsReplyTo g old mid moment call reply
      → waits ≡ (k.is_pending (space_of old) || k.is_pending (space_of mid)) → tickets ≤ more
      → IsActOf retention (Receives moment call received) (Makes (record_of moment call reply waits) ∷ [])
      → (f : Found true events mid retention settled more new)
      → IfSome (reply_after received events) (λ it. it ≡ delivered_reply (outcome_of_story true mid (service_of new) f.story) (record_of moment call reply waits))
      → Found true (Receives moment call received ∷ events) old retention settled tickets new
  found_called moment call reply waits received events old mid retention settled tickets more new is waits_is grow act f it =
      let made = record_of moment call reply waits in
      record {
        story = record {
          calls = made ∷ f.story.calls;
          called = f.story.called;
          made = (mid, is, waits_is, f.story.made);
          next = f.story.next;
        };
        acts = (Makes made ∷ [], acts_of_story true mid (service_of new) f.story, refl, act, f.acts);
        told = (it, f.told);
        drafts = λ ticket draft low high. f.drafts ticket draft low (omega arith);
        committed = f.committed;
      }

  -- A call of a batch that is open or not: if it is not, all tickets are settled.
  found_opened : (opened : Bool) (events : List BackendEvent) (old : Service S) (retention : Option ℕ) (settled tickets : ℕ) (new : Database S) → (opened ≡ false → settled ≡ tickets)
      → Found true events old retention settled tickets new → Found opened events old retention settled tickets new
  found_opened true events old retention settled tickets new all f = f
  found_opened false events old retention settled tickets new all f = found_closed events old retention settled tickets new (all refl) f

  found_answered : (moment : ℕ) (call : Call) (reply : Reply) (events : List BackendEvent) (d mid new : Database S)
      → StepsAs g k d (Receives moment call (came.Answered reply)) mid → FoundAt true events mid new
      → Found true (Receives moment call (came.Answered reply) ∷ events) (service_of d) (retention_of d) (settled_of d) (tickets_of d) new
  found_answered moment call reply events d mid new h f =
      let P : Database S → Type 0 = λ x. Found true events (service_of mid) (retention_of x) (settled_of x) (tickets_of x) new in
      let f' : Found true events (service_of mid) (retention_of d) (settled_of d) (tickets_of d) new = subst P h.same f in
      found_called moment call reply false (came.Answered reply) events (service_of d) (service_of mid) (retention_of d) (settled_of d) (tickets_of d) (tickets_of d) new
      h.is_reply h.waits_is (le_refl (tickets_of d)) refl f' (made_is_delivered (outcome_of_story true (service_of mid) (service_of new) f'.story) moment call reply)

  found_drafted : (moment : ℕ) (call : Call) (ticket : ℕ) (reply : Reply) (events : List BackendEvent) (d mid new : Database S) → settled_of d ≤ tickets_of d
      → StepsAs g k d (Receives moment call (came.Drafted ticket reply)) mid → FoundAt true events mid new
      → Found true (Receives moment call (came.Drafted ticket reply) ∷ events) (service_of d) (retention_of d) (settled_of d) (tickets_of d) new
  found_drafted moment call ticket reply events d mid new low h f =
      let P : Database S → Type 0 = λ x. Found true events (service_of mid) (retention_of x) (settled_of x) (tickets_of x) new in
      let f' : Found true events (service_of mid) (retention_of d) (settled_of d) (suc (tickets_of d)) new = subst P h.1.same f in
      let outcome = outcome_of_story true (service_of mid) (service_of new) f'.story in
      let number : ticket ≡ tickets_of d = h.0 in
      let it = f'.drafts ticket reply (omega arith) (omega arith) in
      found_called moment call reply true (came.Drafted ticket reply) events (service_of d) (service_of mid) (retention_of d) (settled_of d) (tickets_of d) (suc (tickets_of d)) new
      h.1.is_reply h.1.waits_is (omega arith) refl f'
      (subst (λ (v : Reply). IfSome (reply_under ticket (Some reply) events) (λ it. it ≡ v)) (kept_is_delivered outcome moment call reply) it)

  -- ---- commits

  found_committed : (events : List BackendEvent) (d mid new : Database S) → InOrder d → SettlesAs g k true d mid → DoesAll (StepsAs g k) events mid new
      → FoundAt false events mid new → Found true (Settles ∷ events) (service_of d) (retention_of d) (settled_of d) (tickets_of d) new
  found_committed events d mid new o h does f =
      let retention : retention_of mid ≡ retention_of d = ap (λ (x : Database S). retention_of x) h.same in
      let settled : settled_of mid ≡ tickets_of d = ap (λ (x : Database S). settled_of x) h.same in
      let told : told_of mid ≡ told_of d = ap (λ (x : Database S). told_of x) h.same in
      let low = o.told in
      let acts = acts_of_story false (service_of mid) (service_of new) f.story in
      record {
        story = record { calls = []; called = service_of d; made = refl; next = Goes (outcome_of mid) (service_of mid) h.commits f.story };
        acts = (
          Commits (outcome_of mid) ∷ [],
          acts,
          refl,
          inr (outcome_of mid, refl),
          subst (λ (v : Option ℕ). AreActsOf v events acts) retention f.acts,
        );
        told = f.told;
        drafts = λ ticket draft above below.
            given g k events mid new ticket draft does (omega arith) (omega arith);
        committed = f.committed;
      }

  -- ---- other events

  -- Holds if the service and the tickets are as before.
  record SameAs (d d' : Database S) : Type 0 where
    pub service : service_of d' ≡ service_of d
    pub retention : retention_of d' ≡ retention_of d
    pub settled : settled_of d' ≡ settled_of d
    pub tickets : tickets_of d' ≡ tickets_of d

  same_as : (d d' : Database S) → d' ≡ d → SameAs d d'
  same_as d d' same = record {
    service = ap (λ (x : Database S). service_of x) same;
    retention = ap (λ (x : Database S). retention_of x) same;
    settled = ap (λ (x : Database S). settled_of x) same;
    tickets = ap (λ (x : Database S). tickets_of x) same;
  }

  -- What was found holds of equal numbers.
  found_moved : (opened : Bool) (events : List BackendEvent) (old : Service S) (r r' : Option ℕ) (s s' t t' : ℕ) (new : Database S) → r ≡ r' → s ≡ s' → t ≡ t'
      → Found opened events old r s t new → Found opened events old r' s' t' new
  found_moved opened events old r r' s s' t t' new er es et f =
      subst (λ (v : ℕ). Found opened events old r' s' v new) et
      (subst (λ (v : ℕ). Found opened events old r' v t new) es
      (subst (λ (v : Option ℕ). Found opened events old v s t new) er f))

  -- An event without an act, after which service and tickets are as before.
  found_same : (opened : Bool) (event : BackendEvent) (events : List BackendEvent) (d mid new : Database S) → SameAs d mid → IsActOf (retention_of d) event []
      → told_replies (event ∷ events) ≡ told_replies events
      → ((ticket : ℕ) (draft : Reply) → settled_of d ≤ ticket → reply_under ticket (Some draft) (event ∷ events) ≡ reply_under ticket (Some draft) events)
      → FoundAt opened events mid new → FoundAt opened (event ∷ events) d new
  found_same opened event events d mid new same act replies under f =
      let f' : Found opened events (service_of mid) (retention_of d) (settled_of d) (tickets_of d) new =
      found_moved opened events (service_of mid) (retention_of mid) (retention_of d) (settled_of mid) (settled_of d) (tickets_of mid) (tickets_of d) new same.retention same.settled same.tickets f in
      let it : FoundAt opened events d new = subst (λ (v : Service S). Found opened events v (retention_of d) (settled_of d) (tickets_of d) new) same.service f' in
      let outcome = outcome_of_story opened (service_of d) (service_of new) it.story in
      record {
        story = it.story;
        acts = ([], acts_of_story opened (service_of d) (service_of new) it.story, refl, act, it.acts);
        told = subst (λ (v : List (Option Reply)). AreDelivered v (delivered_of_story opened (service_of d) (service_of new) it.story)) (sym replies) it.told;
        drafts = λ ticket draft low high.
            subst (λ (v : Option Reply). IfSome v (λ it. it ≡ kept outcome draft)) (sym (under ticket draft low)) (it.drafts ticket draft low high);
        committed = it.committed;
      }

  -- A settlement.
  found_settles : (opened due : Bool) (events : List BackendEvent) (d mid new : Database S) → is_open_in d ≡ opened → InOrder d → is_commit_due d ≡ due
      → SettlesAs g k due d mid → DoesAll (StepsAs g k) events mid new → ((b : Bool) → is_open_in mid ≡ b → FoundAt b events mid new) → FoundAt opened (Settles ∷ events) d new
  found_settles opened false events d mid new is o e h does later =
      found_same opened Settles events d mid new (same_as d mid h) (inl refl) refl (λ ticket draft low. refl)
      (later opened (ap (λ (x : Database S). is_open_in x) h ∙ is))
  found_settles true true events d mid new is o e h does later =
      found_committed events d mid new o h does (later false (ap (λ (x : Database S). is_open_in x) h.same))
  found_settles false true events d mid new is o e h does later =
      absurd (true≢false (sym (due_open (is_open_in d) (settled_of d) (told_of d) e).0 ∙ is))

  -- A purge.
  found_purged : (opened : Bool) (moment : Option ℕ) (held : Bool) (now : Duration) (events : List BackendEvent) (d mid new : Database S) → is_open_in d ≡ opened → SameNumbers d mid
      → PurgesAt g k moment held d mid → FoundAt opened events mid new → FoundAt opened (Advances moment held now ∷ events) d new
  found_purged true moment held now events d mid new is same p f = absurd (true≢false (sym is ∙ p.between))
  found_purged false moment held now events d mid new is same p f =
      let f' : Found false events (service_of mid) (retention_of d) (settled_of d) (tickets_of d) new =
      found_moved false events (service_of mid) (retention_of mid) (retention_of d) (settled_of mid) (settled_of d) (tickets_of mid) (tickets_of d) new same.0 same.1 same.2 f in
      let until = p.time - p.seconds in
      record {
        story = purged_before g k until (service_of d) (service_of mid) (service_of new) p.purges f'.story;
        acts = (
          Sweeps until ∷ [],
          acts_of_story false (service_of mid) (service_of new) f'.story,
          refl,
          inr (p.time, p.seconds, p.time_is, p.retains, p.right, refl),
          f'.acts,
        );
        told = f'.told;
        drafts = f'.drafts;
        committed = f'.committed;
      }

  found_advances : (opened : Bool) (moment : Option ℕ) (held : Bool) (now : Duration) (events : List BackendEvent) (d mid new : Database S) → is_open_in d ≡ opened
      → AdvancesAs g k moment held d mid → FoundAt opened events mid new → FoundAt opened (Advances moment held now ∷ events) d new
  found_advances opened moment held now events d mid new is h f =
      let same = h.0 in
      elim h.1 [
        | inl quiet ↦ found_same opened (Advances moment held now) events d mid new
            (record { service = quiet; retention = same.retention; settled = same.settled; tickets = same.tickets }) (inl refl) refl (λ ticket draft low. refl) f
        | inr p ↦ found_purged opened moment held now events d mid new is (same.retention, same.settled, same.tickets) p f
      ]

  -- An outcome that is given concerns no ticket that is not settled.
  gives_other : (ticket other : ℕ) (outcome : Option Reply) (later : Option Reply) → (ticket ≡ other → ⊥) → (if ticket == other then outcome else later) ≡ later
  gives_other ticket other outcome later apart = ap (λ (b : Bool). if b then outcome else later) (ne_eqb ticket other apart)

  -- ---- all events

  find : (events : List BackendEvent) (opened : Bool) (d new : Database S) → is_open_in d ≡ opened → InOrder d → DoesAll (StepsAs g k) events d new → FoundAt opened events d new
  find [] opened d new is o h = found_end opened d new is h
  find (Receives moment call (came.Answered reply) ∷ events) opened d new is o h =
      let order = order_kept g k (Receives moment call (came.Answered reply)) d h.0 h.1 o in
      found_opened opened (Receives moment call (came.Answered reply) ∷ events) (service_of d) (retention_of d) (settled_of d) (tickets_of d) new (λ shut. o.closed (is ∙ shut))
      (found_answered moment call reply events d h.0 new h.1 (find events true h.0 new (ap (λ (x : Database S). is_open_in x) h.1.same) order h.2))
  find (Receives moment call (came.Drafted ticket reply) ∷ events) opened d new is o h =
      let order = order_kept g k (Receives moment call (came.Drafted ticket reply)) d h.0 h.1 o in
      found_opened opened (Receives moment call (came.Drafted ticket reply) ∷ events) (service_of d) (retention_of d) (settled_of d) (tickets_of d) new (λ shut. o.closed (is ∙ shut))
      (found_drafted moment call ticket reply events d h.0 new o.settled h.1 (find events true h.0 new (ap (λ (x : Database S). is_open_in x) h.1.1.same) order h.2))
  find (Receives moment call (came.Waits ticket) ∷ events) opened d new is o h = absurd h.1
  find (Receives moment call (came.Refused reason) ∷ events) opened d new is o h = absurd h.1
  find (Settles ∷ events) opened d new is o h =
      let order = order_kept g k Settles d h.0 h.1 o in
      found_settles opened (is_commit_due d) events d h.0 new is o refl h.1 h.2 (λ b e. find events b h.0 new e order h.2)
  find (Advances moment held now ∷ events) opened d new is o h =
      let order = order_kept g k (Advances moment held now) d h.0 h.1 o in
      found_advances opened moment held now events d h.0 new is h.1 (find events opened h.0 new (h.1.0.opened ∙ is) order h.2)
  find (Gives ticket outcome ∷ events) opened d new is o h =
      let order = order_kept g k (Gives ticket outcome) d h.0 h.1 o in
      let at = h.1.3 in
      let less = h.1.0 in
      let number : ticket ≡ told_of d = h.1.1 in
      found_same opened (Gives ticket outcome) events d h.0 new (record {
        service = ap (λ (x : Database S). service_of x) at;
        retention = ap (λ (x : Database S). retention_of x) at;
        settled = ap (λ (x : Database S). settled_of x) at;
        tickets = ap (λ (x : Database S). tickets_of x) at;
      }) refl refl
      (λ other draft low. gives_other other ticket (reply_by (Some draft) outcome) (reply_under other (Some draft) events) (λ e. let same : other ≡ ticket = e in absurd (omega arith)))
      (find events opened h.0 new (ap (λ (x : Database S). is_open_in x) at ∙ is) order h.2)
  find (GivesNone ∷ events) opened d new is o h =
      let order = order_kept g k GivesNone d h.0 h.1 o in
      found_same opened GivesNone events d h.0 new (same_as d h.0 h.1.1) refl refl (λ ticket draft low. refl)
      (find events opened h.0 new (ap (λ (x : Database S). is_open_in x) h.1.1 ∙ is) order h.2)
  find (Announces ticket ∷ events) opened d new is o h =
      let order = order_kept g k (Announces ticket) d h.0 h.1 o in
      found_same opened (Announces ticket) events d h.0 new (same_as d h.0 h.1.1) refl refl (λ ticket draft low. refl)
      (find events opened h.0 new (ap (λ (x : Database S). is_open_in x) h.1.1 ∙ is) order h.2)
  find (Answers moment ticket outcome ∷ events) opened d new is o h = absurd h.1
  find (Forgets ticket ∷ events) opened d new is o h =
      let order = order_kept g k (Forgets ticket) d h.0 h.1 o in
      found_same opened (Forgets ticket) events d h.0 new (same_as d h.0 h.1) refl refl (λ ticket draft low. refl)
      (find events opened h.0 new (ap (λ (x : Database S). is_open_in x) h.1 ∙ is) order h.2)
  find (Stops ∷ events) opened d new is o h =
      let order = order_kept g k Stops d h.0 h.1 o in
      found_same opened Stops events d h.0 new (same_as d h.0 h.1) refl refl (λ ticket draft low. refl)
      (find events opened h.0 new (ap (λ (x : Database S). is_open_in x) h.1 ∙ is) order h.2)

  -- ---- replies that were all given

  all_some : (events : List BackendEvent) (d new : Database S) → InOrder d → DoesAll (StepsAs g k) events d new → told_of new ≡ tickets_of new → AllSome (told_replies events)
  all_some [] d new o h all = tt
  all_some (Receives moment call (came.Answered reply) ∷ events) d new o h all =
      (refl, all_some events h.0 new (order_kept g k (Receives moment call (came.Answered reply)) d h.0 h.1 o) h.2 all)
  all_some (Receives moment call (came.Drafted ticket reply) ∷ events) d new o h all =
      let number : ticket ≡ tickets_of d = h.1.0 in
      let told : told_of h.0 ≡ told_of d = ap (λ (x : Database S). told_of x) h.1.1.same in
      let tickets : tickets_of h.0 ≡ suc (tickets_of d) = ap (λ (x : Database S). tickets_of x) h.1.1.same in
      let grown = all_grow g k events h.0 new h.2 in
      let low = o.told in
      let high = o.settled in (
        told_some g k events h.0 new ticket reply h.2 (omega arith) (omega arith),
        all_some events h.0 new (order_kept g k (Receives moment call (came.Drafted ticket reply)) d h.0 h.1 o) h.2 all,
      )
  all_some (Receives moment call (came.Waits ticket) ∷ events) d new o h all = absurd h.1
  all_some (Receives moment call (came.Refused reason) ∷ events) d new o h all = absurd h.1
  all_some (Settles ∷ events) d new o h all = all_some events h.0 new (order_kept g k Settles d h.0 h.1 o) h.2 all
  all_some (Advances moment held now ∷ events) d new o h all = all_some events h.0 new (order_kept g k (Advances moment held now) d h.0 h.1 o) h.2 all
  all_some (Gives ticket outcome ∷ events) d new o h all = all_some events h.0 new (order_kept g k (Gives ticket outcome) d h.0 h.1 o) h.2 all
  all_some (GivesNone ∷ events) d new o h all = all_some events h.0 new (order_kept g k GivesNone d h.0 h.1 o) h.2 all
  all_some (Announces ticket ∷ events) d new o h all = all_some events h.0 new (order_kept g k (Announces ticket) d h.0 h.1 o) h.2 all
  all_some (Answers moment ticket outcome ∷ events) d new o h all = absurd h.1
  all_some (Forgets ticket ∷ events) d new o h all = all_some events h.0 new (order_kept g k (Forgets ticket) d h.0 h.1 o) h.2 all
  all_some (Stops ∷ events) d new o h all = all_some events h.0 new (order_kept g k Stops d h.0 h.1 o) h.2 all

  -- ---- laws

  order_of_quiet : (d : Database S) → IsQuiet d → InOrder d
  order_of_quiet d quiet = record { told = quiet.told; settled = le_of_eq quiet.settled; closed = λ shut. quiet.settled }

  pub are_delivered : OutcomesAreDelivered g k
  are_delivered events old new h quiet =
      let o = order_of_quiet old quiet in
      let f = find events false old new quiet.closed o h in
      let c = f.story in
      let cut : CutBetween g k events old new = record {
        segments = c.segments;
        batches = c.batches;
        calls = c.calls;
        acts = f.acts;
        last = c.last;
        committed = c.committed;
        segments_made = c.segments_made;
        made = c.made;
        calls_made = c.calls_made;
      } in (
        cut,
        record {
          told = f.told;
          all_told = λ all. all_equal (told_replies events) (delivered_in c.segments c.batches c.calls) f.told (all_some events old new o h all);
          committed = f.committed;
        },
      )

  pub form_segments : EventsFormSegments g k
  form_segments events old new h quiet =
      let p = are_delivered events old new h quiet in (p.0, p.1.committed)
