-- Lemmas: what is known of the airspace after a list of acts.
use Rattle.std.proofs.Common.{◌≡◌, ℕ, ◌+◌, Bool, true, false, List, [], ◌∷◌, ◌++◌, length, take, Option, Some, None, slice_get, refl, sym, ap, subst, ◌∙◌, append_assoc, arith, inl, inr, length-append}
use Rattle.std.specs.Prelude.{filter, if◌then◌else◌}
use Rattle.std.specs.FinMap.{get, get-empty}
use Rattle.std.specs.List.{AllByRecursion}
use Rattle.std.specs.Ordering.{nat_cmp}
use Rattle.std.proofs.lemmas.List.{append-nil, take_at}
use Rattle.std.proofs.lemmas.List.Elements.{filter-append}
use Rattle.entity_core.specs.Airspace.{Airspace, EntityKey, empty_at}
use Rattle.entity_core.specs.declared.subscription.Sub.{Sub}
use Rattle.entity_purge.specs.Purge.{IsPartlyPurged, purged}
use Rattle.entity_purge.proofs.Chunks.{purged_partly}
use Rattle.service_step.specs.declared.reply.Reply.{Reply}
use Rattle.service_step.specs.declared.reply.Reply.TheVariants.{Done, Denied, Fault, Stopped}
use Rattle.service_step.specs.Step.{IsDoneOrDenied, step}
use Rattle.service_step.proofs.Decided.{steps_answer}
use Rattle.service_calls.specs.Aware.{KnewOthers, MadeCall, is_done, last_writer, later_or, left_by, put_in}
use Rattle.service_calls.specs.Count.{IsCounted, creates_sub, done_calls, notified}
use Rattle.service_calls.specs.Run.{TimedCall, airspace_after, answered_calls, delivered_replies, has_stopped, replies_of}
use Rattle.service_calls.specs.Stale.{IsRefusedFor}
use Rattle.service_calls.proofs.Awares.{Kept, kept_empty, kept_run, later_later, later_none, step_left}
use Rattle.service_calls.proofs.Counts.{tally_run}
use Rattle.service_calls.proofs.SegmentLaws.{kept_partly}
use Rattle.service_calls.proofs.Stales.{stale_step}
use Rattle.pool_core.specs.Acts.{Act, Makes, Purges, act_step, airspace_by, makes_all, replies_by}
use Rattle.pool_core.specs.FromEmpty.{CallsAreKnown, IsKnown, ListedStaleIsRefused, ListsAreKnown, PoolIsKnown, all_done, done_by, last_put, put_by}
use Rattle.pool_core.specs.OneList.{listed_acts}
use Rattle.pool_core.proofs.Acts.{reply_at}
use Rattle.pool_core.proofs.Lists.{get_split, some_same}

-- ---- the policy replies to each call

told_one : (r : Reply) (rs : List Reply) → IsDoneOrDenied r → delivered_replies (r ∷ rs) ≡ r ∷ delivered_replies rs
told_one (Done x) rs h = refl
told_one (Denied p m) rs h = refl
told_one Fault rs h = absurd h
told_one Stopped rs h = absurd h

call_one : (c : TimedCall) (cs : List TimedCall) (r : Reply) (rs : List Reply) → IsDoneOrDenied r → answered_calls (c ∷ cs) (r ∷ rs) ≡ c ∷ answered_calls cs rs
call_one c cs (Done x) rs h = refl
call_one c cs (Denied p m) rs h = refl
call_one c cs Fault rs h = absurd h
call_one c cs Stopped rs h = absurd h

goes_one : (r : Reply) (rs : List Reply) → IsDoneOrDenied r → has_stopped (r ∷ rs) ≡ has_stopped rs
goes_one (Done x) rs h = refl
goes_one (Denied p m) rs h = refl
goes_one Fault rs h = absurd h
goes_one Stopped rs h = absurd h

module _ (salt : List ℕ) where
  all_told : (a : Airspace) (cs : List TimedCall) → delivered_replies (replies_of salt a cs) ≡ replies_of salt a cs
  all_told a [] = refl
  all_told a (c ∷ cs) =
      let next = step salt a c.0 c.1 in
      told_one next.1 (replies_of salt next.0 cs) (steps_answer salt a c.0 c.1) ∙ ap (λ v. next.1 ∷ v) (all_told next.0 cs)

  all_answered : (a : Airspace) (cs : List TimedCall) → answered_calls cs (replies_of salt a cs) ≡ cs
  all_answered a [] = refl
  all_answered a (c ∷ cs) =
      let next = step salt a c.0 c.1 in
      call_one c cs next.1 (replies_of salt next.0 cs) (steps_answer salt a c.0 c.1) ∙ ap (λ v. c ∷ v) (all_answered next.0 cs)

  none_stopped : (a : Airspace) (cs : List TimedCall) → has_stopped (replies_of salt a cs) ≡ false
  none_stopped a [] = refl
  none_stopped a (c ∷ cs) =
      let next = step salt a c.0 c.1 in
      goes_one next.1 (replies_of salt next.0 cs) (steps_answer salt a c.0 c.1) ∙ none_stopped next.0 cs

-- ---- counts over more calls

all_append : (P : MadeCall → Type 0) (ms ns : List MadeCall) → AllByRecursion P ms → AllByRecursion P ns → AllByRecursion P (ms ++ ns)
all_append P [] ns all more = more
all_append P (m ∷ ms) ns all more = (all.0, all_append P ms ns all.1 more)

-- The count also holds if one of the later calls created the subscription.
counted_late : (id : ℕ) (made more : List MadeCall) (index : ℕ) → IsCounted id more index → IsCounted id (made ++ more) index
counted_late id made more index c = record {
  earlier = made ++ c.earlier;
  creation = c.creation;
  later = c.later;
  split = ap (λ v. made ++ v) c.split ∙ sym (append_assoc made c.earlier (c.creation ∷ c.later));
  creates = c.creates;
  last = c.last;
  count = c.count;
}

-- The count continues if none of the later calls created the subscription.
counted_on : (id : ℕ) (made more : List MadeCall) (was index : ℕ) → IsCounted id made was → AllByRecursion (λ m. creates_sub id m.call.op ≡ false) more → index ≡ was + length (filter (notified id) more)
    → IsCounted id (made ++ more) index
counted_on id made more was index c none is = record {
  earlier = c.earlier;
  creation = c.creation;
  later = c.later ++ more;
  split = ap (λ v. v ++ more) c.split ∙ append_assoc c.earlier (c.creation ∷ c.later) more;
  creates = c.creates;
  last = all_append (λ m. creates_sub id m.call.op ≡ false) c.later more c.last none;
  count = omega (arith, is, c.count, ap (λ v. length v) (filter-append (notified id) c.later more), length-append (filter (notified id) c.later) (filter (notified id) more));
}

-- Holds if each index is the number of these calls that notified its subscription.
abbrev AllCounted : List MadeCall → Airspace → Type 0
AllCounted made a = (id : ℕ) (s : Sub) → get a.subscriptions id ≡ Some s → IsCounted id made s.index

none_counted : (n : ℕ) → AllCounted [] (empty_at n)
none_counted n id s there = let e : None ≡ Some s = sym (get-empty nat_cmp id) ∙ there in absurd cc

-- ---- one act after another

partly : (until : ℕ) (a : Airspace) → IsPartlyPurged until a (purged until a)
partly until a = purged_partly until until a (omega arith)

module _ (salt : List ℕ) where
  kept_one : (last : EntityKey → Option MadeCall) (a : Airspace) (x : Act) → Kept salt last a → Kept salt (λ k. later_or (put_by salt k a x) (last k)) (act_step salt a x).0
  kept_one last a (Makes c) kept = kept_run salt last (c ∷ []) a kept
  kept_one last a (Purges until) kept = kept_partly salt last until a (purged until a) kept (partly until a)

  kept_by : (last : EntityKey → Option MadeCall) (a : Airspace) (xs : List Act) → Kept salt last a → Kept salt (λ k. later_or (last_put salt k a xs) (last k)) (airspace_by salt a xs)
  kept_by last a [] kept = kept
  kept_by last a (x ∷ xs) kept =
      let b = (act_step salt a x).0 in
      subst (λ (f : EntityKey → Option MadeCall). Kept salt f (airspace_by salt b xs)) (λ i k. later_later (last_put salt k b xs) (put_by salt k a x) (last k) i)
      (kept_by (λ k. later_or (put_by salt k a x) (last k)) b xs (kept_one last a x kept))

  counted_one : (made : List MadeCall) (a : Airspace) (x : Act) → AllCounted made a → AllCounted (made ++ done_by salt a x) (act_step salt a x).0
  counted_one made a (Makes c) was id s there =
      let cs = c ∷ [] in
      let rs = replies_of salt a cs in
      let done = done_by salt a (Makes c) in
      let answered = all_answered salt a cs in
      let told : delivered_replies rs ≡ replies_of salt a (answered_calls cs rs) = all_told salt a cs ∙ ap (λ v. replies_of salt a v) (sym answered) in
      let here : get (airspace_after salt a (answered_calls cs rs)).subscriptions id ≡ Some s = ap (λ v. get (airspace_after salt a v).subscriptions id) answered ∙ there in
      elim (tally_run salt cs rs a (none_stopped salt a cs) told id s here) [
        | inl counted ↦ counted_late id made done s.index counted
        | inr old ↦ counted_on id made done old.was.index s.index (was id old.was old.there) old.none old.index
      ]
  counted_one made a (Purges until) was id s there = subst (λ v. IsCounted id v s.index) (sym (append-nil made)) (was id s ((partly until a).subscriptions id s there))

  counted_by : (made : List MadeCall) (a : Airspace) (xs : List Act) → AllCounted made a → AllCounted (made ++ all_done salt a xs) (airspace_by salt a xs)
  counted_by made a [] was = subst (λ v. AllCounted v a) (sym (append-nil made)) was
  counted_by made a (x ∷ xs) was =
      let b = (act_step salt a x).0 in
      subst (λ v. AllCounted v (airspace_by salt b xs)) (append_assoc made (done_by salt a x) (all_done salt b xs)) (counted_by (made ++ done_by salt a x) b xs (counted_one made a x was))

pub lists_known : ListsAreKnown
lists_known salt n xs =
    let from = empty_at n in
    let end = airspace_by salt from xs in
    let kept : Kept salt (λ k. last_put salt k from xs) end =
    subst (λ (f : EntityKey → Option MadeCall). Kept salt f end) (λ i k. later_none (last_put salt k from xs) i) (kept_by salt (λ k. None) from xs (kept_empty salt n)) in
    record {
      proper = kept.proper;
      serials = kept.serials;
      knew = kept.knew;
      counted = counted_by salt [] from xs (none_counted n);
      numbered = kept.numbered;
    }

pub pool_known : PoolIsKnown
pool_known acts_of salt serial serves events log list one i count le =
    let h = one.held i count le in
    (h.0, subst (λ (a : Airspace). IsKnown salt (empty_at serial) (listed_acts (take h.0 list)) a) h.1 (lists_known salt serial (listed_acts (take h.0 list))))

-- ---- acts that are all calls

if_append : (b : Bool) (m : MadeCall) (ms : List MadeCall) → (if b then m ∷ [] else []) ++ ms ≡ (if b then m ∷ ms else ms)
if_append true m ms = refl
if_append false m ms = refl

module _ (salt : List ℕ) where
  last_same : (k : EntityKey) (a : Airspace) (cs : List TimedCall) → last_put salt k a (makes_all cs) ≡ last_writer salt k a cs (replies_of salt a cs)
  last_same k a [] = refl
  last_same k a (c ∷ cs) =
      let next = step salt a c.0 c.1 in
      let put = put_in k a c.1 next.1 in
      ap (λ (o : Option MadeCall). later_or o put) (last_same k next.0 cs)
      ∙ ap (λ (b : Airspace). later_or (last_writer salt k b cs (replies_of salt next.0 cs)) put) (sym (step_left salt a c))

  done_same : (a : Airspace) (cs : List TimedCall) → all_done salt a (makes_all cs) ≡ done_calls salt a cs (replies_of salt a cs)
  done_same a [] = refl
  done_same a (c ∷ cs) =
      let next = step salt a c.0 c.1 in
      let made : MadeCall = record { before = a; call = c.1 } in
      let rest : all_done salt next.0 (makes_all cs) ≡ done_calls salt (left_by salt a c next.1) cs (replies_of salt next.0 cs) =
      done_same next.0 cs ∙ ap (λ (b : Airspace). done_calls salt b cs (replies_of salt next.0 cs)) (sym (step_left salt a c)) in
      ap (λ v. done_by salt a (Makes c) ++ v) rest ∙ if_append (is_done next.1) made (done_calls salt (left_by salt a c next.1) cs (replies_of salt next.0 cs))

pub calls_known : CallsAreKnown
calls_known salt from cs a known = (
  record {
    proper = known.proper;
    serials = known.serials;
    knew = subst (λ (f : EntityKey → Option MadeCall). KnewOthers f a) (λ i k. last_same salt k from cs i) known.knew;
  },
  λ id s there. subst (λ v. IsCounted id v s.index) (done_same salt from cs) (known.counted id s there),
)

-- ---- old OVNs

pub stale_refused : ListedStaleIsRefused
stale_refused salt start acts n timed reply there replied kind y stale =
    let s = get_split acts n (Makes timed) there in
    let front : take n acts ≡ s.front = ap (λ v. take n v) s.split ∙ take_at s.front (Makes timed ∷ s.back) n s.at in
    let a = airspace_by salt start (take n acts) in
    let same : Some (Some reply) ≡ Some (Some (step salt a timed.0 timed.1).1) =
    sym replied ∙ ap (λ v. slice_get (replies_by salt start v) n) s.split ∙ ap (λ v. slice_get (replies_by salt start (s.front ++ Makes timed ∷ s.back)) v) (sym s.at)
    ∙ reply_at salt start s.front (Makes timed) s.back ∙ ap (λ v. Some (act_step salt (airspace_by salt start v) (Makes timed)).1) (sym front) in
    let is = some_same reply (step salt a timed.0 timed.1).1 (some_same (Some reply) (Some (step salt a timed.0 timed.1).1) same) in
    subst (λ (r : Reply). IsRefusedFor kind a timed.1 y r) (sym is) (stale_step salt a timed.0 timed.1 kind y stale)
