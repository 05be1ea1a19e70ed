-- Lemmas: the delivered replies and the durable airspace over batches.
use Rattle.std.specs.Prelude.{◌≡◌, ◌||◌, ◌↔◌, ◌⊎◌, ℕ, Bool, true, false, All, List, [], ◌∷◌, ◌++◌, map, length, cond, Result, Ok, Err, refl}
use Rattle.std.specs.List.{AllByRecursion}
use Rattle.std.proofs.Common.{sym, ap, ◌∙◌, subst, inl, inr}
use Rattle.std.proofs.lemmas.Bool.{false≢true}
use Rattle.std.proofs.lemmas.List.{append-nil, length-map}
use Rattle.std.proofs.lemmas.List.Elements.{All-nil, All-cons}
use Rattle.entity_core.specs.Airspace.{Airspace}
use Rattle.space_core.specs.declared.space.Space as spaces
use Rattle.space_core.specs.declared.group_commit.GroupCommit as settles
use Rattle.space_core.specs.declared.space.SpaceFault.{SpaceFault}
use Rattle.space_core.specs.declared.space.SpaceFault.TheVariants.{Unchanged, Broken}
use Rattle.space_core.specs.Space.{IsContent, is_broken_after}
use Rattle.service_step.specs.declared.call_fault.CallFault.TheVariants.{Space}
use Rattle.service_step.specs.declared.reply.Reply.{Reply}
use Rattle.service_step.specs.declared.reply.Reply.TheVariants.{Done, Denied, Fault, Stopped}
use Rattle.service_step.specs.Step.{step}
use Rattle.service_calls.specs.declared.service.Service.{Service}
use Rattle.service_calls.specs.Held.{is_shut, salt_of, space_of}
use Rattle.service_calls.specs.Service.{Leaves, reply_of}
use Rattle.service_calls.specs.Run.{Answered, AskedInOrder, IsReplyTo, Runs, TimedCall, airspace_after, answered_calls, has_stopped, replies_of, delivered_replies}
use Rattle.service_calls.specs.Batches.{AskedInBatches, IfStopped, IsCommitted, CallRecord, CalledInOrder, MadeBatches, MayHavePersisted, MayHaveLeft, Batch, RunsInBatches, StayStoppedIn, airspace_of, all_timed, all_delivered, replies_made, timed_in, replies_delivered, delivered_reply, uncommitted}
use Rattle.service_calls.proofs.Joined.{airspace_then, policy_stopped, policy_then, stepped_all, stops_then}
use Rattle.service_calls.proofs.Runs.{answered}

-- ---- `Stopped` among the delivered replies

or_first : (x y : Bool) → (x || y) ≡ false → x ≡ false
or_first true y h = absurd (false≢true (sym h))
or_first false y h = refl

unstopped_one : (w : Bool) (r : Reply) (rs qs : List Reply) → has_stopped (r ∷ rs) ≡ false → (has_stopped rs ≡ false → has_stopped qs ≡ false) → has_stopped (cond w Fault r ∷ qs) ≡ false
unstopped_one w Stopped rs qs h f = absurd (false≢true (sym h))
unstopped_one true Fault rs qs h f = f h
unstopped_one true (Done x) rs qs h f = f h
unstopped_one true (Denied p m) rs qs h f = f h
unstopped_one false Fault rs qs h f = f h
unstopped_one false (Done x) rs qs h f = f h
unstopped_one false (Denied p m) rs qs h f = f h

-- If no reply was made as `Stopped`, none is delivered as `Stopped` after `Unchanged`.
unstopped : (ms : List CallRecord) → has_stopped (map (λ m. m.reply) ms) ≡ false → has_stopped (map (delivered_reply (Err Unchanged)) ms) ≡ false
unstopped [] h = refl
unstopped (m ∷ ms) h = unstopped_one m.waits m.reply (map (λ m. m.reply) ms) (map (delivered_reply (Err Unchanged)) ms) h (unstopped ms)

as_made_one : (w : Bool) (r : Reply) (rs qs : List Reply) → has_stopped (cond w Stopped r ∷ qs) ≡ false → (has_stopped qs ≡ false → qs ≡ rs) → cond w Stopped r ∷ qs ≡ r ∷ rs
as_made_one true r rs qs h f = absurd (false≢true (sym h))
as_made_one false Stopped rs qs h f = absurd (false≢true (sym h))
as_made_one false Fault rs qs h f = ap (λ (xs : List Reply). Fault ∷ xs) (f h)
as_made_one false (Done x) rs qs h f = ap (λ (xs : List Reply). Done x ∷ xs) (f h)
as_made_one false (Denied p m) rs qs h f = ap (λ (xs : List Reply). Denied p m ∷ xs) (f h)

-- If no reply is delivered as `Stopped` after `Broken`, no reply was deferred.
as_made : (ms : List CallRecord) → has_stopped (map (delivered_reply (Err Broken)) ms) ≡ false → map (delivered_reply (Err Broken)) ms ≡ map (λ m. m.reply) ms
as_made [] h = refl
as_made (m ∷ ms) h = as_made_one m.waits m.reply (map (λ m. m.reply) ms) (map (delivered_reply (Err Broken)) ms) h (as_made ms)

told_stopped : (result : Result (Unit {0}) SpaceFault) (m : CallRecord) → m.waits ≡ false → m.reply ≡ Stopped → delivered_reply result m ≡ Stopped
told_stopped (Ok x) m w r = r
told_stopped (Err fault) m w r = ap (λ (b : Bool). cond b (reply_of (Space fault)) m.reply) w ∙ r

-- Each call gets one reply.
pub even_in : (batch : Batch) → length (replies_delivered batch) ≡ length (timed_in batch)
even_in batch = length-map batch.calls (delivered_reply batch.settled) ∙ sym (length-map batch.calls (λ m. m.timed))

-- ---- one batch before others

module _ {S : Type 0} (k : settles.Ghosts S) (salt : List ℕ) (a : Airspace) (batch : Batch) (rest : List Batch) (new : Service S) (told : delivered_replies (replies_delivered batch) ≡ replies_of salt a (answered_calls (timed_in batch) (replies_delivered batch))) where
  -- In this batch no reply is `Stopped`.
  front : has_stopped (replies_delivered batch) ≡ false → RunsInBatches k salt (airspace_of salt a batch) rest new → RunsInBatches k salt a (batch ∷ rest) new
  front goes then = record {
    stopped = subst (λ (x : Bool). IfStopped x (All (λ r. r ≡ Stopped) (all_delivered rest)) (StayStoppedIn rest)) (sym goes) then.stopped;
    replies = policy_then salt a (timed_in batch) (replies_delivered batch) (all_timed rest) (all_delivered rest) (even_in batch) goes told then.replies;
    goes = λ n. stops_then (replies_delivered batch) (all_delivered rest) goes ∙ then.goes n;
    whole = λ n. subst (IsContent k.persists (space_of new)) (airspace_then salt a (timed_in batch) (replies_delivered batch) (all_timed rest) (all_delivered rest) (even_in batch) goes) (then.whole n);
    kept = λ b held. subst (λ (x : Bool). IfStopped x (MayHaveLeft salt a batch b) (MayHavePersisted salt (airspace_of salt a batch) rest b)) (sym goes) (then.kept b held);
  }

  -- In this batch some reply is `Stopped`.
  front_stopped : has_stopped (replies_delivered batch) ≡ true → is_shut new ≡ true → All (λ r. r ≡ Stopped) (all_delivered rest)
      → ((b : Airspace) → k.persists (space_of new) b → MayHaveLeft salt a batch b)
      → RunsInBatches k salt a (batch ∷ rest) new
  front_stopped stops shut others kept = record {
    stopped = subst (λ (x : Bool). IfStopped x (All (λ r. r ≡ Stopped) (all_delivered rest)) (StayStoppedIn rest)) (sym stops) others;
    replies = policy_stopped salt a (timed_in batch) (replies_delivered batch) (all_timed rest) (all_delivered rest) (even_in batch) stops told;
    goes = λ n. absurd (false≢true (sym n ∙ shut));
    whole = λ n. absurd (false≢true (sym n ∙ shut));
    kept = λ b held. subst (λ (x : Bool). IfStopped x (MayHaveLeft salt a batch b) (MayHavePersisted salt (airspace_of salt a batch) rest b)) (sym stops) (kept b held);
  }

-- The calls of a batch were made in order.
pub asked : {S : Type 0} (g : spaces.Ghosts S) (k : settles.Ghosts S) (old : Service S) (ms : List CallRecord) (new : Service S) → CalledInOrder g k old ms new → AskedInOrder g old (map (λ m. m.timed) ms) (map (λ m. m.reply) ms) new
asked g k old [] new h = h
asked g k old (m ∷ ms) new h = (h.0, h.1, asked g k h.0 ms new h.3)

-- ---- the laws of a space with group commit

pub record Lawful {S : Type 0} (g : spaces.Ghosts S) (k : settles.Ghosts S) : Type 0 where
  pub quiet : (s : S) (a : Airspace) → k.is_pending s ≡ false → g.holds s a ↔ k.persists s a
  pub rests : (s t : S) (a : Airspace) → g.fixed t ≡ g.fixed s → (k.is_pending s || k.is_pending t) ≡ true → k.persists s a ↔ k.persists t a
  pub works : (s t : S) → g.fixed t ≡ g.fixed s → (k.is_pending s || k.is_pending t) ≡ true → g.is_broken t ≡ g.is_broken s
  pub live : (s : S) → g.is_sound s → k.is_pending s ≡ true → g.is_broken s ≡ false

module _ {S : Type 0} (g : spaces.Ghosts S) (k : settles.Ghosts S) (laws : Lawful g k) where
  -- Without pending changes, the visible airspace is the durable one, and conversely.
  pub kept_quiet : (s : S) (a : Airspace) → k.is_pending s ≡ false → IsContent g.holds s a → IsContent k.persists s a
  kept_quiet s a calm content = record {
    held = (laws.quiet s a calm).0 content.held;
    only = λ b h. content.only b ((laws.quiet s b calm).1 h);
  }

  pub held_quiet : (s : S) (a : Airspace) → k.is_pending s ≡ false → IsContent k.persists s a → IsContent g.holds s a
  held_quiet s a calm content = record {
    held = (laws.quiet s a calm).1 content.held;
    only = λ b h. content.only b ((laws.quiet s b calm).0 h);
  }

  kept_rests : (s t : S) (a : Airspace) → g.fixed t ≡ g.fixed s → (k.is_pending s || k.is_pending t) ≡ true → IsContent k.persists s a → IsContent k.persists t a
  kept_rests s t a fixed waits content = record {
    held = (laws.rests s t a fixed waits).0 content.held;
    only = λ b h. content.only b ((laws.rests s t b fixed waits).1 h);
  }

  -- A sound space that is broken has no pending change.
  calm_broken : (s : S) → g.is_sound s → g.is_broken s ≡ true → k.is_pending s ≡ false
  calm_broken s sound broken =
      elim (k.is_pending s) as (λ w. k.is_pending s ≡ w → w ≡ false) [
        | true ↦ λ w. absurd (false≢true (sym (laws.live s sound w) ∙ broken))
        | false ↦ λ w. refl
      ] refl

  -- A call leaves the space unbroken while changes are pending.
  unbroken : (s t : S) → g.is_sound s → g.is_sound t → g.fixed t ≡ g.fixed s → (k.is_pending s || k.is_pending t) ≡ true → g.is_broken t ≡ false
  unbroken s t sound sound' fixed waits =
      elim (k.is_pending s) as (λ w. k.is_pending s ≡ w → (w || k.is_pending t) ≡ true → g.is_broken t ≡ false) [
        | true ↦ λ w h. laws.works s t fixed waits ∙ laws.live s sound w
        | false ↦ λ w h. laws.live t sound' h
      ] refl waits

  -- If nothing was pending before or after, nothing was pending before, and nothing after.
  calm_parts : (x y : Bool) → false ≡ (x || y) → (x ≡ false) × (y ≡ false)
  calm_parts true y h = absurd (false≢true h)
  calm_parts false y h = (refl, sym h)

  -- ---- the calls of a batch

  pub calls : (old : Service S) (ms : List CallRecord) (new : Service S) → CalledInOrder g k old ms new → Answered g old (map (λ m. m.timed) ms) (map (λ m. m.reply) ms) new
  calls old ms new h = answered g old (map (λ m. m.timed) ms) (map (λ m. m.reply) ms) new (asked g k old ms new h)

  -- The delivered replies are those of the policy, and its airspace is durable.
  record Keeping (salt : List ℕ) (a : Airspace) (cs : List TimedCall) (rs : List Reply) (new : S) : Type 0 where
    replies : delivered_replies rs ≡ replies_of salt a (answered_calls cs rs)
    whole : has_stopped rs ≡ false → IsContent k.persists new (airspace_after salt a (answered_calls cs rs))

  -- Adds a call whose reply is not deferred.
  keeping_at_once : (old mid : Service S) (c : TimedCall) (r : Reply) (cs : List TimedCall) (rs : List Reply) (new : S) (a : Airspace) → IsReplyTo g old mid c.0 c.1 r → is_shut old ≡ false → k.is_pending (space_of mid) ≡ false → g.is_sound (space_of mid)
      → IsContent g.holds (space_of old) a
      → ((x y : Airspace) → is_shut mid ≡ false → IsContent g.holds (space_of mid) y → IsContent k.persists (space_of mid) x → Keeping (salt_of old) x cs rs new)
      → Keeping (salt_of old) a (c ∷ cs) (r ∷ rs) new
  keeping_at_once old mid c Stopped cs rs new a reply n calm sound content next = record { replies = refl; whole = λ x. absurd (false≢true (sym x)) }
  keeping_at_once old mid c Fault cs rs new a reply n calm sound content next =
      let l : Leaves g (salt_of old) a c.0 c.1 Fault (space_of mid) = (reply.answers n).step sound a content in
      let rest = next a a (reply.shuts n) l (kept_quiet (space_of mid) a calm l) in
      record { replies = rest.replies; whole = rest.whole }
  keeping_at_once old mid c (Done x) cs rs new a reply n calm sound content next =
      let then = step (salt_of old) a c.0 c.1 in
      let l : Leaves g (salt_of old) a c.0 c.1 (Done x) (space_of mid) = (reply.answers n).step sound a content in
      let rest = next then.0 then.0 (reply.shuts n) l.1 (kept_quiet (space_of mid) then.0 calm l.1) in
      record {
        replies = ap (λ (y : Reply). y ∷ delivered_replies rs) (sym l.0) ∙ ap (λ (xs : List Reply). then.1 ∷ xs) rest.replies;
        whole = rest.whole;
      }
  keeping_at_once old mid c (Denied p m) cs rs new a reply n calm sound content next =
      let then = step (salt_of old) a c.0 c.1 in
      let l : Leaves g (salt_of old) a c.0 c.1 (Denied p m) (space_of mid) = (reply.answers n).step sound a content in
      let there = subst (IsContent g.holds (space_of mid)) (ap (λ (x : Airspace × Reply). x.0) (sym l.0)) l.1 in
      let rest = next then.0 then.0 (reply.shuts n) there (kept_quiet (space_of mid) then.0 calm there) in
      record {
        replies = ap (λ (y : Reply). y ∷ delivered_replies rs) (ap (λ (x : Airspace × Reply). x.1) (sym l.0)) ∙ ap (λ (xs : List Reply). then.1 ∷ xs) rest.replies;
        whole = rest.whole;
      }

  -- Adds a call whose reply is deferred and whose changes are not committed.
  keeping_later : (old mid : Service S) (c : TimedCall) (r : Reply) (cs : List TimedCall) (rs : List Reply) (new : S) (a b : Airspace) → IsReplyTo g old mid c.0 c.1 r → is_shut old ≡ false → g.is_broken (space_of mid) ≡ false → g.is_sound (space_of mid)
      → IsContent g.holds (space_of old) b → IsContent k.persists (space_of mid) a
      → ((x y : Airspace) → is_shut mid ≡ false → IsContent g.holds (space_of mid) y → IsContent k.persists (space_of mid) x → Keeping (salt_of old) x cs rs new)
      → Keeping (salt_of old) a cs rs new
  keeping_later old mid c Stopped cs rs new a b reply n works sound content kept next = absurd (false≢true (sym works ∙ (reply.answers n).breaks))
  keeping_later old mid c Fault cs rs new a b reply n works sound content kept next =
      let l : Leaves g (salt_of old) b c.0 c.1 Fault (space_of mid) = (reply.answers n).step sound b content in
      next a b (reply.shuts n) l kept
  keeping_later old mid c (Done x) cs rs new a b reply n works sound content kept next =
      let l : Leaves g (salt_of old) b c.0 c.1 (Done x) (space_of mid) = (reply.answers n).step sound b content in
      next a (step (salt_of old) b c.0 c.1).0 (reply.shuts n) l.1 kept
  keeping_later old mid c (Denied p m) cs rs new a b reply n works sound content kept next =
      let l : Leaves g (salt_of old) b c.0 c.1 (Denied p m) (space_of mid) = (reply.answers n).step sound b content in
      next a b (reply.shuts n) l.1 kept

  keeping_first : (fault : SpaceFault) (old mid : Service S) (c : TimedCall) (r : Reply) (w : Bool) (cs : List TimedCall) (rs : List Reply) (new : S) (a b : Airspace) → IsReplyTo g old mid c.0 c.1 r
      → w ≡ (k.is_pending (space_of old) || k.is_pending (space_of mid)) → is_shut old ≡ false → g.is_sound (space_of mid)
      → IsContent g.holds (space_of old) b → IsContent k.persists (space_of old) a
      → ((x y : Airspace) → is_shut mid ≡ false → IsContent g.holds (space_of mid) y → IsContent k.persists (space_of mid) x → Keeping (salt_of old) x cs rs new)
      → Keeping (salt_of old) a (c ∷ cs) (cond w (reply_of (Space fault)) r ∷ rs) new
  keeping_first Broken old mid c r true cs rs new a b reply waits n sound content kept next = record { replies = refl; whole = λ x. absurd (false≢true (sym x)) }
  keeping_first Unchanged old mid c r true cs rs new a b reply waits n sound content kept next =
      let fixed = reply.stays.fixed in
      let rest = keeping_later old mid c r cs rs new a b reply n (unbroken (space_of old) (space_of mid) (reply.stays.sound sound) sound fixed (sym waits)) sound content (kept_rests (space_of old) (space_of mid) a fixed (sym waits) kept) next in
      record { replies = rest.replies; whole = rest.whole }
  keeping_first fault old mid c r false cs rs new a b reply waits n sound content kept next =
      let calm = calm_parts (k.is_pending (space_of old)) (k.is_pending (space_of mid)) waits in
      keeping_at_once old mid c r cs rs new a reply n calm.1 sound (held_quiet (space_of old) a calm.0 kept) next

  keeping : (fault : SpaceFault) (old : Service S) (ms : List CallRecord) (new : Service S) (a b : Airspace) → CalledInOrder g k old ms new → is_shut old ≡ false → g.is_sound (space_of new)
      → IsContent g.holds (space_of old) b → IsContent k.persists (space_of old) a
      → Keeping (salt_of old) a (map (λ m. m.timed) ms) (map (delivered_reply (Err fault)) ms) (space_of new)
  keeping fault old [] new a b h n sound content kept = record {
    replies = refl;
    whole = λ x. subst (λ (y : Service S). IsContent k.persists (space_of y) a) (sym h) kept;
  }
  keeping fault old (m ∷ ms) new a b h n sound content kept =
      keeping_first fault old h.0 m.timed m.reply m.waits (map (λ m. m.timed) ms) (map (delivered_reply (Err fault)) ms) (space_of new) a b h.1 h.2 n ((calls h.0 ms new h.3).stays.sound sound) content kept
      (λ x y n' held keeps. subst (λ (salt : List ℕ). Keeping salt x (map (λ m. m.timed) ms) (map (delivered_reply (Err fault)) ms) (space_of new)) h.1.stays.salt (keeping fault h.0 ms new x y h.3 n' sound held keeps))

  -- ---- a batch, and the batches after it

  -- What holds for batches from a service without pending changes, whether it is shut or not.
  pub record Follows (s : Service S) (rest : List Batch) (new : Service S) : Type 0 where
    pub live : (a : Airspace) → is_shut s ≡ false → IsContent g.holds (space_of s) a → RunsInBatches k (salt_of s) a rest new
    pub shut : (a : Airspace) → is_shut s ≡ true → g.is_broken (space_of s) ≡ true → ((b : Airspace) → k.persists (space_of s) b → b ≡ a) → RunsInBatches k (salt_of s) a rest new
    pub others : is_shut s ≡ true → g.is_broken (space_of s) ≡ true → All (λ r. r ≡ Stopped) (all_delivered rest)
    pub same : is_shut s ≡ true → g.is_broken (space_of s) ≡ true → (salt : List ℕ) (a : Airspace) → MayHavePersisted salt a rest a
    pub ends : is_shut s ≡ true → g.is_broken (space_of s) ≡ true → (is_shut new ≡ true) × (g.is_broken (space_of new) ≡ true) × ((b : Airspace) → k.persists (space_of new) b → k.persists (space_of s) b)

  -- No batch follows.
  pub follows_none : (s : Service S) → k.is_pending (space_of s) ≡ false → Follows s [] s
  follows_none s calm = record {
    live = λ a n content. record {
      stopped = tt;
      replies = refl;
      goes = λ x. refl;
      whole = λ x. kept_quiet (space_of s) a calm content;
      kept = λ b held. content.only b ((laws.quiet (space_of s) b calm).1 held);
    };
    shut = λ a n broken only. record {
      stopped = tt;
      replies = refl;
      goes = λ x. refl;
      whole = λ x. absurd (false≢true (sym x ∙ n));
      kept = λ b held. only b held;
    };
    others = λ n broken. All-nil (λ r. r ≡ Stopped);
    same = λ n broken salt a. refl;
    ends = λ n broken. (n, broken, λ b held. held);
  }

  -- Each call of a shut service gets the reply `Stopped`.
  told_shut : (result : Result (Unit {0}) SpaceFault) (old : Service S) (m : CallRecord) (mid : Service S) → IsReplyTo g old mid m.timed.0 m.timed.1 m.reply → m.waits ≡ (k.is_pending (space_of old) || k.is_pending (space_of mid)) → is_shut old ≡ true → k.is_pending (space_of old) ≡ false → delivered_reply result m ≡ Stopped
  told_shut result old m mid reply waits n calm =
      told_stopped result m (waits ∙ (ap (λ (s : Service S). k.is_pending (space_of old) || k.is_pending (space_of s)) (reply.stays.shut n) ∙ ap (λ (b : Bool). b || b) calm)) (reply.shut n)

  all_shut : (result : Result (Unit {0}) SpaceFault) (old : Service S) (ms : List CallRecord) (mid : Service S) (rs : List Reply) → CalledInOrder g k old ms mid → is_shut old ≡ true → k.is_pending (space_of old) ≡ false → All (λ r. r ≡ Stopped) rs → All (λ r. r ≡ Stopped) (map (delivered_reply result) ms ++ rs)
  all_shut result old [] mid rs h n calm others = others
  all_shut result old (m ∷ ms) mid rs h n calm others =
      let same = h.1.stays.shut n in
      All-cons (λ r. r ≡ Stopped) (delivered_reply result m) (map (delivered_reply result) ms ++ rs) (told_shut result old m h.0 h.1 h.2 n calm)
      (all_shut result h.0 ms mid rs h.3 (ap (λ (s : Service S). is_shut s) same ∙ n) (ap (λ (s : Service S). k.is_pending (space_of s)) same ∙ calm) others)

  -- A batch of a shut service comes before the others.
  front_shut : (salt : List ℕ) (a : Airspace) (ms : List CallRecord) (result : Result (Unit {0}) SpaceFault) (old mid : Service S) (rest : List Batch) (new : Service S) → CalledInOrder g k old ms mid → is_shut old ≡ true → k.is_pending (space_of old) ≡ false
      → is_shut new ≡ true → ((b : Airspace) → k.persists (space_of new) b → b ≡ a) → All (λ r. r ≡ Stopped) (all_delivered rest) → RunsInBatches k salt a rest new
      → RunsInBatches k salt a (record { calls = ms; settled = result } ∷ rest) new
  front_shut salt a [] result old mid rest new h n calm shut only others then = front k salt a (record { calls = []; settled = result }) rest new refl refl then
  front_shut salt a (m ∷ ms) result old mid rest new h n calm shut only others then =
      let batch : Batch = record { calls = m ∷ ms; settled = result } in
      let cs : List TimedCall = map (λ m. m.timed) ms in
      let is : (r : Result (Unit {0}) SpaceFault) → delivered_reply r m ≡ Stopped = λ r. told_shut r old m h.0 h.1 h.2 n calm in
      front_stopped k salt a batch rest new
      (subst (λ (r : Reply). delivered_replies (r ∷ map (delivered_reply result) ms) ≡ replies_of salt a (answered_calls (m.timed ∷ cs) (r ∷ map (delivered_reply result) ms))) (sym (is result)) refl)
      (subst (λ (r : Reply). has_stopped (r ∷ map (delivered_reply result) ms) ≡ true) (sym (is result)) refl)
      shut others
      (λ b held. inl (subst (λ (r : Reply). b ≡ airspace_after salt a (answered_calls (m.timed ∷ cs) (r ∷ map (delivered_reply (Err Unchanged)) ms))) (sym (is (Err Unchanged))) (only b held)))

  -- A batch of a shut service may leave any airspace as it was.
  same_shut : (salt : List ℕ) (a : Airspace) (ms : List CallRecord) (result : Result (Unit {0}) SpaceFault) (old mid : Service S) (rest : List Batch) → CalledInOrder g k old ms mid → is_shut old ≡ true → k.is_pending (space_of old) ≡ false
      → MayHavePersisted salt a rest a → MayHavePersisted salt a (record { calls = ms; settled = result } ∷ rest) a
  same_shut salt a [] result old mid rest h n calm then = then
  same_shut salt a (m ∷ ms) result old mid rest h n calm then =
      let batch : Batch = record { calls = m ∷ ms; settled = result } in
      let is : (r : Result (Unit {0}) SpaceFault) → delivered_reply r m ≡ Stopped = λ r. told_shut r old m h.0 h.1 h.2 n calm in
      subst (λ (r : Reply). IfStopped (has_stopped (r ∷ map (delivered_reply result) ms)) (MayHaveLeft salt a batch a) (MayHavePersisted salt (airspace_of salt a batch) rest a)) (sym (is result))
      (inl (subst (λ (r : Reply). a ≡ airspace_after salt a (answered_calls (m.timed ∷ map (λ m. m.timed) ms) (r ∷ map (delivered_reply (Err Unchanged)) ms))) (sym (is (Err Unchanged))) refl))

  -- Facts about the calls of a batch of a service that was not shut.
  module _ (old : Service S) (ms : List CallRecord) (mid : Service S) (made : CalledInOrder g k old ms mid) (n : is_shut old ≡ false) (calm : k.is_pending (space_of old) ≡ false) (sound : g.is_sound (space_of mid)) (a : Airspace) (content : IsContent g.holds (space_of old) a) where
    abbrev cs : List TimedCall
    cs = map (λ m. m.timed) ms

    abbrev rs : List Reply
    rs = map (λ m. m.reply) ms

    told_keeping : (fault : SpaceFault) → Keeping (salt_of old) a cs (map (delivered_reply (Err fault)) ms) (space_of mid)
    told_keeping fault = keeping fault old ms mid a a made n sound content (kept_quiet (space_of old) a calm content)

    made_runs : Runs g (salt_of old) a cs rs (space_of mid)
    made_runs = (calls old ms mid made).runs n sound a content

    goes_unbroken : g.is_broken (space_of mid) ≡ false → has_stopped rs ≡ false
    goes_unbroken works = or_first (has_stopped rs) (g.is_broken (space_of old)) (sym ((calls old ms mid made).breaks n) ∙ works)

    -- The durable airspace is the one before the pending changes, or the visible one if none is
    -- pending.
    kept_open : (b : Airspace) → k.persists (space_of mid) b → MayHaveLeft (salt_of old) a (uncommitted ms) b
    kept_open b held =
        elim (has_stopped rs) as (λ x. has_stopped rs ≡ x → MayHaveLeft (salt_of old) a (uncommitted ms) b) [
          | true ↦ λ x.
              let broken : g.is_broken (space_of mid) ≡ true = (calls old ms mid made).breaks n ∙ ap (λ (y : Bool). y || g.is_broken (space_of old)) x in
              inr (made_runs.kept b ((laws.quiet (space_of mid) b (calm_broken (space_of mid) sound broken)).1 held))
          | false ↦ λ x. inl (((told_keeping Unchanged).whole (unstopped ms x)).only b held)
        ] refl

    shut_open : has_stopped (map (delivered_reply (Err Unchanged)) ms) ≡ true → is_shut mid ≡ true
    shut_open stops =
        elim (has_stopped rs) as (λ x. has_stopped rs ≡ x → is_shut mid ≡ true) [
          | true ↦ λ x. (calls old ms mid made).shuts n ∙ x
          | false ↦ λ x. absurd (false≢true (sym (unstopped ms x) ∙ stops))
        ] refl

    -- The batch is still open.
    open_live : RunsInBatches k (salt_of old) a (uncommitted ms ∷ []) mid
    open_live =
        elim (has_stopped (map (delivered_reply (Err Unchanged)) ms)) as (λ x. has_stopped (map (delivered_reply (Err Unchanged)) ms) ≡ x → RunsInBatches k (salt_of old) a (uncommitted ms ∷ []) mid) [
          | true ↦ λ x. front_stopped k (salt_of old) a (uncommitted ms) [] mid (told_keeping Unchanged).replies x (shut_open x) (All-nil (λ r. r ≡ Stopped)) kept_open
          | false ↦ λ x.
              let kept = (told_keeping Unchanged).whole x in
              front k (salt_of old) a (uncommitted ms) [] mid (told_keeping Unchanged).replies x (record { stopped = tt; replies = refl; goes = λ y. refl; whole = λ y. kept; kept = λ b held. kept.only b held })
        ] refl

    -- The batch has ended.
    module _ (end : Service S) (rest : List Batch) (new : Service S) (ended : g.is_sound (space_of end)) (follows : Follows end rest new) where
      abbrev Front : Result (Unit {0}) SpaceFault → Type 0
      Front result = IsCommitted g k mid end result → RunsInBatches k (salt_of old) a (record { calls = ms; settled = result } ∷ rest) new

      same_salt : (result : Result (Unit {0}) SpaceFault) (x : Airspace) → IsCommitted g k mid end result → RunsInBatches k (salt_of end) x rest new → RunsInBatches k (salt_of old) x rest new
      same_salt result x settled runs = subst (λ (salt : List ℕ). RunsInBatches k salt x rest new) (settled.salt ∙ (calls old ms mid made).stays.salt) runs

      works_before : (result : Result (Unit {0}) SpaceFault) → IsCommitted g k mid end result → (result ≡ Err Broken → ⊥) → g.is_broken (space_of mid) ≡ false
      works_before result settled not =
          elim (g.is_broken (space_of mid)) as (λ x. g.is_broken (space_of mid) ≡ x → x ≡ false) [
            | true ↦ λ x. absurd (not (settled.tells.stays_broken x))
            | false ↦ λ x. refl
          ] refl

      front_kept : (x : Unit {0}) → Front (Ok x)
      front_kept x settled =
          let goes = goes_unbroken (works_before (Ok x) settled (λ e. cc)) in
          let after : Airspace = airspace_after (salt_of old) a (answered_calls cs rs) in
          front k (salt_of old) a (record { calls = ms; settled = Ok x }) rest new made_runs.replies goes
          (same_salt (Ok x) after settled (follows.live after (settled.shuts ∙ ((calls old ms mid made).shuts n ∙ goes)) (settled.settles.done ended after (made_runs.whole goes).held)))

      front_refused : Front (Err Unchanged)
      front_refused settled =
          let goes = goes_unbroken (works_before (Err Unchanged) settled (λ e. cc)) in
          let told = unstopped ms goes in
          let kept = (told_keeping Unchanged).whole told in
          let after : Airspace = airspace_of (salt_of old) a (uncommitted ms) in
          front k (salt_of old) a (uncommitted ms) rest new (told_keeping Unchanged).replies told
          (same_salt (Err Unchanged) after settled (follows.live after (settled.shuts ∙ ((calls old ms mid made).shuts n ∙ goes)) (record {
            held = (settled.settles.refused ended refl after).0 kept.held;
            only = λ b held. kept.only b ((settled.settles.refused ended refl b).1 held);
          })))

      front_broken : Front (Err Broken)
      front_broken settled =
          let batch : Batch = record { calls = ms; settled = Err Broken } in
          let before : (b : Airspace) → k.persists (space_of end) b → k.persists (space_of mid) b ⊎ g.holds (space_of mid) b = λ b held. settled.settles.no_other ended b ((laws.quiet (space_of end) b settled.calm).1 held) in
          elim (has_stopped (map (delivered_reply (Err Broken)) ms)) as (λ x. has_stopped (map (delivered_reply (Err Broken)) ms) ≡ x → RunsInBatches k (salt_of old) a (batch ∷ rest) new) [
            | true ↦ λ x.
                let ends = follows.ends settled.shuts settled.tells.breaks in
                front_stopped k (salt_of old) a batch rest new (told_keeping Broken).replies x ends.0 (follows.others settled.shuts settled.tells.breaks)
                (λ b held. elim (before b (ends.2 b held)) [
                  | inl kept ↦ kept_open b kept
                  | inr seen ↦ inr (made_runs.kept b seen)
                ])
            | false ↦ λ x.
                let same = as_made ms x in
                let goes : has_stopped rs ≡ false = subst (λ (ys : List Reply). has_stopped ys ≡ false) same x in
                let after : Airspace = airspace_of (salt_of old) a batch in
                let seen : IsContent g.holds (space_of mid) after = subst (λ (ys : List Reply). IsContent g.holds (space_of mid) (airspace_after (salt_of old) a (answered_calls cs ys))) (sym same) (made_runs.whole goes) in
                front k (salt_of old) a batch rest new (told_keeping Broken).replies x
                (same_salt (Err Broken) after settled (follows.shut after settled.shuts settled.tells.breaks (λ b held. elim (before b held) [
                  | inl kept ↦ ((told_keeping Broken).whole x).only b kept
                  | inr held ↦ seen.only b held
                ])))
          ] refl

      front_live : (result : Result (Unit {0}) SpaceFault) → Front result
      front_live (Ok x) = front_kept x
      front_live (Err Unchanged) = front_refused
      front_live (Err Broken) = front_broken

  -- The batch is still open.
  pub follows_open : (mid : Service S) (ms : List CallRecord) (new : Service S) → CalledInOrder g k mid ms new → k.is_pending (space_of mid) ≡ false → g.is_sound (space_of new) → Follows mid (uncommitted ms ∷ []) new
  follows_open mid ms new made calm sound = record {
    live = λ a n content. open_live mid ms new made n calm sound a content;
    shut = λ a n broken only.
        let same = (calls mid ms new made).stays.shut n in
        let shut : is_shut new ≡ true = ap (λ (s : Service S). is_shut s) same ∙ n in
        let none : (b : Airspace) → k.persists (space_of new) b → b ≡ a = λ b held. only b (subst (λ (s : Service S). k.persists (space_of s) b) same held) in
        front_shut (salt_of mid) a ms (Err Unchanged) mid new [] new made n calm shut none (All-nil (λ r. r ≡ Stopped))
        (record { stopped = tt; replies = refl; goes = λ x. refl; whole = λ x. absurd (false≢true (sym x ∙ shut)); kept = none });
    others = λ n broken. all_shut (Err Unchanged) mid ms new [] made n calm (All-nil (λ r. r ≡ Stopped));
    ends = λ n broken.
        let same = (calls mid ms new made).stays.shut n in
        (ap (λ (s : Service S). is_shut s) same ∙ n, ap (λ (s : Service S). g.is_broken (space_of s)) same ∙ broken, λ b held. subst (λ (s : Service S). k.persists (space_of s) b) same held);
    same = λ n broken salt a. same_shut salt a ms (Err Unchanged) mid new [] made n calm refl;
  }

  -- One more batch.
  module _ (old : Service S) (ms : List CallRecord) (mid : Service S) (result : Result (Unit {0}) SpaceFault) (end : Service S) (rest : List Batch) (new : Service S) (made : CalledInOrder g k old ms mid) (settled : IsCommitted g k mid end result) (calm : k.is_pending (space_of old) ≡ false) (sound : g.is_sound (space_of end)) (follows : Follows end rest new) where
    ends_more : is_shut old ≡ true → g.is_broken (space_of old) ≡ true
        → (is_shut end ≡ true) × (g.is_broken (space_of end) ≡ true) × ((b : Airspace) → k.persists (space_of end) b → k.persists (space_of old) b)
    ends_more n broken =
        let same = (calls old ms mid made).stays.shut n in
        let quiet : k.is_pending (space_of mid) ≡ false = ap (λ (s : Service S). k.is_pending (space_of s)) same ∙ calm in
        let is : result ≡ Err Broken = settled.tells.stays_broken (ap (λ (s : Service S). g.is_broken (space_of s)) same ∙ broken) in (
          settled.shuts ∙ ap (is_broken_after (is_shut mid)) is,
          settled.tells.breaks ∙ ap (is_broken_after (g.is_broken (space_of mid))) is,
          λ b held. subst (λ (s : Service S). k.persists (space_of s) b) same (elim (settled.settles.no_other sound b ((laws.quiet (space_of end) b settled.calm).1 held)) [
            | inl kept ↦ kept
            | inr seen ↦ (laws.quiet (space_of mid) b quiet).0 seen
          ]),
        )

    follows_more : Follows old (record { calls = ms; settled = result } ∷ rest) new
    follows_more = record {
      live = λ a n content. front_live old ms mid made n calm (settled.settles.sound sound) a content end rest new sound follows result settled;
      shut = λ a n broken only.
          let more = ends_more n broken in
          let ends = follows.ends more.0 more.1 in
          front_shut (salt_of old) a ms result old mid rest new made n calm ends.0 (λ b held. only b (more.2 b (ends.2 b held))) (follows.others more.0 more.1)
          (subst (λ (salt : List ℕ). RunsInBatches k salt a rest new) (settled.salt ∙ (calls old ms mid made).stays.salt) (follows.shut a more.0 more.1 (λ b held. only b (more.2 b held))));
      others = λ n broken.
          let more = ends_more n broken in
          all_shut result old ms mid (all_delivered rest) made n calm (follows.others more.0 more.1);
      same = λ n broken salt a.
          let more = ends_more n broken in
          same_shut salt a ms result old mid rest made n calm (follows.same more.0 more.1 salt a);
      ends = λ n broken.
          let more = ends_more n broken in
          let ends = follows.ends more.0 more.1 in
          (ends.0, ends.1, λ b held. more.2 b (ends.2 b held));
    }

  -- ---- all batches

  pub sound_batches : (old : Service S) (batches : List Batch) (new : Service S) → MadeBatches g k old batches new → g.is_sound (space_of new) → g.is_sound (space_of old)
  sound_batches old [] new h sound = subst (λ (s : Service S). g.is_sound (space_of s)) h sound
  sound_batches old (batch ∷ batches) new h sound = (calls old batch.calls h.0 h.2).stays.sound (h.3.settles.sound (sound_batches h.1 batches new h.4 sound))

  pub calm_batches : (old : Service S) (batches : List Batch) (new : Service S) → MadeBatches g k old batches new → k.is_pending (space_of old) ≡ false → k.is_pending (space_of new) ≡ false
  calm_batches old [] new h calm = ap (λ (s : Service S). k.is_pending (space_of s)) h ∙ calm
  calm_batches old (batch ∷ batches) new h calm = calm_batches h.1 batches new h.4 h.3.calm

  pub follows_batches : (old : Service S) (batches : List Batch) (mid : Service S) (more : List Batch) (new : Service S) → MadeBatches g k old batches mid → k.is_pending (space_of old) ≡ false → g.is_sound (space_of mid) → Follows mid more new → Follows old (batches ++ more) new
  follows_batches old [] mid more new h calm sound follows = subst (λ (s : Service S). Follows s more new) h follows
  follows_batches old (batch ∷ batches) mid more new h calm sound follows =
      follows_more old batch.calls h.0 batch.settled h.1 (batches ++ more) new h.2 h.3 calm (sound_batches h.1 batches mid h.4 sound) (follows_batches h.1 batches mid more new h.4 h.3.calm sound follows)

  pub follows_these : (old : Service S) (batches : List Batch) (new : Service S) → MadeBatches g k old batches new → k.is_pending (space_of old) ≡ false → g.is_sound (space_of new) → Follows old batches new
  follows_these old batches new made calm sound =
      subst (λ (all : List Batch). Follows old all new) (append-nil batches)
      (follows_batches old batches new [] new made calm sound (follows_none new (calm_batches old batches new made calm)))

  -- A service that commits every batch is not shut.
  pub goes_batches : (old : Service S) (batches : List Batch) (new : Service S) → MadeBatches g k old batches new → AllByRecursion (λ batch. batch.settled ≡ Ok tt) batches → is_shut old ≡ false → is_shut new ≡ false
  goes_batches old [] new h kept n = ap (λ (s : Service S). is_shut s) h ∙ n
  goes_batches old (batch ∷ batches) new h kept n =
      let settled : IsCommitted g k h.0 h.1 (Ok tt) = subst (IsCommitted g k h.0 h.1) kept.0 h.3 in
      let all = calls old batch.calls h.0 h.2 in
      let works : g.is_broken (space_of h.0) ≡ false = elim (g.is_broken (space_of h.0)) as (λ x. g.is_broken (space_of h.0) ≡ x → x ≡ false) [
        | true ↦ λ x. let bad = settled.tells.stays_broken x in cc
        | false ↦ λ x. refl
      ] refl in
      goes_batches h.1 batches new h.4 kept.1 (settled.shuts ∙ (all.shuts n ∙ or_first (has_stopped (replies_made batch)) (g.is_broken (space_of old)) (sym (all.breaks n) ∙ works)))

  -- ---- the laws

  pub batches_policy : (old new : Service S) (batches : List Batch) (a : Airspace) → AskedInBatches g k old batches new a → RunsInBatches k (salt_of old) a batches new
  batches_policy old new batches a is = (follows_these old batches new is.made is.calm is.sound).live a is.goes is.content

  pub open_batch : (old mid new : Service S) (batches : List Batch) (ms : List CallRecord) (a : Airspace) → AskedInBatches g k old batches mid a → CalledInOrder g k mid ms new → g.is_sound (space_of new) → RunsInBatches k (salt_of old) a (batches ++ uncommitted ms ∷ []) new
  open_batch old mid new batches ms a is made sound =
      (follows_batches old batches mid (uncommitted ms ∷ []) new is.made is.calm is.sound (follows_open mid ms new made (calm_batches old batches mid is.made is.calm) sound)).live a is.goes is.content

  pub kept_batches : (old new : Service S) (batches : List Batch) (a : Airspace) → AskedInBatches g k old batches new a → AllByRecursion (λ batch. batch.settled ≡ Ok tt) batches → Runs g (salt_of old) a (all_timed batches) (all_delivered batches) (space_of new)
  kept_batches old new batches a is kept =
      let runs = batches_policy old new batches a is in
      let goes = goes_batches old batches new is.made kept is.goes in
      let content = held_quiet (space_of new) _ (calm_batches old batches new is.made is.calm) (runs.whole goes) in
      record {
        replies = runs.replies;
        whole = λ x. content;
        kept = λ b held. stepped_all (salt_of old) a (all_timed batches) (all_delivered batches) b (runs.goes goes) (content.only b held);
      }
