-- Lemmas: the replies to a list of calls, from the reply to each.
use Rattle.std.specs.Prelude.{◌≡◌, ℕ, ◌||◌, Bool, true, false, List, [], ◌∷◌, ◌++◌, length, refl, All}
use Rattle.std.proofs.Common.{arith, sym, ap, ◌∙◌, subst}
use Rattle.std.proofs.lemmas.Bool.{false≢true}
use Rattle.std.proofs.lemmas.List.Elements.{All-nil, All-cons}
use Rattle.entity_core.specs.Airspace.{Airspace}
use Rattle.space_core.specs.declared.space.Space.{Ghosts}
use Rattle.space_core.specs.Space.{IsContent}
use Rattle.service_step.specs.declared.reply.Reply.{Reply}
use Rattle.service_step.specs.declared.reply.Reply.TheVariants.{Done, Denied, Fault, Stopped}
use Rattle.service_calls.specs.declared.service.Service.{Service}
use Rattle.service_calls.specs.Held.{Stays, is_shut, salt_of, space_of}
use Rattle.service_step.specs.Step.{step}
use Rattle.service_calls.specs.Service.{Leaves}
use Rattle.service_calls.specs.Run.{Answered, AskedInOrder, IsReplyTo, Runs, StayStopped, TimedCall, answered_calls, has_stopped, replies_of, delivered_replies}

module _ {S : Type 0} (g : Ghosts S) where
  -- Adds one more call to a list of calls.
  pub asked_more : (old : Service S) (cs : List TimedCall) (rs : List Reply) (mid new : Service S) (c : TimedCall) (r : Reply) → AskedInOrder g old cs rs mid
      → IsReplyTo g mid new c.0 c.1 r → AskedInOrder g old (cs ++ c ∷ []) (rs ++ r ∷ []) new
  asked_more old [] [] mid new c r same reply = (new, subst (λ (x : Service S). IsReplyTo g x new c.0 c.1 r) same reply, refl)
  asked_more old [] (x ∷ rs) mid new c r h reply = absurd h
  asked_more old (d ∷ cs) [] mid new c r h reply = absurd h
  asked_more old (d ∷ cs) (x ∷ rs) mid new c r h reply = (h.0, h.1, asked_more h.0 cs rs mid new c r h.2 reply)

  -- ---- invariants of a service

  pub stays_same : (s : Service S) → Stays g s s
  stays_same s = record { salt = refl; shut = λ h. refl; fixed = refl; sound = λ s. s; whole = λ s w. w }

  pub stays_then : (old mid new : Service S) → Stays g old mid → Stays g mid new → Stays g old new
  stays_then old mid new p q = record {
    salt = q.salt ∙ p.salt;
    shut = λ h. q.shut (ap (λ (x : Service S). is_shut x) (p.shut h) ∙ h) ∙ p.shut h;
    fixed = q.fixed ∙ p.fixed;
    sound = λ s. p.sound (q.sound s);
    whole = λ s w. q.whole s (p.whole (q.sound s) w);
  }

  stays_all : (old : Service S) (cs : List TimedCall) (rs : List Reply) (new : Service S) → AskedInOrder g old cs rs new → Stays g old new
  stays_all old [] [] new h = subst (Stays g old) (sym h) (stays_same old)
  stays_all old [] (r ∷ rs) new h = absurd h
  stays_all old (c ∷ cs) [] new h = absurd h
  stays_all old (c ∷ cs) (r ∷ rs) new h = stays_then old h.0 new h.1.stays (stays_all h.0 cs rs new h.2)

  -- ---- a shut service

  shut_all : (old : Service S) (cs : List TimedCall) (rs : List Reply) (new : Service S) → AskedInOrder g old cs rs new → is_shut old ≡ true → All (λ r. r ≡ Stopped) rs
  shut_all old [] [] new h n = All-nil (λ r. r ≡ Stopped)
  shut_all old [] (r ∷ rs) new h n = absurd h
  shut_all old (c ∷ cs) [] new h n = absurd h
  shut_all old (c ∷ cs) (r ∷ rs) new h n =
      All-cons (λ r. r ≡ Stopped) r rs (h.1.shut n) (shut_all h.0 cs rs new h.2 (ap (λ (x : Service S). is_shut x) (h.1.stays.shut n) ∙ n))

  -- After `Stopped`, nothing changes.
  same_after : (old mid : Service S) (cs : List TimedCall) (rs : List Reply) (new : Service S) (c : TimedCall) → IsReplyTo g old mid c.0 c.1 Stopped → AskedInOrder g mid cs rs new → is_shut old ≡ false → new ≡ mid
  same_after old mid cs rs new c reply h n = (stays_all mid cs rs new h).shut (reply.shuts n)

  -- ---- a service that is not shut

  one_each : (old : Service S) (cs : List TimedCall) (rs : List Reply) (new : Service S) → AskedInOrder g old cs rs new → length rs ≡ length cs
  one_each old [] [] new h = refl
  one_each old [] (r ∷ rs) new h = absurd h
  one_each old (c ∷ cs) [] new h = absurd h
  one_each old (c ∷ cs) (r ∷ rs) new h = omega (arith, one_each h.0 cs rs new h.2)

  shuts_all : (old : Service S) (cs : List TimedCall) (rs : List Reply) (new : Service S) → AskedInOrder g old cs rs new → is_shut old ≡ false → is_shut new ≡ has_stopped rs
  shuts_all old [] [] new h n = ap (λ (x : Service S). is_shut x) h ∙ n
  shuts_all old [] (r ∷ rs) new h n = absurd h
  shuts_all old (c ∷ cs) [] new h n = absurd h
  shuts_all old (c ∷ cs) (Stopped ∷ rs) new h n = ap (λ (x : Service S). is_shut x) (same_after old h.0 cs rs new c h.1 h.2 n) ∙ h.1.shuts n
  shuts_all old (c ∷ cs) (Fault ∷ rs) new h n = shuts_all h.0 cs rs new h.2 (h.1.shuts n)
  shuts_all old (c ∷ cs) (Done x ∷ rs) new h n = shuts_all h.0 cs rs new h.2 (h.1.shuts n)
  shuts_all old (c ∷ cs) (Denied p m ∷ rs) new h n = shuts_all h.0 cs rs new h.2 (h.1.shuts n)

  stopped_all : (old : Service S) (cs : List TimedCall) (rs : List Reply) (new : Service S) → AskedInOrder g old cs rs new → is_shut old ≡ false → StayStopped rs
  stopped_all old [] [] new h n = tt
  stopped_all old [] (r ∷ rs) new h n = absurd h
  stopped_all old (c ∷ cs) [] new h n = absurd h
  stopped_all old (c ∷ cs) (Stopped ∷ rs) new h n = shut_all h.0 cs rs new h.2 (h.1.shuts n)
  stopped_all old (c ∷ cs) (Fault ∷ rs) new h n = stopped_all h.0 cs rs new h.2 (h.1.shuts n)
  stopped_all old (c ∷ cs) (Done x ∷ rs) new h n = stopped_all h.0 cs rs new h.2 (h.1.shuts n)
  stopped_all old (c ∷ cs) (Denied p m ∷ rs) new h n = stopped_all h.0 cs rs new h.2 (h.1.shuts n)

  breaks_all : (old : Service S) (cs : List TimedCall) (rs : List Reply) (new : Service S) → AskedInOrder g old cs rs new → is_shut old ≡ false
      → g.is_broken (space_of new) ≡ (has_stopped rs || g.is_broken (space_of old))
  breaks_all old [] [] new h n = ap (λ (x : Service S). g.is_broken (space_of x)) h
  breaks_all old [] (r ∷ rs) new h n = absurd h
  breaks_all old (c ∷ cs) [] new h n = absurd h
  breaks_all old (c ∷ cs) (Stopped ∷ rs) new h n = ap (λ (x : Service S). g.is_broken (space_of x)) (same_after old h.0 cs rs new c h.1 h.2 n) ∙ (h.1.answers n).breaks
  breaks_all old (c ∷ cs) (Fault ∷ rs) new h n = breaks_all h.0 cs rs new h.2 (h.1.shuts n) ∙ ap (λ (b : Bool). has_stopped rs || b) (h.1.answers n).breaks
  breaks_all old (c ∷ cs) (Done x ∷ rs) new h n = breaks_all h.0 cs rs new h.2 (h.1.shuts n) ∙ ap (λ (b : Bool). has_stopped rs || b) (h.1.answers n).breaks
  breaks_all old (c ∷ cs) (Denied p m ∷ rs) new h n = breaks_all h.0 cs rs new h.2 (h.1.shuts n) ∙ ap (λ (b : Bool). has_stopped rs || b) (h.1.answers n).breaks

  -- Adds a call with the policy's reply before the others.
  runs_on : (salt : List ℕ) (a : Airspace) (c : TimedCall) (r : Reply) (cs : List TimedCall) (rs : List Reply) (new : S) → (step salt a c.0 c.1).1 ≡ r → Runs g salt (step salt a c.0 c.1).0 cs rs new
      → r ∷ delivered_replies rs ≡ replies_of salt a (c ∷ answered_calls cs rs)
  runs_on salt a c r cs rs new is rest =
      ap (λ (x : Reply). x ∷ delivered_replies rs) (sym is) ∙ ap (λ (xs : List Reply). (step salt a c.0 c.1).1 ∷ xs) rest.replies

  runs_all : (old : Service S) (cs : List TimedCall) (rs : List Reply) (new : Service S) → AskedInOrder g old cs rs new → is_shut old ≡ false → g.is_sound (space_of new)
      → (a : Airspace) → IsContent g.holds (space_of old) a → Runs g (salt_of old) a cs rs (space_of new)
  runs_all old [] [] new h n s a content = record {
    replies = refl;
    whole = λ x. subst (λ (y : Service S). IsContent g.holds (space_of y) a) (sym h) content;
    kept = λ b held. content.only b (subst (λ (y : Service S). g.holds (space_of y) b) h held);
  }
  runs_all old [] (r ∷ rs) new h n s a content = absurd h
  runs_all old (c ∷ cs) [] new h n s a content = absurd h
  runs_all old (c ∷ cs) (Stopped ∷ rs) new h n s a content =
      let l : Leaves g (salt_of old) a c.0 c.1 Stopped (space_of h.0) = (h.1.answers n).step ((stays_all h.0 cs rs new h.2).sound s) a content in
      record {
        replies = refl;
        whole = λ x. absurd (false≢true (sym x));
        kept = λ b held. l b (subst (λ (y : Service S). g.holds (space_of y) b) (same_after old h.0 cs rs new c h.1 h.2 n) held);
      }
  runs_all old (c ∷ cs) (Fault ∷ rs) new h n s a content =
      let l : Leaves g (salt_of old) a c.0 c.1 Fault (space_of h.0) = (h.1.answers n).step ((stays_all h.0 cs rs new h.2).sound s) a content in
      let rest = subst (λ (x : List ℕ). Runs g x a cs rs (space_of new)) h.1.stays.salt (runs_all h.0 cs rs new h.2 (h.1.shuts n) s a l) in
      record { replies = rest.replies; whole = rest.whole; kept = rest.kept }
  runs_all old (c ∷ cs) (Done x ∷ rs) new h n s a content =
      let then = step (salt_of old) a c.0 c.1 in
      let l : Leaves g (salt_of old) a c.0 c.1 (Done x) (space_of h.0) = (h.1.answers n).step ((stays_all h.0 cs rs new h.2).sound s) a content in
      let rest = subst (λ (x : List ℕ). Runs g x then.0 cs rs (space_of new)) h.1.stays.salt (runs_all h.0 cs rs new h.2 (h.1.shuts n) s then.0 l.1) in
      record { replies = runs_on (salt_of old) a c (Done x) cs rs (space_of new) l.0 rest; whole = rest.whole; kept = rest.kept }
  runs_all old (c ∷ cs) (Denied p m ∷ rs) new h n s a content =
      let then = step (salt_of old) a c.0 c.1 in
      let l : Leaves g (salt_of old) a c.0 c.1 (Denied p m) (space_of h.0) = (h.1.answers n).step ((stays_all h.0 cs rs new h.2).sound s) a content in
      let there = subst (IsContent g.holds (space_of h.0)) (ap (λ (x : Airspace × Reply). x.0) (sym l.0)) l.1 in
      let rest = subst (λ (x : List ℕ). Runs g x then.0 cs rs (space_of new)) h.1.stays.salt (runs_all h.0 cs rs new h.2 (h.1.shuts n) s then.0 there) in
      record { replies = runs_on (salt_of old) a c (Denied p m) cs rs (space_of new) (ap (λ (x : Airspace × Reply). x.1) l.0) rest; whole = rest.whole; kept = rest.kept }

  -- All replies to a list of calls have the stated properties.
  pub answered : (old : Service S) (cs : List TimedCall) (rs : List Reply) (new : Service S) → AskedInOrder g old cs rs new → Answered g old cs rs new
  answered old cs rs new h = record {
    in_order = h;
    one_each = one_each old cs rs new h;
    stays = stays_all old cs rs new h;
    shut = shut_all old cs rs new h;
    shuts = shuts_all old cs rs new h;
    stopped = stopped_all old cs rs new h;
    runs = runs_all old cs rs new h;
    breaks = breaks_all old cs rs new h;
  }
