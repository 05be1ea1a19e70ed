-- Lemmas: the replies to calls, after the replies to the calls before them.
use Rattle.std.specs.Prelude.{◌≡◌, ℕ, true, false, List, [], ◌∷◌, ◌++◌, length, refl}
use Rattle.std.proofs.Common.{arith, sym, ap, ◌∙◌}
use Rattle.std.proofs.lemmas.Bool.{false≢true}
use Rattle.entity_core.specs.Airspace.{Airspace}
use Rattle.service_step.specs.declared.reply.Reply.{Reply}
use Rattle.service_step.specs.declared.reply.Reply.TheVariants.{Done, Denied, Fault, Stopped}
use Rattle.service_step.specs.Step.{step}
use Rattle.service_calls.specs.Run.{MayHaveStepped, TimedCall, airspace_after, answered_calls, has_stopped, replies_of, delivered_replies}

one_less : {X Y : Type 0} (x : X) (y : Y) (xs : List X) (ys : List Y) → length (x ∷ xs) ≡ length (y ∷ ys) → length xs ≡ length ys
one_less x y xs ys e = omega (arith, e)

-- ---- without `Stopped` among the first replies

pub stops_then : (rs qs : List Reply) → has_stopped rs ≡ false → has_stopped (rs ++ qs) ≡ has_stopped qs
stops_then [] qs h = refl
stops_then (Stopped ∷ rs) qs h = absurd (false≢true (sym h))
stops_then (Fault ∷ rs) qs h = stops_then rs qs h
stops_then (Done x ∷ rs) qs h = stops_then rs qs h
stops_then (Denied p m ∷ rs) qs h = stops_then rs qs h

pub told_then : (rs qs : List Reply) → has_stopped rs ≡ false → delivered_replies (rs ++ qs) ≡ delivered_replies rs ++ delivered_replies qs
told_then [] qs h = refl
told_then (Stopped ∷ rs) qs h = absurd (false≢true (sym h))
told_then (Fault ∷ rs) qs h = told_then rs qs h
told_then (Done x ∷ rs) qs h = ap (λ (xs : List Reply). Done x ∷ xs) (told_then rs qs h)
told_then (Denied p m ∷ rs) qs h = ap (λ (xs : List Reply). Denied p m ∷ xs) (told_then rs qs h)

pub answered_then : (cs : List TimedCall) (rs : List Reply) (ds : List TimedCall) (qs : List Reply) → length rs ≡ length cs → has_stopped rs ≡ false → answered_calls (cs ++ ds) (rs ++ qs) ≡ answered_calls cs rs ++ answered_calls ds qs
answered_then [] [] ds qs e h = refl
answered_then [] (r ∷ rs) ds qs e h = absurd (omega (arith, e))
answered_then (c ∷ cs) [] ds qs e h = absurd (omega (arith, e))
answered_then (c ∷ cs) (Stopped ∷ rs) ds qs e h = absurd (false≢true (sym h))
answered_then (c ∷ cs) (Fault ∷ rs) ds qs e h = answered_then cs rs ds qs (one_less Fault c rs cs e) h
answered_then (c ∷ cs) (Done x ∷ rs) ds qs e h = ap (λ (xs : List TimedCall). c ∷ xs) (answered_then cs rs ds qs (one_less (Done x) c rs cs e) h)
answered_then (c ∷ cs) (Denied p m ∷ rs) ds qs e h = ap (λ (xs : List TimedCall). c ∷ xs) (answered_then cs rs ds qs (one_less (Denied p m) c rs cs e) h)

pub replies_then : (salt : List ℕ) (a : Airspace) (cs ds : List TimedCall) → replies_of salt a (cs ++ ds) ≡ replies_of salt a cs ++ replies_of salt (airspace_after salt a cs) ds
replies_then salt a [] ds = refl
replies_then salt a (c ∷ cs) ds = ap (λ (xs : List Reply). (step salt a c.0 c.1).1 ∷ xs) (replies_then salt (step salt a c.0 c.1).0 cs ds)

after_then : (salt : List ℕ) (a : Airspace) (cs ds : List TimedCall) → airspace_after salt a (cs ++ ds) ≡ airspace_after salt (airspace_after salt a cs) ds
after_then salt a [] ds = refl
after_then salt a (c ∷ cs) ds = after_then salt (step salt a c.0 c.1).0 cs ds

module _ (salt : List ℕ) (a : Airspace) (cs : List TimedCall) (rs : List Reply) (ds : List TimedCall) (qs : List Reply) (even : length rs ≡ length cs) where
  abbrev mid : Airspace
  mid = airspace_after salt a (answered_calls cs rs)

  -- The replies of the policy to two lists of calls, one after the other.
  pub policy_then : has_stopped rs ≡ false → delivered_replies rs ≡ replies_of salt a (answered_calls cs rs) → delivered_replies qs ≡ replies_of salt mid (answered_calls ds qs)
      → delivered_replies (rs ++ qs) ≡ replies_of salt a (answered_calls (cs ++ ds) (rs ++ qs))
  policy_then h first then =
      told_then rs qs h
      ∙ (ap (λ (xs : List Reply). xs ++ delivered_replies qs) first
      ∙ (ap (λ (xs : List Reply). replies_of salt a (answered_calls cs rs) ++ xs) then
      ∙ (sym (replies_then salt a (answered_calls cs rs) (answered_calls ds qs))
      ∙ ap (replies_of salt a) (sym (answered_then cs rs ds qs even h)))))

  -- The airspace after two lists of calls, one after the other.
  pub airspace_then : has_stopped rs ≡ false → airspace_after salt mid (answered_calls ds qs) ≡ airspace_after salt a (answered_calls (cs ++ ds) (rs ++ qs))
  airspace_then h = sym (after_then salt a (answered_calls cs rs) (answered_calls ds qs)) ∙ ap (airspace_after salt a) (sym (answered_then cs rs ds qs even h))

-- ---- with `Stopped` among the first replies

stopped_then : (rs qs : List Reply) → has_stopped rs ≡ true → delivered_replies (rs ++ qs) ≡ delivered_replies rs
stopped_then [] qs h = absurd (false≢true h)
stopped_then (Stopped ∷ rs) qs h = refl
stopped_then (Fault ∷ rs) qs h = stopped_then rs qs h
stopped_then (Done x ∷ rs) qs h = ap (λ (xs : List Reply). Done x ∷ xs) (stopped_then rs qs h)
stopped_then (Denied p m ∷ rs) qs h = ap (λ (xs : List Reply). Denied p m ∷ xs) (stopped_then rs qs h)

answered_stopped : (cs : List TimedCall) (rs : List Reply) (ds : List TimedCall) (qs : List Reply) → length rs ≡ length cs → has_stopped rs ≡ true → answered_calls (cs ++ ds) (rs ++ qs) ≡ answered_calls cs rs
answered_stopped cs [] ds qs e h = absurd (false≢true h)
answered_stopped [] (r ∷ rs) ds qs e h = absurd (omega (arith, e))
answered_stopped (c ∷ cs) (Stopped ∷ rs) ds qs e h = refl
answered_stopped (c ∷ cs) (Fault ∷ rs) ds qs e h = answered_stopped cs rs ds qs (one_less Fault c rs cs e) h
answered_stopped (c ∷ cs) (Done x ∷ rs) ds qs e h = ap (λ (xs : List TimedCall). c ∷ xs) (answered_stopped cs rs ds qs (one_less (Done x) c rs cs e) h)
answered_stopped (c ∷ cs) (Denied p m ∷ rs) ds qs e h = ap (λ (xs : List TimedCall). c ∷ xs) (answered_stopped cs rs ds qs (one_less (Denied p m) c rs cs e) h)

-- After `Stopped`, no further reply counts.
pub policy_stopped : (salt : List ℕ) (a : Airspace) (cs : List TimedCall) (rs : List Reply) (ds : List TimedCall) (qs : List Reply) → length rs ≡ length cs → has_stopped rs ≡ true → delivered_replies rs ≡ replies_of salt a (answered_calls cs rs)
    → delivered_replies (rs ++ qs) ≡ replies_of salt a (answered_calls (cs ++ ds) (rs ++ qs))
policy_stopped salt a cs rs ds qs e h first = stopped_then rs qs h ∙ (first ∙ ap (replies_of salt a) (sym (answered_stopped cs rs ds qs e h)))

pub goes_first : (rs qs : List Reply) → has_stopped (rs ++ qs) ≡ false → has_stopped rs ≡ false
goes_first [] qs h = refl
goes_first (Stopped ∷ rs) qs h = absurd (false≢true (sym h))
goes_first (Fault ∷ rs) qs h = goes_first rs qs h
goes_first (Done x ∷ rs) qs h = goes_first rs qs h
goes_first (Denied p m ∷ rs) qs h = goes_first rs qs h

-- If no reply is `Stopped`, the airspace is that after all answered calls.
pub stepped_all : (salt : List ℕ) (a : Airspace) (cs : List TimedCall) (rs : List Reply) (b : Airspace) → has_stopped rs ≡ false → b ≡ airspace_after salt a (answered_calls cs rs) → MayHaveStepped salt a cs rs b
stepped_all salt a [] rs b h is = is
stepped_all salt a (c ∷ cs) [] b h is = is
stepped_all salt a (c ∷ cs) (Stopped ∷ rs) b h is = absurd (false≢true (sym h))
stepped_all salt a (c ∷ cs) (Fault ∷ rs) b h is = stepped_all salt a cs rs b h is
stepped_all salt a (c ∷ cs) (Done x ∷ rs) b h is = stepped_all salt (step salt a c.0 c.1).0 cs rs b h is
stepped_all salt a (c ∷ cs) (Denied p m ∷ rs) b h is = stepped_all salt (step salt a c.0 c.1).0 cs rs b h is
