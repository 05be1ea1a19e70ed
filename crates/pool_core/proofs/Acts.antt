-- Lemmas: lists of acts.
use Rattle.std.proofs.Common.{◌≡◌, ℕ, zero, suc, List, [], ◌∷◌, ◌++◌, length, map, take, Some, slice_get, refl, ap}
use Rattle.entity_core.specs.Airspace.{Airspace}
use Rattle.service_step.specs.declared.reply.Reply.{Reply}
use Rattle.service_step.specs.Step.{step}
use Rattle.service_calls.specs.Run.{TimedCall, airspace_after, replies_of}
use Rattle.pool_core.specs.Acts.{Act, ActsInOrder, CallsAreActs, Makes, OnlyCallsGetReplies, Purges, act_step, airspace_by, makes_all, replies_by}
use Rattle.pool_core.proofs.Lists.{some_same}

module _ (salt : List ℕ) where
  pub after_append : (a : Airspace) (xs ys : List Act) → airspace_by salt a (xs ++ ys) ≡ airspace_by salt (airspace_by salt a xs) ys
  after_append a [] ys = refl
  after_append a (x ∷ xs) ys = after_append (act_step salt a x).0 xs ys

  pub replies_append : (a : Airspace) (xs ys : List Act) → replies_by salt a (xs ++ ys) ≡ replies_by salt a xs ++ replies_by salt (airspace_by salt a xs) ys
  replies_append a [] ys = refl
  replies_append a (x ∷ xs) ys = ap (λ v. (act_step salt a x).1 ∷ v) (replies_append (act_step salt a x).0 xs ys)

  replies_take : (a : Airspace) (xs : List Act) (n : ℕ) → replies_by salt a (take n xs) ≡ take n (replies_by salt a xs)
  replies_take a [] zero = refl
  replies_take a [] (suc n) = refl
  replies_take a (x ∷ xs) zero = refl
  replies_take a (x ∷ xs) (suc n) = ap (λ v. (act_step salt a x).1 ∷ v) (replies_take (act_step salt a x).0 xs n)

  -- The reply at a place.
  pub reply_at : (a : Airspace) (xs : List Act) (x : Act) (ys : List Act) → slice_get (replies_by salt a (xs ++ x ∷ ys)) (length xs) ≡ Some (act_step salt (airspace_by salt a xs) x).1
  reply_at a [] x ys = refl
  reply_at a (y ∷ xs) x ys = reply_at (act_step salt a y).0 xs x ys

  -- ---- calls

  pub calls_after : (a : Airspace) (cs : List TimedCall) → airspace_by salt a (makes_all cs) ≡ airspace_after salt a cs
  calls_after a [] = refl
  calls_after a (c ∷ cs) = calls_after (step salt a c.0 c.1).0 cs

  calls_replies : (a : Airspace) (cs : List TimedCall) → replies_by salt a (makes_all cs) ≡ map (λ r. Some r) (replies_of salt a cs)
  calls_replies a [] = refl
  calls_replies a (c ∷ cs) = ap (λ v. Some (step salt a c.0 c.1).1 ∷ v) (calls_replies (step salt a c.0 c.1).0 cs)

  -- ---- replies

  pub call_from_reply : (a : Airspace) (x : Act) (reply : Reply) → (act_step salt a x).1 ≡ Some reply → (timed : TimedCall) × (x ≡ Makes timed)
  call_from_reply a (Makes timed) reply h = (timed, refl)
  call_from_reply a (Purges until) reply h = absurd cc

  calls_get : (a : Airspace) (xs : List Act) (n : ℕ) (reply : Reply) → slice_get (replies_by salt a xs) n ≡ Some (Some reply) → (timed : TimedCall) × (slice_get xs n ≡ Some (Makes timed))
  calls_get a [] n reply h = absurd cc
  calls_get a (x ∷ xs) zero reply h =
      let c = call_from_reply a x reply (some_same (act_step salt a x).1 (Some reply) h) in
      (c.0, ap (λ v. Some v) c.1)
  calls_get a (x ∷ xs) (suc n) reply h = calls_get (act_step salt a x).0 xs n reply h

pub calls_are_acts : CallsAreActs
calls_are_acts = record { airspace = λ salt a cs. calls_after salt a cs; replies = λ salt a cs. calls_replies salt a cs }

pub acts_in_order : ActsInOrder
acts_in_order = record {
  airspace = λ salt a xs ys. after_append salt a xs ys;
  replies = λ salt a xs ys. replies_append salt a xs ys;
  first = λ salt a xs n. replies_take salt a xs n;
}

pub only_calls_get_replies : OnlyCallsGetReplies
only_calls_get_replies salt a acts n reply h = calls_get salt a acts n reply h
