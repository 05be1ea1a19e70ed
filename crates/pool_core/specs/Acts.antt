-- Acts of a pool: calls, and purges between them.
use Rattle.std.specs.Prelude.{◌≡◌, ℕ, List, [], ◌∷◌, ◌++◌, map, take, Option, Some, None, slice_get}
use Rattle.entity_core.specs.Airspace.{Airspace}
use Rattle.entity_purge.specs.Purge.{purged}
use Rattle.service_step.specs.declared.reply.Reply.{Reply}
use Rattle.service_step.specs.Step.{step}
use Rattle.service_calls.specs.Run.{TimedCall, airspace_after, replies_of}

-- An act: a call at its time, or a purge up to a time.
pub data Act : Type 0 where
  Makes : (timed : TimedCall) → Act
  Purges : (until : ℕ) → Act

-- The airspace after an act, and its reply. A purge has none.
abbrev pub act_step : List ℕ → Airspace → Act → Airspace × Option Reply
act_step salt a (Makes timed) =
    ((step salt a timed.0 timed.1).0, Some (step salt a timed.0 timed.1).1)
act_step salt a (Purges until) = (purged until a, None)

-- The airspace after a list of acts.
abbrev pub airspace_by : List ℕ → Airspace → List Act → Airspace
airspace_by salt a [] = a
airspace_by salt a (x ∷ xs) = airspace_by salt (act_step salt a x).0 xs

-- The replies to a list of acts, one for each act.
abbrev pub replies_by : List ℕ → Airspace → List Act → List (Option Reply)
replies_by salt a [] = []
replies_by salt a (x ∷ xs) = (act_step salt a x).1 ∷ replies_by salt (act_step salt a x).0 xs

-- The acts that make these calls.
abbrev pub makes_all : List TimedCall → List Act
makes_all calls = map (λ timed. Makes timed) calls

-- ---- laws

-- States that acts which are all calls leave the airspace of these calls and have their replies.
pub record CallsAreActs : Type 0 where
  pub airspace : (salt : List ℕ) (a : Airspace) (calls : List TimedCall)
      → airspace_by salt a (makes_all calls) ≡ airspace_after salt a calls
  pub replies : (salt : List ℕ) (a : Airspace) (calls : List TimedCall)
      → replies_by salt a (makes_all calls) ≡ map (λ reply. Some reply) (replies_of salt a calls)

-- States that the acts of two lists happen one after the other, and that the replies of a beginning
-- of a list are the first ones.
pub record ActsInOrder : Type 0 where
  pub airspace : (salt : List ℕ) (a : Airspace) (xs ys : List Act)
      → airspace_by salt a (xs ++ ys) ≡ airspace_by salt (airspace_by salt a xs) ys
  pub replies : (salt : List ℕ) (a : Airspace) (xs ys : List Act)
      → replies_by salt a (xs ++ ys)
      ≡ replies_by salt a xs ++ replies_by salt (airspace_by salt a xs) ys
  pub first : (salt : List ℕ) (a : Airspace) (xs : List Act) (n : ℕ)
      → replies_by salt a (take n xs) ≡ take n (replies_by salt a xs)

-- States that an act with a reply is a call.
abbrev pub OnlyCallsGetReplies : Type 0
OnlyCallsGetReplies = (salt : List ℕ) (a : Airspace) (acts : List Act) (n : ℕ) (reply : Reply)
    → slice_get (replies_by salt a acts) n ≡ Some (Some reply)
    → (timed : TimedCall) × (slice_get acts n ≡ Some (Makes timed))
