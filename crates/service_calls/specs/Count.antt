-- How many times a subscription was notified.
use Rattle.std.specs.Prelude.{◌≡◌, ℕ, Bool, true, false, List, [], ◌∷◌, ◌++◌, filter, length, Option, Some, None, if◌then◌else◌}
use Rattle.std.specs.List.{AllByRecursion}
use Rattle.std.specs.Ordering.{eq_by_cmp, nat_cmp}
use Rattle.std.specs.FinMap.{get}
use Rattle.entity_core.specs.Airspace.{Airspace}
use Rattle.entity_core.specs.declared.subscription.Sub.{Sub}
use Rattle.policy_core.specs.declared.call.Operation.{Operation}
use Rattle.policy_core.specs.declared.call.Operation.TheVariants.{CreateSub}
use Rattle.service_step.specs.declared.reply.Reply.{Reply}
use Rattle.service_calls.specs.Aware.{MadeCall, is_done, left_by}
use Rattle.service_notify.specs.Notices.{notifies}
use Rattle.service_calls.specs.Run.{TimedCall}

-- ---- calls answered `Done`

-- The calls that were answered `Done`, in order, each with the airspace before it. The calls were
-- made from the airspace `a` on.
abbrev pub done_calls : List ℕ → Airspace → List TimedCall → List Reply → List MadeCall
done_calls salt a [] rs = []
done_calls salt a (c ∷ cs) [] = []
done_calls salt a (c ∷ cs) (r ∷ rs) =
    if is_done r
    then record { before = a; call = c.1 } ∷ done_calls salt (left_by salt a c r) cs rs
    else done_calls salt (left_by salt a c r) cs rs

-- ---- one subscription

-- Returns true if an operation creates the subscription of an id.
abbrev pub creates_sub : ℕ → Operation → Bool
creates_sub id (CreateSub created put) = eq_by_cmp nat_cmp id created
creates_sub id op = false

-- Returns true if a call notifies a subscription, if the subscription existed before the call.
abbrev pub notifies_one : Airspace → Operation → ℕ → Option Sub → Bool
notifies_one a op id None = false
notifies_one a op id (Some s) = notifies a op (id, s)

-- Returns true if a call notified the subscription of an id, as it was before that call.
abbrev pub notified : ℕ → MadeCall → Bool
notified id made = notifies_one made.before made.call.op id (get made.before.subscriptions id)

-- Holds if the index is the number of calls that notified the subscription after the last call that
-- created it.
pub record IsCounted (id : ℕ) (made : List MadeCall) (index : ℕ) : Type 0 where
  pub earlier : List MadeCall
  pub creation : MadeCall
  pub later : List MadeCall
  pub split : made ≡ earlier ++ creation ∷ later
  pub creates : creates_sub id creation.call.op ≡ true
  pub last : AllByRecursion (λ m. creates_sub id m.call.op ≡ false) later
  pub count : index ≡ length (filter (notified id) later)

-- ---- the law

-- Holds if the index of each subscription is the number of calls that notified it. The calls were
-- made from the airspace `from` on.
abbrev pub Counts : List ℕ → Airspace → List TimedCall → List Reply → Airspace → Type 0
Counts salt from cs rs a = (id : ℕ) (s : Sub) → get a.subscriptions id ≡ Some s
    → IsCounted id (done_calls salt from cs rs) s.index
