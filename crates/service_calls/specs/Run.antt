-- Possible replies of a service to a list of calls.
use Rattle.std.specs.Prelude.{◌≡◌, ℕ, Bool, true, false, List, [], ◌∷◌, ◌⊎◌, ◌||◌, All, IfSome, IsNone, None, find, length}
use Rattle.entity_core.specs.Airspace.{Airspace}
use Rattle.policy_core.specs.declared.call.Call.{Call}
use Rattle.policy_core.specs.Missing.{nothing_missing}
use Rattle.policy_core.specs.Policy.{breaks, early_rules, first_broken}
use Rattle.service_calls.specs.declared.service.Service.{Service}
use Rattle.service_calls.specs.Held.{space_of, salt_of, is_shut, Stays}
use Rattle.service_step.specs.Reply.{is_stopped}
use Rattle.service_calls.specs.Service.{Answers}
use Rattle.service_step.specs.declared.reply.Reply.{Reply}
use Rattle.service_step.specs.declared.reply.Reply.TheVariants.{Done, Denied, Fault, Stopped}
use Rattle.space_core.specs.declared.space.Space.{Ghosts}
use Rattle.space_core.specs.Space.{IsContent}
use Rattle.service_step.specs.Step.{step}

-- A call and its time.
abbrev pub TimedCall : Type 0
TimedCall = ℕ × Call

-- Holds if the service received this call once and replied so. If it was not shut, the reply is
-- that of the policy, `Fault` if the call may fail, or `Stopped`, which shuts the service. A call
-- that breaks a stateless rule is denied at once. If the space was broken before, any other call
-- gets `Stopped`.
pub record IsReplyTo {S : Type 0} (g : Ghosts S) (old new : Service S) (moment : ℕ) (call : Call)
    (reply : Reply) : Type 0 where
  pub stays : Stays g old new
  pub shut : is_shut old ≡ true → reply ≡ Stopped
  pub shuts : is_shut old ≡ false → is_shut new ≡ is_stopped reply
  pub early : is_shut old ≡ false → (a : Airspace) (now : ℕ)
      → IfSome (find (breaks a now call) early_rules)
      (λ rule. (reply ≡ Denied rule nothing_missing) × (new ≡ old))
  pub broken : is_shut old ≡ false → g.is_broken (space_of old) ≡ true → (a : Airspace) (now : ℕ)
      → IsNone (find (breaks a now call) early_rules) → reply ≡ Stopped
  pub answers : is_shut old ≡ false
      → Answers g (salt_of old) moment call (space_of old) (space_of new) reply

-- Holds if the service evaluated a call without making it, and it breaks no rule. The airspace stays
-- as it is.
pub record IsAllowed {S : Type 0} (g : Ghosts S) (old new : Service S) (moment : ℕ) (call : Call)
    : Type 0 where
  pub stays : Stays g old new
  pub goes : is_shut old ≡ false
  pub goes_on : is_shut new ≡ false
  pub breaks_none : g.is_sound (space_of new) → (a : Airspace) → g.holds (space_of old) a
      → first_broken a moment call ≡ None
  pub same : g.is_sound (space_of new) → (a : Airspace) → IsContent g.holds (space_of old) a
      → IsContent g.holds (space_of new) a
  pub breaks : g.is_broken (space_of new) ≡ g.is_broken (space_of old)

-- Holds if the service received these calls in order, each once, and these are the replies.
abbrev pub AskedInOrder : {S : Type 0} → Ghosts S → Service S → List TimedCall → List Reply → Service S
    → Type 0
AskedInOrder g old [] [] new = new ≡ old
AskedInOrder g old [] (r ∷ rs) new = ⊥
AskedInOrder g old (c ∷ cs) [] new = ⊥
AskedInOrder {S} g old (c ∷ cs) (r ∷ rs) new =
    (mid : Service S) × IsReplyTo g old mid c.0 c.1 r × AskedInOrder g mid cs rs new

-- The policy over a list of calls: the replies, and the airspace after them.
abbrev pub replies_of : List ℕ → Airspace → List TimedCall → List Reply
replies_of salt a [] = []
replies_of salt a (c ∷ cs) = (step salt a c.0 c.1).1 ∷ replies_of salt (step salt a c.0 c.1).0 cs

abbrev pub airspace_after : List ℕ → Airspace → List TimedCall → Airspace
airspace_after salt a [] = a
airspace_after salt a (c ∷ cs) = airspace_after salt (step salt a c.0 c.1).0 cs

-- The calls up to the first `Stopped` whose reply is not `Fault`.
abbrev pub answered_calls : List TimedCall → List Reply → List TimedCall
answered_calls [] rs = []
answered_calls (c ∷ cs) [] = []
answered_calls (c ∷ cs) (Fault ∷ rs) = answered_calls cs rs
answered_calls (c ∷ cs) (Stopped ∷ rs) = []
answered_calls (c ∷ cs) (Done x ∷ rs) = c ∷ answered_calls cs rs
answered_calls (c ∷ cs) (Denied p m ∷ rs) = c ∷ answered_calls cs rs

-- The replies to those calls.
abbrev pub delivered_replies : List Reply → List Reply
delivered_replies [] = []
delivered_replies (Fault ∷ rs) = delivered_replies rs
delivered_replies (Stopped ∷ rs) = []
delivered_replies (Done x ∷ rs) = Done x ∷ delivered_replies rs
delivered_replies (Denied p m ∷ rs) = Denied p m ∷ delivered_replies rs

-- Holds if the airspace is possible after the calls. The first call with the reply `Stopped`, if
-- there is one, may have had its effect.
abbrev pub MayHaveStepped : List ℕ → Airspace → List TimedCall → List Reply → Airspace → Type 0
MayHaveStepped salt a [] rs after = after ≡ a
MayHaveStepped salt a (c ∷ cs) [] after = after ≡ a
MayHaveStepped salt a (c ∷ cs) (Fault ∷ rs) after = MayHaveStepped salt a cs rs after
MayHaveStepped salt a (c ∷ cs) (Stopped ∷ rs) after =
    (after ≡ a) ⊎ (after ≡ (step salt a c.0 c.1).0)
MayHaveStepped salt a (c ∷ cs) (Done x ∷ rs) after =
    MayHaveStepped salt (step salt a c.0 c.1).0 cs rs after
MayHaveStepped salt a (c ∷ cs) (Denied p m ∷ rs) after =
    MayHaveStepped salt (step salt a c.0 c.1).0 cs rs after

abbrev pub has_stopped : List Reply → Bool
has_stopped [] = false
has_stopped (Stopped ∷ rs) = true
has_stopped (Fault ∷ rs) = has_stopped rs
has_stopped (Done x ∷ rs) = has_stopped rs
has_stopped (Denied p m ∷ rs) = has_stopped rs

-- Holds if every reply after the first `Stopped` is `Stopped`.
abbrev pub StayStopped : List Reply → Type 0
StayStopped [] = Unit {0}
StayStopped (Stopped ∷ rs) = All (λ r. r ≡ Stopped) rs
StayStopped (Fault ∷ rs) = StayStopped rs
StayStopped (Done x ∷ rs) = StayStopped rs
StayStopped (Denied p m ∷ rs) = StayStopped rs

-- Holds if the replies are those of the policy, except for the calls that failed. If none is
-- `Stopped`, the airspace of the policy is the content of the space. Otherwise the space holds only
-- the airspace before the call with the reply `Stopped`, or that after the step of this call.
pub record Runs {S : Type 0} (g : Ghosts S) (salt : List ℕ) (a : Airspace) (cs : List TimedCall)
    (rs : List Reply) (new : S) : Type 0 where
  pub replies : delivered_replies rs ≡ replies_of salt a (answered_calls cs rs)
  pub whole : has_stopped rs ≡ false
      → IsContent g.holds new (airspace_after salt a (answered_calls cs rs))
  pub kept : (b : Airspace) → g.holds new b → MayHaveStepped salt a cs rs b

-- The properties of the replies to a list of calls. Each call was made once, in order. A service
-- that was shut only replies `Stopped`. Otherwise its replies are those of the policy. The first
-- `Stopped` shuts the service, exactly if the space answered `Broken`, and every reply after it is
-- `Stopped`.
pub record Answered {S : Type 0} (g : Ghosts S) (old : Service S) (cs : List TimedCall)
    (rs : List Reply) (new : Service S) : Type 0 where
  pub in_order : AskedInOrder g old cs rs new
  pub one_each : length rs ≡ length cs
  pub stays : Stays g old new
  pub shut : is_shut old ≡ true → All (λ r. r ≡ Stopped) rs
  pub shuts : is_shut old ≡ false → is_shut new ≡ has_stopped rs
  pub stopped : is_shut old ≡ false → StayStopped rs
  pub runs : is_shut old ≡ false → g.is_sound (space_of new) → (a : Airspace)
      → IsContent g.holds (space_of old) a → Runs g (salt_of old) a cs rs (space_of new)
  pub breaks : is_shut old ≡ false
      → g.is_broken (space_of new) ≡ (has_stopped rs || g.is_broken (space_of old))
