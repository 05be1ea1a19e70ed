-- Replies to backward-looking calls after a purge.
use Rattle.std.specs.Prelude.{◌≡◌, ℕ, ◌&&◌, not, Bool, true, false, List, map, filter, find, Option, Some, None}
use Rattle.std.specs.FinMap.{entries}
use Rattle.grid_core.specs.Extent.{Region}
use Rattle.entity_core.specs.Airspace.{Airspace, IsAirspace}
use Rattle.entity_core.specs.Search.{dependents_in, is_naming, meeting_in, subscribers_in, subscriptions_in}
use Rattle.entity_core.specs.declared.entity.Entity.{Entity}
use Rattle.entity_core.specs.declared.nature.Kind.{Kind}
use Rattle.entity_purge.specs.Purge.{is_due_for_purge, has_ended, has_not_ended, purged}
use Rattle.policy_core.specs.declared.call.Call.{Call}
use Rattle.policy_core.specs.declared.call.Operation.{Operation}
use Rattle.policy_core.specs.declared.call.Operation.TheVariants.{Read, Update, Delete}
use Rattle.policy_core.specs.declared.rule.Rule.TheVariants.{Found}
use Rattle.policy_core.specs.Missing.{nothing_missing}
use Rattle.policy_core.specs.Policy.{breaks, early_rules}
use Rattle.policy_core.specs.Standing.{found_of}
use Rattle.service_step.specs.declared.reply.Reply.TheVariants.{Denied}
use Rattle.service_step.specs.Step.{step}

-- Returns true if an operation is about an existing entity: a read, an update or a deletion.
abbrev pub asks_for_one : Operation → Bool
asks_for_one (Read kind id) = true
asks_for_one (Update id ovn put) = true
asks_for_one (Delete kind id ovn) = true
asks_for_one op = false

-- Holds if each search finds after a purge what it found before, in the same order, without the
-- purged items. Purged items are not found.
pub record LooksBack (until : ℕ) (a : Airspace) : Type 0 where
  -- The entities that meet areas.
  pub meeting : (kind : Kind) (areas : List Region) (except : Option ℕ)
      → meeting_in (purged until a).entities kind areas except
      ≡ filter (λ e. not (has_ended until e)) (meeting_in a.entities kind areas except)
  -- The subscriptions of a USS that meet an area, and those that a change of a kind notifies.
  pub own : (uss : List ℕ) (area : Region) → subscriptions_in (purged until a).subscriptions uss area
      ≡ filter (λ s. not (is_due_for_purge until a (s.id, s))) (subscriptions_in a.subscriptions uss area)
  pub told : (kind : Kind) (areas : List Region)
      → subscribers_in (purged until a).subscriptions kind areas
      ≡ filter (λ s. not (is_due_for_purge until a (s.id, s))) (subscribers_in a.subscriptions kind areas)
  -- The intents that reference a subscription.
  pub naming : (id : ℕ) → dependents_in (purged until a).entities id
      ≡ map (λ e. e.1.id)
      (filter (λ e. is_naming id e && has_not_ended until e) (entries a.entities))
  -- A call about a purged entity is denied by P7, if it breaks no stateless rule.
  pub asked : (salt : List ℕ) (now : ℕ) (c : Call) (e : Entity) → asks_for_one c.op ≡ true
      → found_of a c.op ≡ Some e → has_ended until e ≡ true
      → find (breaks a now c) early_rules ≡ None
      → (step salt (purged until a) now c).1 ≡ Denied Found nothing_missing

abbrev pub LookingBackFindsLess : Type 0
LookingBackFindsLess = (until : ℕ) (a : Airspace) → IsAirspace a → LooksBack until a
