-- How much a purge removed.
use Rattle.std.specs.Prelude.{◌≡◌, ℕ, ◌+◌, min, length}
use Rattle.std.specs.FinMap.{len}
use Rattle.entity_core.specs.Airspace.{Airspace}
use Rattle.entity_core.specs.Search.{all_in}
use Rattle.entity_core.specs.declared.nature.Kind.{Kind}
use Rattle.entity_core.specs.declared.nature.Kind.TheVariants.{Constraint, Intent}
use Rattle.entity_purge.specs.declared.purge_item.PurgeItem.{PurgeItem}
use Rattle.entity_purge.specs.declared.purge_item.PurgeItem.TheVariants as gone
use Rattle.space_core.specs.Space.{max_count}
use Rattle.dss_command.specs.declared.purged.PurgeCounts.{PurgeCounts}

abbrev pub nothing : PurgeCounts
nothing = record { intents = 0; constraints = 0; subscriptions = 0 }

-- A count plus one, which saturates at the maximum.
abbrev pub one_more : ℕ → ℕ
one_more n = min (n + 1) max_count

abbrev pub with_one : PurgeCounts → PurgeItem → PurgeCounts
with_one purged (gone.Entity Intent id) = record purged { intents = one_more purged.intents }
with_one purged (gone.Entity Constraint id) =
    record purged { constraints = one_more purged.constraints }
with_one purged (gone.Subscription id) =
    record purged { subscriptions = one_more purged.subscriptions }

-- The number of intents, or of constraints, of an airspace.
abbrev pub how_many : Kind → Airspace → ℕ
how_many kind a = length (all_in a.entities kind)

-- The number of subscriptions of an airspace.
abbrev pub how_many_subscriptions : Airspace → ℕ
how_many_subscriptions a = len a.subscriptions

-- States that the counts are what the second airspace has less than the first.
pub record IsLess (a b : Airspace) (purged : PurgeCounts) : Type 0 where
  pub intents : how_many Intent b + purged.intents ≡ how_many Intent a
  pub constraints : how_many Constraint b + purged.constraints ≡ how_many Constraint a
  pub subscriptions : how_many_subscriptions b + purged.subscriptions ≡ how_many_subscriptions a
