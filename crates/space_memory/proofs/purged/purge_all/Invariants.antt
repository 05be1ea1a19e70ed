use Rattle.std.proofs.Common.{◌≡◌, ℕ, List, drop}
use Rattle.entity_maps.specs.declared.availabilities.AvailabilityEntry.{AvailabilityEntry}
use Rattle.entity_maps.specs.Lists.{airspace_of}
use Rattle.entity_purge.specs.PurgeItem.{without_items}
use Rattle.space_memory.proofs.purged.purge_all.Given as goal

abbrev pub invariant-loop-one : goal.invariant-loop-one
invariant-loop-one l = (settings : List AvailabilityEntry) (serial : ℕ)
    → without_items (drop l.one-index l.gone) (airspace_of l.entities l.subscriptions settings serial)
    ≡ without_items l.gone (airspace_of l.initial.entities l.initial.subscriptions settings serial)
