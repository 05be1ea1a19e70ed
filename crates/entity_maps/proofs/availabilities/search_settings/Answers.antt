use Rattle.std.proofs.Common.{rules}
use Rattle.std.proofs.lemmas.Fn.{always_returns_same}
use Rattle.entity_core.specs.Airspace.{text_cmp}
use Rattle.entity_maps.specs.declared.availabilities.AvailabilityEntry.{AvailabilityEntry}
use Rattle.entity_maps.proofs.availabilities.search_settings.Goals as goal

pub returns-clause-position : goal.returns-clause-position
returns-clause-position c =
    c.binary_search_by.ensures.position (λ (e : AvailabilityEntry). text_cmp e.uss c.args.uss.now) (always_returns_same _ _ _ (λ a r f' h. search rules))
