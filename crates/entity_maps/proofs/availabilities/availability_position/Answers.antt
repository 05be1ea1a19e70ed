use Rattle.std.proofs.lemmas.Cmp.{nat_list_cmp_total}
use Rattle.entity_core.specs.Airspace.{text_cmp}
use Rattle.entity_maps.specs.Availabilities.{pair_of}
use Rattle.entity_maps.proofs.Positions.{place_hit, place_gap}
use Rattle.entity_maps.proofs.availabilities.availability_position.Goals as goal

pub returns-clause-hit : goal.returns-clause-hit
returns-clause-hit c = λ s. place_hit text_cmp pair_of nat_list_cmp_total c.args.items.now c.args.uss.now c.search_settings.result s c.search_settings.ensures.bound c.search_settings.ensures.position

pub returns-clause-gap : goal.returns-clause-gap
returns-clause-gap c = λ s. place_gap text_cmp pair_of nat_list_cmp_total c.args.items.now c.args.uss.now c.search_settings.result s c.search_settings.ensures.bound c.search_settings.ensures.position
