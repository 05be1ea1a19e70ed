use Rattle.std.proofs.Common.{subst, ◌∙◌}
use Rattle.std.specs.Prelude.{IsNone}
use Rattle.std.proofs.lemmas.Cmp.{nat_list_cmp_total}
use Rattle.entity_core.specs.Airspace.{text_cmp}
use Rattle.entity_maps.specs.Availabilities.{InOrder, pair_of}
use Rattle.entity_maps.proofs.Positions.{get_answer, get_says}
use Rattle.entity_maps.proofs.availabilities.Availabilities.availability.Goals as goal

pub returns : goal.returns
returns c = record {
  found = get_answer text_cmp pair_of nat_list_cmp_total c.find_setting.result c.deref.result.now c.args.self.now c.args.uss.now (c.deref.ensures.value ∙ c.self.view_is) (subst InOrder c.self.view_is c.self.invariant) c.find_setting.ensures.found;
  none = λ none. c.find_setting.ensures.none (get_says text_cmp pair_of nat_list_cmp_total IsNone c.deref.result.now c.args.self.now c.args.uss.now (c.deref.ensures.value ∙ c.self.view_is) none);
}
