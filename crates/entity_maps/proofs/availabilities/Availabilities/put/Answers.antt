use Rattle.std.specs.Prelude.{IsSome}
use Rattle.std.proofs.lemmas.Cmp.{nat_list_cmp_total}
use Rattle.entity_core.specs.Airspace.{text_cmp}
use Rattle.entity_maps.specs.Availabilities.{pair_of}
use Rattle.entity_maps.specs.declared.availabilities.AvailabilityEntry.{AvailabilityEntry}
use Rattle.entity_maps.proofs.Positions.{get_says, put_order, put_map}
use Rattle.entity_maps.proofs.availabilities.Availabilities.put.Goals as goal

pub invariant_of-self : goal.invariant_of-self
invariant_of-self c =
    let setting : AvailabilityEntry = record { uss = c.args.uss; availability = c.args.availability; version = c.args.version } in
    put_order text_cmp pair_of nat_list_cmp_total c.put_setting.result c.self.inside.items.items c.put_setting.new.items.items setting c.self.invariant c.put_setting.ensures.ok c.put_setting.ensures.err

pub returns-clause-ok : goal.returns-clause-ok
returns-clause-ok c =
    let setting : AvailabilityEntry = record { uss = c.args.uss; availability = c.args.availability; version = c.args.version } in
    put_map text_cmp pair_of nat_list_cmp_total c.put_setting.result c.self.inside.items.items c.put_setting.new.items.items c.args.self.now setting c.self.view_is c.self.invariant c.put_setting.ensures.ok

pub returns-clause-over : goal.returns-clause-over
returns-clause-over c = λ some. c.put_setting.ensures.over (get_says text_cmp pair_of nat_list_cmp_total IsSome c.self.inside.items.items c.args.self.now c.args.uss c.self.view_is some)
