use Rattle.std.proofs.Common.{sym}
use Rattle.entity_core.specs.Airspace.{empty_at}
use Rattle.service_step.proofs.Looked.{looks_map, looks_none}
use Rattle.service_step.proofs.Steps.{well_formed, makes_create, makes_update, makes_delete, makes_set}
use Rattle.service_step.proofs.effects.prepare.Goals as goal

pub unreachable-requires-in_default : goal.unreachable-requires-in_default
unreachable-requires-in_default g c =
    well_formed (empty_at 0) c.args.admitted.now.moment c.args.admitted.now.call.now.caller c.args.admitted.now.call.now.op (c.requires.admitted.early (empty_at 0))
    c.in_default.not-Query c.in_default.not-Read c.in_default.not-Create c.in_default.not-Update c.in_default.not-Delete c.in_default.not-ReadAvail c.in_default.not-SetAvail (sym c.if-is_about_sub.ensures)

pub returns-in-Create : goal.returns-in-Create
returns-in-Create g c =
    looks_map g.S.Space c.args.space.now c.prepare_create.new.space c.prepare_create.result _ _ c.prepare_create.ensures
    (λ a made h. makes_create c.args.admitted.now c.requires.admitted c.args.facts.now a c.in-Create.id c.in-Create.put c.next_serial-serial.result made c.in-Create.is c.next_serial-serial.ensures h)

pub returns-in-Some-found : goal.returns-in-Some-found
returns-in-Some-found g c =
    looks_map g.S.Space c.args.space.now c.prepare_update.new.space c.prepare_update.result _ _ c.prepare_update.ensures
    (λ a made h. makes_update c.args.admitted.now c.requires.admitted c.args.facts.now a c.in-Update.id c.in-Update.field-1 c.in-Update.put c.in-Some-found.entity c.next_serial-serial.result made c.in-Update.is c.in-Some-found.is c.next_serial-serial.ensures h)

pub returns-in-Some-found-2 : goal.returns-in-Some-found-2
returns-in-Some-found-2 g c =
    looks_map g.S.Space c.args.space.now c.prepare_delete.new.space c.prepare_delete.result _ _ c.prepare_delete.ensures
    (λ a made h. makes_delete c.args.admitted.now c.requires.admitted c.args.facts.now a c.in-Delete.kind c.in-Delete.id c.in-Delete.field-2 c.in-Some-found-2.entity made c.in-Delete.is c.in-Some-found-2.is h)

pub returns-in_ok-prepare_set_availability-in-SetAvail : goal.returns-in_ok-prepare_set_availability-in-SetAvail
returns-in_ok-prepare_set_availability-in-SetAvail g c =
    let made = c.in_ok-prepare_set_availability-in-SetAvail in
    looks_none g.S.Space c.args.space.now made.field-0 _
    (λ a. makes_set c.args.admitted.now c.requires.admitted c.args.facts.now a c.in-SetAvail.named c.in-SetAvail.field-1 c.in-SetAvail.availability c.next_serial-serial.result made.field-0 c.in-SetAvail.is c.next_serial-serial.ensures made.ensures.0 made.ensures.1 made.ensures.2)
