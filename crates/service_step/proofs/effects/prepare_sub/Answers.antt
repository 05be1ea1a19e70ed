use Rattle.service_step.proofs.Looked.{looks_map}
use Rattle.service_step.proofs.Steps.{about_subs, makes_create_sub, makes_update_sub, makes_delete_sub}
use Rattle.service_step.proofs.effects.prepare_sub.Goals as goal

pub unreachable-requires-in_default : goal.unreachable-requires-in_default
unreachable-requires-in_default g c =
    about_subs c.args.admitted.now.call.now.op c.requires.about c.in_default.not-QuerySub c.in_default.not-ReadSub c.in_default.not-CreateSub c.in_default.not-UpdateSub c.in_default.not-DeleteSub

pub returns-in-CreateSub : goal.returns-in-CreateSub
returns-in-CreateSub g c =
    looks_map g.S.Space c.args.space.now c.prepare_create_sub.new.space c.prepare_create_sub.result _ _ c.prepare_create_sub.ensures
    (λ a made h. makes_create_sub c.args.admitted.now c.requires.admitted c.args.facts.now a c.in-CreateSub.id c.in-CreateSub.put c.next_serial-serial.result made c.in-CreateSub.is c.next_serial-serial.ensures h)

pub returns-in-Some-sub : goal.returns-in-Some-sub
returns-in-Some-sub g c =
    looks_map g.S.Space c.args.space.now c.prepare_update_sub.new.space c.prepare_update_sub.result _ _ c.prepare_update_sub.ensures
    (λ a made h. makes_update_sub c.args.admitted.now c.requires.admitted c.args.facts.now a c.in-UpdateSub.id c.in-UpdateSub.field-1 c.in-UpdateSub.put c.in-Some-sub.sub c.next_serial-serial.result made c.in-UpdateSub.is c.in-Some-sub.is c.next_serial-serial.ensures h)

pub returns-in-Some-sub-2 : goal.returns-in-Some-sub-2
returns-in-Some-sub-2 g c =
    looks_map g.S.Space c.args.space.now c.prepare_delete_sub.new.space c.prepare_delete_sub.result _ _ c.prepare_delete_sub.ensures
    (λ a made h. makes_delete_sub c.args.admitted.now c.requires.admitted c.args.facts.now a c.in-DeleteSub.id c.in-DeleteSub.field-1 c.in-Some-sub-2.sub made c.in-DeleteSub.is c.in-Some-sub-2.is h.0 h.1 h.2)
