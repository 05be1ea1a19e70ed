use Rattle.std.proofs.Common.{◌∙◌, sym, ap}
use Rattle.std.specs.FinMap.{get}
use Rattle.entity_core.specs.declared.nature.Kind.{Kind}
use Rattle.entity_core.specs.declared.entity.Entity.{Entity}
use Rattle.entity_core.specs.Airspace.{key_of}
use Rattle.entity_maps.specs.Entities.{entity_map}
use Rattle.space_rows.proofs.OneEntity.{one_entity}
use Rattle.space_rows.proofs.ReadSoFar.{not_so}
use Rattle.space_sql_load.proofs.entities.next_entity.Goals as goal

pub returns-else-branch : goal.returns-else-branch
returns-else-branch c = λ e t.
    let same = one_entity c.args.row.now c.args.volumes.now c.args.cells.now c.args.named e c.in-Some.entity t.spelt (rw c.in-Some.is at c.in_ok-entity.ensures) in
    not_so _ _ c.in_ok-is_entity_free.ensures c.if-branch.false
    (ap (λ (k : Kind). get (entity_map c.args.out.now) (k, c.in-Some.entity.id)) c.kind.ensures ∙ (ap (λ (x : Entity). get (entity_map c.args.out.now) (key_of x)) (sym same) ∙ t.new))
