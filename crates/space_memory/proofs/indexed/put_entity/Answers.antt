use Rattle.std.proofs.Common.{List, sym, subst}
use Rattle.entity_core.specs.declared.entity.Entity.{Entity}
use Rattle.space_memory.specs.CellIndex.{AllMarked, IsIndexOf}
use Rattle.space_memory.specs.Names.{IsEntered, IsNameIndex}
use Rattle.entity_maps.specs.Entities.{entity_map}
use Rattle.space_memory.proofs.IndexedMaps.{put_each}
use Rattle.space_memory.proofs.indexed.put_entity.Goals as goal

pub returns-in_err-enter_entity-clause-names : goal.returns-in_err-enter_entity-clause-names
returns-in_err-enter_entity-clause-names c = c.enter_entity.ensures.names c.requires.names

pub returns-in-Ok-Some-clause-cells : goal.returns-in-Ok-Some-clause-cells
returns-in-Ok-Some-clause-cells c =
    c.forget_entity.ensures.cells (put_each (AllMarked c.enter_entity.new.marks) (entity_map c.args.entities.now) (entity_map c.replace.new.self) c.args.entity c.in-Ok-Some.ensures.ok (c.enter_entity.ensures.cells c.requires.cells) c.in_ok-enter_entity.ensures.marked)

pub returns-in-Ok-Some-clause-names : goal.returns-in-Ok-Some-clause-names
returns-in-Ok-Some-clause-names c =
    c.forget_entity.ensures.names (put_each (IsEntered c.enter_entity.new.names) (entity_map c.args.entities.now) (entity_map c.replace.new.self) c.args.entity c.in-Ok-Some.ensures.ok (c.enter_entity.ensures.names c.requires.names) c.in_ok-enter_entity.ensures.entered)

pub returns-in-Ok-None-clause-cells : goal.returns-in-Ok-None-clause-cells
returns-in-Ok-None-clause-cells c =
    put_each (AllMarked c.enter_entity.new.marks) (entity_map c.args.entities.now) (entity_map c.replace.new.self) c.args.entity c.in-Ok-None.ensures.ok (c.enter_entity.ensures.cells c.requires.cells) c.in_ok-enter_entity.ensures.marked

pub returns-in-Ok-None-clause-names : goal.returns-in-Ok-None-clause-names
returns-in-Ok-None-clause-names c =
    put_each (IsEntered c.enter_entity.new.names) (entity_map c.args.entities.now) (entity_map c.replace.new.self) c.args.entity c.in-Ok-None.ensures.ok (c.enter_entity.ensures.names c.requires.names) c.in_ok-enter_entity.ensures.entered

pub returns-in-Err-clause-cells : goal.returns-in-Err-clause-cells
returns-in-Err-clause-cells c =
    c.forget_entity-in-Err.ensures.cells (subst (λ (es : List Entity). IsIndexOf (entity_map es) c.enter_entity.new.marks) (sym c.in-Err.ensures.err) (c.enter_entity.ensures.cells c.requires.cells))

pub returns-in-Err-clause-names : goal.returns-in-Err-clause-names
returns-in-Err-clause-names c =
    c.forget_entity-in-Err.ensures.names (subst (λ (es : List Entity). IsNameIndex (entity_map es) c.enter_entity.new.names) (sym c.in-Err.ensures.err) (c.enter_entity.ensures.names c.requires.names))
