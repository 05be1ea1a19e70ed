use Rattle.std.proofs.Common.{sym, ◌∙◌}
use Rattle.space_memory.proofs.IndexedMaps.{forgotten_indexed}
use Rattle.space_memory.proofs.indexed.forget_entity.Goals as goal

pub returns-then-not-has_put-clause-cells : goal.returns-then-not-has_put-clause-cells
returns-then-not-has_put-clause-cells c = forgotten_indexed c.args.entities.now c.args.gone.now c.args.marks.now c.unmark_entity.new.marks c.unmark_entity.ensures (sym c.has_put.ensures ∙ c.if-not-has_put.true)
