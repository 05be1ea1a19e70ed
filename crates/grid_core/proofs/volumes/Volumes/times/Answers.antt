use Rattle.grid_core.proofs.Spans.{span_is}
use Rattle.grid_core.proofs.volumes.Volumes.times.Goals as goal

pub returns-clause-relation : goal.returns-clause-relation
returns-clause-relation c = span_is c.args.self.now c.span.result c.span.ensures.value c.span.ensures.some
