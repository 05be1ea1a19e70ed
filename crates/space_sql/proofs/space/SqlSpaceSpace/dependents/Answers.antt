use Rattle.space_sql.proofs.Readings.{reads_settled}
use Rattle.space_sql.proofs.space.SqlSpaceSpace.dependents.Goals as goal

pub returns-clause-reads : goal.returns-clause-reads
returns-clause-reads g c = reads_settled g.S.Store c.self.view_is c.self.invariant c.if-self.false c.answer_of.ensures.settles c.read_dependents-read.ensures.reads c.answer_of.ensures.keeping c.answer_of.ensures.tells.breaks
