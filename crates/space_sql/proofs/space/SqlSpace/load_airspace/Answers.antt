use Rattle.space_sql.proofs.Listings.{all_settled}
use Rattle.space_sql.proofs.Readings.{reads_settled}
use Rattle.space_sql.proofs.space.SqlSpace.load_airspace.Goals as goal

pub returns-clause-reads : goal.returns-clause-reads
returns-clause-reads g c = reads_settled g.S.Store c.self.view_is c.self.invariant c.if-self.false c.answer_of.ensures.settles c.read_ours-read.ensures.reads c.answer_of.ensures.keeping c.answer_of.ensures.tells.breaks

pub returns-clause-all : goal.returns-clause-all
returns-clause-all g c = all_settled g.S.Store _ c.read_ours-read.result c.answer_of.result c.if-self.false c.read_ours-read.ensures.spelt c.answer_of.ensures.settles c.answer_of.ensures.keeping c.answer_of.ensures.tells.breaks
