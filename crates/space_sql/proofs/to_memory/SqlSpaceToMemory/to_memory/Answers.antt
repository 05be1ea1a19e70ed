use Rattle.std.proofs.Common.{refl}
use Rattle.space_sql.proofs.Wholes.{reads_whole}
use Rattle.space_sql.proofs.to_memory.SqlSpaceToMemory.to_memory.Goals as goal

pub returns-in-Ok-clause-reads : goal.returns-in-Ok-clause-reads
returns-in-Ok-clause-reads g c =
    reads_whole g.S.Store c.self.view_is refl c.note.ensures.breaks c.in-Ok.ensures.reads c.indexed-answer.ensures.content c.indexed-answer.ensures.fault
