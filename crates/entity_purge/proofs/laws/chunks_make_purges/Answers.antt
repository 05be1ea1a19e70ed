use Rattle.entity_purge.proofs.Chunks.{chunks_make, purged_partly}
use Rattle.entity_purge.proofs.laws.chunks_make_purges.Goals as goal

pub returns-clause-chunks : goal.returns-clause-chunks
returns-clause-chunks c = chunks_make

pub returns-clause-earlier : goal.returns-clause-earlier
returns-clause-earlier c = purged_partly
