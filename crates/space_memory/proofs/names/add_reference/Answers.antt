use Rattle.space_memory.proofs.NamePairs.{inserted_more}
use Rattle.space_memory.proofs.names.add_reference.Goals as goal

pub returns-in_ok-insert-clause-kept : goal.returns-in_ok-insert-clause-kept
returns-in_ok-insert-clause-kept c = inserted_more c.args.names.now c.insert.new.self _ c.in_ok-insert.ensures.updates
