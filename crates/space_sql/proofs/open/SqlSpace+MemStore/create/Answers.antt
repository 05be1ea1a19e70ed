use Rattle.sqlite.proofs.Callers.{memory_is_clean}
use Rattle.space_sql.proofs.open.SqlSpace+MemStore.create.Goals as goal

pub returns-in-Ok-clause-sound : goal.returns-in-Ok-clause-sound
returns-in-Ok-clause-sound c = c.in-Ok.ensures.fresh.sound (memory_is_clean c.in-Ok.space.conn)

pub returns-in-Ok-clause-content : goal.returns-in-Ok-clause-content
returns-in-Ok-clause-content c = c.in-Ok.ensures.made (c.in-Ok.ensures.fresh.sound (memory_is_clean c.in-Ok.space.conn)) c.in_ok-memory.ensures.empty.2
