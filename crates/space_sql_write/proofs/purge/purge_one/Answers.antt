use Rattle.space_sql_write.proofs.purge.purge_one.Goals as goal

pub returns-in-Entity-clause-goes : goal.returns-in-Entity-clause-goes
returns-in-Entity-clause-goes g c = rw c.in-Entity.is c.purge_entity.ensures.goes
