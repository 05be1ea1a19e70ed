use Rattle.space_sql_write.proofs.change.write_one.Goals as goal

pub returns-in-Put-clause-changes : goal.returns-in-Put-clause-changes
returns-in-Put-clause-changes g c = rw c.in-Put.is c.put_entity.ensures.changes

pub returns-in-Avail-clause-changes : goal.returns-in-Avail-clause-changes
returns-in-Avail-clause-changes g c = rw c.in-Avail.is c.set_availability.ensures.changes

pub returns-in-PutSub-clause-changes : goal.returns-in-PutSub-clause-changes
returns-in-PutSub-clause-changes g c = rw c.in-PutSub.is c.put_sub.ensures.changes
