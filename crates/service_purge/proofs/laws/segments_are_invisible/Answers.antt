use Rattle.service_purge.proofs.Readers.{readers_look_back}
use Rattle.service_purge.proofs.Unseen.{one_moment, segments_unseen}
use Rattle.service_purge.proofs.laws.segments_are_invisible.Goals as goal

pub returns-clause-enough : goal.returns-clause-enough
returns-clause-enough g c = one_moment

pub returns-clause-readers : goal.returns-clause-readers
returns-clause-readers g c = readers_look_back g.S.GroupCommit

pub returns-clause-unseen : goal.returns-clause-unseen
returns-clause-unseen g c = segments_unseen g.S.GroupCommit
