use Rattle.dss_database.proofs.Mirrors.{read_before}
use Rattle.dss_database.proofs.with_mirror.with_mirror.Goals as goal

pub returns-in-Some-clause-read : goal.returns-in-Some-clause-read
returns-in-Some-clause-read g c = read_before g.S.Store c.args.space c.with_lists.result.store c.in-Some.loaded (rw c.in-Some.is at c.requires) c.with_lists.ensures.same
