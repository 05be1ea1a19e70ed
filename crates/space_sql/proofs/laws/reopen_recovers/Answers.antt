use Rattle.space_sql.proofs.Restarts as restarts
use Rattle.space_sql.proofs.laws.reopen_recovers.Goals as goal

pub returns : goal.returns
returns g c = λ image a files. restarts.next_finds g.S.Store _ image a files
