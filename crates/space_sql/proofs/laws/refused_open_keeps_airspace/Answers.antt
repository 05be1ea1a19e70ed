use Rattle.space_sql.proofs.Remainders as remainders
use Rattle.space_sql.proofs.laws.refused_open_keeps_airspace.Goals as goal

pub returns : goal.returns
returns g c = λ image format a files remains fault refuses clean. remainders.next_refused image format a files remains fault refuses clean
