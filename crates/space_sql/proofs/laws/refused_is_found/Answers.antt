use Rattle.space_sql.proofs.Restarts as restarts
use Rattle.space_sql.proofs.laws.refused_is_found.Goals as goal

pub returns : goal.returns
returns g c = λ before after format a back fault last next spelt refuses left clean may finds sound. restarts.refused_is_found _ before after back fault last next format a spelt refuses left clean may finds sound
