use Rattle.pool_laws.proofs.Served.{serves_each_client}
use Rattle.pool_laws.proofs.laws.pool_serves_each_client.Goals as goal

pub returns : goal.returns
returns g c = serves_each_client g.L.Log g.S.Space _ g.M.Moments g.T.TokenSource c.each_client_is_served.ensures c.texts_are_of_replies.ensures
