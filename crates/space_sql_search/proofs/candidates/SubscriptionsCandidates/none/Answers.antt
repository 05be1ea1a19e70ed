use Rattle.space_sql_search.proofs.Numbered.{no_subs}
use Rattle.space_sql_search.proofs.candidates.SubscriptionsCandidates.none.Goals as goal

pub returns : goal.returns
returns c = λ db. no_subs db c.new.result c.new.ensures
