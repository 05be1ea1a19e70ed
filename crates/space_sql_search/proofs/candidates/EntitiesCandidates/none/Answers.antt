use Rattle.space_sql_search.proofs.Numbered.{no_entities}
use Rattle.space_sql_search.proofs.candidates.EntitiesCandidates.none.Goals as goal

pub returns : goal.returns
returns c = λ db. no_entities db c.new.result c.new.ensures
