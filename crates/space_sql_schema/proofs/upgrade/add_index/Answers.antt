use Rattle.space_sql_schema.proofs.Steps.{steps_as}
use Rattle.space_sql_schema.proofs.upgrade.add_index.Goals as goal

pub returns-clause-adds : goal.returns-clause-adds
returns-clause-adds g c = steps_as _ _ _ _ _ c.in_ok-make_naming_index.ensures.adds
