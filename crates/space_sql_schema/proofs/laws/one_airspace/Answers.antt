use Rattle.space_sql_schema.proofs.OneAirspace as tables
use Rattle.space_sql_schema.proofs.laws.one_airspace.Goals as goal

pub returns : goal.returns
returns c = tables.one_airspace
