use Rattle.space_sql.proofs.Founds.{new_is_unmade}
use Rattle.space_sql.proofs.laws.empty_file_has_no_tables.Goals as goal

pub returns : goal.returns
returns c = new_is_unmade
