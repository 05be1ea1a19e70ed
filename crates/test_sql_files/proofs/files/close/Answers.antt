use Rattle.space_sql.proofs.Closings.{closes_trees}
use Rattle.test_sql_files.proofs.files.close.Goals as goal

pub returns-in-Ok-clause-closed : goal.returns-in-Ok-clause-closed
returns-in-Ok-clause-closed g c = closes_trees c.args.conn c.in-Ok.files c.requires c.in-Ok.ensures.copied
