use Rattle.space_sql.proofs.Closings.{closes_trees, keeps_trees}
use Rattle.space_sql.proofs.left_files.close_connection.Goals as goal

pub returns-in-Ok-clause-closed : goal.returns-in-Ok-clause-closed
returns-in-Ok-clause-closed g c = closes_trees c.args.conn c.in-Ok.files c.last_commit_may_stay.ensures c.in-Ok.ensures.copied

pub returns-in-Err-clause-left : goal.returns-in-Err-clause-left
returns-in-Err-clause-left g c = keeps_trees c.args.conn c.in-Err.store c.in-Err.ensures.err.0
