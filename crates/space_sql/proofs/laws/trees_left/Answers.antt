use Rattle.space_sql.proofs.Restarts.{leaves_trees}
use Rattle.space_sql.proofs.laws.trees_left.Goals as goal

pub returns : goal.returns
returns g c = leaves_trees c.args.conn c.into_store.result c.into_store.ensures.numbered c.into_store.ensures.sound c.into_store.ensures.quiet
