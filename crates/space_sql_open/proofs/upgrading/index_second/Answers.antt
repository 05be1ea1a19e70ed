use Rattle.std.proofs.Common.{Ok}
use Rattle.sqlite.specs.Held.{state}
use Rattle.space_sql_schema.specs.Tables.{dss_schema, unindexed_schema}
use Rattle.space_sql_open.specs.Upgrading.{Indexes, Judges}
use Rattle.space_sql_open.specs.Opening.{UpgradesFormat}
use Rattle.space_sql_open.specs.declared.old_format.OldFormat.TheVariants.{TwoUnindexed}
use Rattle.space_sql_open.proofs.Insides.{inside_then}
use Rattle.space_sql_open.proofs.Moves.{indexed}
use Rattle.space_sql_open.proofs.upgrading.index_second.Goals as goal

pub returns-in-Ok-clause-moves : goal.returns-in-Ok-clause-moves
returns-in-Ok-clause-moves g c =
    let a = state g.S.Store c.args.tx.now.conn.now in
    let b = state g.S.Store c.index.new.tx.conn.now in
    let d = state g.S.Store c.check_upgraded.new.tx.conn.now in
    inside_then unindexed_schema dss_schema Indexes Judges (UpgradesFormat TwoUnindexed) a b d (Ok tt) c.check_upgraded.result c.check_upgraded.result (λ has made. made.0.0) (λ has made judged. indexed a.now b.now d.now c.check_upgraded.result has made judged) c.in-Ok.ensures.indexes c.check_upgraded.ensures.judges
