use Rattle.space_mirror.proofs.Committed.{one_if_due}
use Rattle.space_mirror.proofs.changes.rebuild_if_due.Goals as goal

pub rebuild_mirror-requires-clause-one : goal.rebuild_mirror-requires-clause-one
rebuild_mirror-requires-clause-one g c =
    one_if_due g.S.Space c.args.store.now c.args.mirror.now c.args.state.now c.requires.agrees c.in-RebuildDue.is
