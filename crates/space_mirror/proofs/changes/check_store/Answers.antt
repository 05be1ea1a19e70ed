use Rattle.space_mirror.proofs.Committed.{agrees_checked}
use Rattle.space_mirror.proofs.changes.check_store.Goals as goal

pub returns-in_default-clause-agrees : goal.returns-in_default-clause-agrees
returns-in_default-clause-agrees g c =
    agrees_checked g.S.Space c.args.store.now c.serial.new.self _ _ _ c.args.mirror.now c.args.state c.serial.result c.requires.agrees c.requires.none c.serial.ensures.tells c.serial.ensures.reads

pub returns-in_default-2-clause-agrees : goal.returns-in_default-2-clause-agrees
returns-in_default-2-clause-agrees g c =
    agrees_checked g.S.Space c.args.store.now c.serial.new.self _ _ _ c.args.mirror.now c.args.state c.serial.result c.requires.agrees c.requires.none c.serial.ensures.tells c.serial.ensures.reads
