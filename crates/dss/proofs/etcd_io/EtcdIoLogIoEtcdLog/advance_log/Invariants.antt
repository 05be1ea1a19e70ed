use Rattle.std.proofs.Common.{◌≡◌}
use Rattle.dss.proofs.etcd_io.EtcdIoLogIoEtcdLog.advance_log.Given as goal

abbrev pub invariant-loop : goal.invariant-loop
invariant-loop l = record {
  number : l.log.number ≡ l.fn.log.number;
}
