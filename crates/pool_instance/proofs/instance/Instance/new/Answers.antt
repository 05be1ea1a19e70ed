use Rattle.std.proofs.Common.{None, false, refl}
use Rattle.pool_instance.proofs.Start.{is_new}
use Rattle.pool_instance.proofs.instance.Instance.new.Goals as goal

pub returns-clause-after : goal.returns-clause-after
returns-clause-after g c goes start content =
    is_new g.L.Log g.S.Space start
    (record { log = c.args.log; service = c.args.service; readings = c.new.result; unsent = c.new-2.result; in_flight = None; taken = 0; received = 0; ended = false; retention = c.args.retention; heard = None; purges = c.none.result })
    goes content c.new.ensures.items c.new-2.ensures.items refl refl refl refl
