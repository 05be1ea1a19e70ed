use Rattle.std.proofs.Common.{refl}
use Rattle.pool_instance.proofs.After.{did_nothing}
use Rattle.pool_instance.proofs.instance.Instance.advance_log.Goals as goal

pub returns : goal.returns
returns g c =
    did_nothing g.L.Log g.S.Space c.args.self.now (record c.args.self.now { log = c.advance_log.new.log })
    (record {
      service = refl;
      history = c.advance_log.ensures.history;
      writer = c.advance_log.ensures.writer;
      readings = refl;
      unsent = refl;
      in_flight = refl;
      taken = refl;
      received = refl;
      ended = λ h. h;
      retention = refl;
      heard = refl;
    })
