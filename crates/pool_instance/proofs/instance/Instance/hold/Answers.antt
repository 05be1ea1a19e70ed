use Rattle.std.proofs.Common.{refl, inl, inr}
use Rattle.pool_instance.proofs.instance.Instance.hold.Goals as goal

pub returns-in_ok-push-clause-held : goal.returns-in_ok-push-clause-held
returns-in_ok-push-clause-held g c = record {
  rest = record { service = refl; log = refl; in_flight = refl; taken = refl; received = refl; ended = refl; retention = refl; heard = refl };
  waits = inl (record {
    one = _;
    readings = c.in_ok-push.ensures.items;
    unsent = refl;
    number = refl;
    asks = refl;
    stage = refl;
  });
}

pub returns-in_ok-push-2-clause-held : goal.returns-in_ok-push-2-clause-held
returns-in_ok-push-2-clause-held g c = record {
  rest = record { service = refl; log = refl; in_flight = refl; taken = refl; received = refl; ended = refl; retention = refl; heard = refl };
  waits = inr (record {
    one = _;
    unsent = c.in_ok-push-2.ensures.items;
    readings = refl;
    number = refl;
    asks = refl;
  });
}
