use Rattle.std.proofs.Common.{refl}
use Rattle.pool_instance.proofs.Made.{made_at}
use Rattle.pool_instance.proofs.requests.last_time.Goals as goal

pub returns-in-Some : goal.returns-in-Some
returns-in-Some c = (c.in-Some.timed.now, made_at c.args.calls.now _ c.in-Some.timed.now c.in-Some.ensures.value, refl)
