use Rattle.std.proofs.Common.{◌∙◌, refl}
use Rattle.pool_backend.specs.Pool.{outcomes_of}
use Rattle.pool_backend.proofs.Given.{among_none, among_then, rest_all, rest_then, taken_split}
use Rattle.pool_backend.proofs.pool.PoolInstance.give_all.Goals as goal

pub loop-init : goal.loop-init
loop-init g c = record {
  instance = refl;
  among = among_none c.args.told.items (outcomes_of c.args.self.now) (outcomes_of c.args.self.now) refl;
  rest = rest_all c.args.told.items c.from_vec-rest.result.items c.from_vec-rest.ensures.items;
}

pub loop-preserved : goal.loop-preserved
loop-preserved g c =
    let is = taken_split c.loop.rest.items c.pop_front.new.self.items c.pop_front.result c.in-Some.first c.pop_front.ensures.items c.in-Some.is in
    record {
      instance = c.give.ensures.instance ∙ c.loop.invariant.instance;
      among = among_then c.args.told.items c.loop.rest.items c.pop_front.new.self.items c.in-Some.first.0 c.in-Some.first.1 (outcomes_of c.args.self.now) (outcomes_of c.loop.self) (outcomes_of c.give.new.self) c.loop.invariant.rest is c.loop.invariant.among c.give.ensures.outcomes;
      rest = rest_then c.args.told.items c.loop.rest.items c.pop_front.new.self.items c.in-Some.first c.loop.invariant.rest is;
    }
