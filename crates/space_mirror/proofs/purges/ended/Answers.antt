use Rattle.space_mirror.proofs.Purging.{untold_by_store}
use Rattle.space_mirror.proofs.purges.ended.Goals as goal

pub returns-in-None : goal.returns-in-None
returns-in-None g c =
    rw c.in-None.is (untold_by_store g.S.Space c.args.store.now c.refuse_ended.new.store c.args.refusals.now c.count_refusal-in-None.new.refusals c.refuse_ended.result c.count_refusal-in-None.result _ c.refuse_ended.ensures c.count_refusal-in-None.ensures.same c.count_refusal-in-None.ensures.counted)
