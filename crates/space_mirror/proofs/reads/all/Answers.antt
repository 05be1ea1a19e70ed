use Rattle.space_mirror.proofs.Mirrors.{list_reads, store_reads}
use Rattle.space_mirror.proofs.reads.all.Goals as goal

pub returns-in-Some : goal.returns-in-Some
returns-in-Some g c = rw c.in-Some.is (list_reads g.S.Space c.args.store.now _ _ _ _ _ _ _ _ _ c.all.ensures.tells c.all.ensures.reads c.count_refusal.ensures.same c.count_refusal.ensures.counted)

pub returns-in-None : goal.returns-in-None
returns-in-None g c = rw c.in-None.is (store_reads g.S.Space c.args.store.now _ _ _ _ _ _ c.all-in-None.ensures.tells c.all-in-None.ensures.reads c.count_refusal-in-None.ensures.same c.count_refusal-in-None.ensures.counted)
