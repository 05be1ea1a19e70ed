use Rattle.std.specs.Prelude.{◌≡◌}
use Rattle.std.specs.FinMap.{get}
use Rattle.space_mirror.proofs.Mirrors.{list_reads, reads_kept, store_reads}
use Rattle.space_mirror.proofs.reads.entity.Goals as goal

pub returns-in-Some : goal.returns-in-Some
returns-in-Some g c =
    let reads = reads_kept c.in-Some.mirror c.entity.new.self c.entity.result (λ a found. found ≡ get a.entities (c.args.kind, c.args.id)) c.entity.ensures.kept c.entity.ensures.found in
    rw c.in-Some.is (list_reads g.S.Space c.args.store.now _ _ _ _ _ _ _ _ _ c.entity.ensures.tells reads c.count_refusal.ensures.same c.count_refusal.ensures.counted)

pub returns-in-None : goal.returns-in-None
returns-in-None g c = rw c.in-None.is (store_reads g.S.Space c.args.store.now _ _ _ _ _ _ c.entity-in-None.ensures.tells c.entity-in-None.ensures.reads c.count_refusal-in-None.ensures.same c.count_refusal-in-None.ensures.counted)
