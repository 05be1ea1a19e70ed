use Rattle.pool_core.proofs.Purges.{purges_more, purges_none}
use Rattle.pool_core.proofs.purge.purge_all.Goals as goal

pub loop-chunk-init : goal.loop-chunk-init
loop-chunk-init g c = purges_none g.S.Space c.args.until c.args.service.now c.commit.new.self c.in_ok-commit.ensures

pub loop-chunk-preserved : goal.loop-chunk-preserved
loop-chunk-preserved g c =
    purges_more g.S.Space c.args.until c.args.service.now c.loop-chunk.service c.purge.new.self 256 c.in_ok-count.count c.loop-chunk.invariant c.in_ok-count.ensures
