use Rattle.std.proofs.Common.{List, refl, sym, subst, ◌∙◌}
use Rattle.std.proofs.lemmas.Result.{err_from_is_err_and}
use Rattle.entity_purge.specs.declared.purge_item.PurgeItem.{PurgeItem}
use Rattle.dss_command.specs.Purging.{PurgesSpace}
use Rattle.dss_command.proofs.Chunks.{PurgedSoFar, begins, done, is_none, more, stays, unmade, unread}
use Rattle.dss_command.proofs.purge.purge_space.Goals as goal

pub loop-chunk-init : goal.loop-chunk-init
loop-chunk-init g c = record {
  purged = subst (PurgedSoFar g.S.Space c.args.until 0 c.args.space.now c.args.space.now) (sym c.zero-purged.ensures)
      (begins c.chunks_make_purges.ensures.chunks g.S.Space c.args.until c.args.space.now);
  waits = refl;
}

pub loop-chunk-preserved : goal.loop-chunk-preserved
loop-chunk-preserved g c = record {
  purged = more c.purged_items_are_partly_purged.ensures c.chunks_make_purges.ensures.chunks (λ v. v.items) g.S.Space c.args.until c.loop-chunk._chunk _ _ _ _ _ _ _ c.in_ok-gone.gone c.as_slice.result.now c.as_slice-in-loop-chunk.result.now
      c.loop-chunk-test.true c.loop-chunk.invariant.purged c.in_ok-gone.ensures.tells c.in_ok-gone.ensures.reads c.as_slice.ensures.value c.in_ok-purge.ensures.changes c.as_slice-in-loop-chunk.ensures.value c.with-purged.ensures;
  waits = c.in_ok-purge.ensures.waits ∙ c.in_ok-gone.ensures.waits ∙ c.loop-chunk.invariant.waits;
}

pub returns-then-is_empty-clause-purged : goal.returns-then-is_empty-clause-purged
returns-then-is_empty-clause-purged g c =
    done c.purged_items_are_partly_purged.ensures c.chunks_make_purges.ensures.chunks (λ v. v.items) g.S.Space c.args.until c.loop-chunk._chunk _ _ _ c.loop-chunk.purged c.in_ok-gone.gone
    (is_none c.in_ok-gone.gone.items c.in_ok-gone.gone.len c.is_empty.result c.in_ok-gone.gone.ok.0 c.is_empty.ensures c.if-is_empty.true) c.loop-chunk.invariant.purged c.in_ok-gone.ensures.tells c.in_ok-gone.ensures.reads

pub returns-in_err-purge-clause-purged : goal.returns-in_err-purge-clause-purged
returns-in_err-purge-clause-purged g c =
    let p = err_from_is_err_and c.from_residual-in_err-purge.result c.from_residual-in_err-purge.ensures.1 in
    subst (PurgesSpace g.S.Space c.args.until c.args.space.now c.purge.new.self) (sym p.1)
    (unmade c.purged_items_are_partly_purged.ensures c.chunks_make_purges.ensures.chunks (λ v. v.items) g.S.Space c.args.until c.loop-chunk._chunk _ _ _ _ _ c.loop-chunk.purged c.in_ok-gone.gone c.as_slice.result.now _ _ c.loop-chunk.invariant.purged c.in_ok-gone.ensures.tells c.in_ok-gone.ensures.reads c.as_slice.ensures.value c.in_err-purge.ensures.changes)

pub returns-in_err-gone-clause-purged : goal.returns-in_err-gone-clause-purged
returns-in_err-gone-clause-purged g c =
    let p = err_from_is_err_and c.from_residual.result c.from_residual.ensures.1 in
    subst (PurgesSpace g.S.Space c.args.until c.args.space.now c.find_ended.new.self) (sym p.1)
    (unread c.purged_items_are_partly_purged.ensures c.chunks_make_purges.ensures.chunks (λ v. v.items) g.S.Space c.args.until c.loop-chunk._chunk _ _ _ c.loop-chunk.purged _ _ c.loop-chunk.invariant.purged c.in_err-gone.ensures.reads)

pub returns-clause-purged : goal.returns-clause-purged
returns-clause-purged g c = stays c.purged_items_are_partly_purged.ensures c.chunks_make_purges.ensures.chunks {V = List PurgeItem} (λ gone. gone) g.S.Space c.args.until c.loop-chunk._chunk _ _ c.loop-chunk.purged _ c.loop-chunk.invariant.purged
