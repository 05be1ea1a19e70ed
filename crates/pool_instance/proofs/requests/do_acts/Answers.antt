use Rattle.std.proofs.Common.{[], ◌∷◌, ap, sym, ◌∙◌}
use Rattle.pool_core.specs.Acts.{Purges}
use Rattle.pool_entry.specs.Acts.{acts_of, acts_read}
use Rattle.pool_instance.proofs.Made.{acts_keeping, purge_keeping}
use Rattle.pool_instance.proofs.requests.do_acts.Goals as goal

pub returns-in-Ok-clause-made : goal.returns-in-Ok-clause-made
returns-in-Ok-clause-made g c =
    acts_keeping g.S.Space c.args.is_own (Purges c.in-Purge.until ∷ []) (acts_of c.args.bytes.now) c.args.service.now c.purge_all.new.service c.new.result.items (sym (ap acts_read c.in-Purge.is) ∙ c.in-Some.ensures)
    (purge_keeping g.S.Space c.args.is_own c.in-Purge.until c.args.service.now c.purge_all.new.service c.new.result.items c.new.ensures.items c.in-Ok.ensures.purged)
