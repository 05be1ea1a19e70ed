use Rattle.std.proofs.Common.{sym, ◌∙◌}
use Rattle.std.proofs.lemmas.Bool.{eqb-true}
use Rattle.pool_etcd.proofs.Admissions.{without_bytes}
use Rattle.pool_etcd.proofs.suppliers.is_admitted.Goals as goal

pub returns-then-is_empty : goal.returns-then-is_empty
returns-then-is_empty c = sym (without_bytes c.args.list.now c.args.entry.now (eqb-true _ _ (sym c.is_empty.ensures ∙ c.if-is_empty.true)))
