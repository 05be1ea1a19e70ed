use Rattle.std.proofs.Common.{sym, ◌∙◌}
use Rattle.server_watch.proofs.Salts.{differ}
use Rattle.server_watch.proofs.token_watch.table_of.Goals as goal

pub returns : goal.returns
returns c = (
  c.in-Ok.table,
  c.in-Ok.ensures,
  λ same. differ c.eq.result c.text.result.now c.text-2.result.now c.eq.ensures c.if-eq.false (c.text.ensures.same ∙ c.salt.ensures ∙ same ∙ sym (c.text-2.ensures.same ∙ c.salt-2.ensures)),
)
