use Rattle.token_conf.proofs.Scopes.{not_named}
use Rattle.token_conf.proofs.entry.with_named.Goals as goal

pub returns-in-None : goal.returns-in-None
returns-in-None c = not_named _ _ c.in-None.ensures
