use Rattle.std.proofs.Common.{◌∙◌}
use Rattle.token_check.proofs.Found.{is_scope-named}
use Rattle.token_check.proofs.warnings.is_scope.Goals as goal

pub returns : goal.returns
returns c = c.is_some.ensures ∙ is_scope-named c.named.result c.args.name.now c.named.ensures
