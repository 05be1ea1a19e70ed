use Rattle.std.proofs.Common.{rules}
use Rattle.std.specs.Ordering.{int_cmp}
use Rattle.std.proofs.lemmas.Fn.{always_returns_same}
use Rattle.space_sql_load.specs.declared.naming.Numbered.{Numbered}
use Rattle.space_sql_load.proofs.naming.search_numbers.Goals as goal

pub returns-clause-position : goal.returns-clause-position
returns-clause-position c =
    c.binary_search_by.ensures.position (λ (n : Numbered). int_cmp n.num c.args.num) (always_returns_same _ _ _ (λ a r f' h. search rules))
