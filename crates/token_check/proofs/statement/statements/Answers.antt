use Rattle.std.proofs.Common.{List, subst, sym}
use Rattle.std.specs.List.{All}
use Rattle.std.proofs.lemmas.List.Elements.{All-push}
use Rattle.token_check.specs.Statement.{IsWrittenIn}
use Rattle.token_check.specs.declared.statement.Statement.{Statement}
use Rattle.token_check.proofs.statement.statements.Goals as goal

pub loop-statement-preserved : goal.loop-statement-preserved
loop-statement-preserved c =
    subst (λ (xs : List Statement). All (IsWrittenIn c.args.text.now) xs) (sym c.in_ok-push-in-Some.ensures.items)
    (All-push (IsWrittenIn c.args.text.now) c.loop-statement.found.items c.in-Some.statement c.loop-statement.invariant
    (rw c.in-Some.is at c.in_ok-statement.ensures))
