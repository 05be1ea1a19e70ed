use Rattle.std.proofs.Common.{subst}
use Rattle.pool_entry.specs.Reading.{Gives}
use Rattle.pool_entry.proofs.Calls.{is_found, batch_again}
use Rattle.pool_entry.proofs.read.read_batch.Goals as goal

pub returns-clause-found : goal.returns-clause-found
returns-clause-found c = is_found c.args.bytes.now c.batch_in.result c.batch_in.ensures

pub returns-clause-only : goal.returns-clause-only
returns-clause-only c = λ calls spells. subst (λ f. Gives (λ v. v.items) c.batch_in.result f) (batch_again c.args.bytes.now calls spells) c.batch_in.ensures
