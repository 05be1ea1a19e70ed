use Rattle.std.proofs.Common.{refl}
use Rattle.space_core.specs.Batch.{FitAll, changed_all}
use Rattle.space_sql.proofs.Changing.{all_settled, none_settled}
use Rattle.space_sql.proofs.batch.SqlSpaceApplyBatch.apply_batch.Goals as goal

pub returns-in-Some-clause-changes : goal.returns-in-Some-clause-changes
returns-in-Some-clause-changes g c =
    all_settled g.S.Store FitAll changed_all c.args.batch.now c.in-Some.first.now c.in-Some.rest.now c.in-Some.ensures.cases.0 c.self.view_is c.self.invariant c.if-self.false c.requires.fits c.commit_batch-made.ensures.commits c.answer_of.ensures.settles c.answer_of.ensures.keeping

pub returns-in-None-clause-changes : goal.returns-in-None-clause-changes
returns-in-None-clause-changes g c =
    none_settled g.S.Store changed_all c.args.batch.now refl c.in-None.ensures.cases c.self.view_is c.self.invariant c.if-self.false
