use Rattle.space_core.specs.Space.{Fits}
use Rattle.space_sql.proofs.Changing.{changes_settled}
use Rattle.space_sql.proofs.space.SqlSpaceSpace.apply.Goals as goal

pub returns-clause-changes : goal.returns-clause-changes
returns-clause-changes g c =
    changes_settled g.S.Store (Fits c.args.change c.args.notify.now) c.self.view_is c.self.invariant c.if-self.false c.requires.fits c.commit_change-made.ensures.commits c.answer_of.ensures.settles c.answer_of.ensures.keeping
