use Rattle.std.proofs.Common.{refl}
use Rattle.entity_purge.specs.PurgeItem.{CanPurgeAll, without_items}
use Rattle.space_sql.proofs.Changing.{all_settled, none_settled}
use Rattle.space_sql.proofs.purge.SqlSpacePurge.purge.Goals as goal

pub returns-in-Some-clause-changes : goal.returns-in-Some-clause-changes
returns-in-Some-clause-changes g c =
    all_settled g.S.Store CanPurgeAll without_items c.args.gone.now c.in-Some.first.now c.in-Some.rest.now c.in-Some.ensures.cases.0 c.self.view_is c.self.invariant c.if-self.false c.requires.can c.purge_all-made.ensures.commits c.answer_of.ensures.settles c.answer_of.ensures.keeping

pub returns-in-None-clause-changes : goal.returns-in-None-clause-changes
returns-in-None-clause-changes g c =
    none_settled g.S.Store without_items c.args.gone.now refl c.in-None.ensures.cases c.self.view_is c.self.invariant c.if-self.false
