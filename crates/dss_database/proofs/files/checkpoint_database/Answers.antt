use Rattle.std.specs.Prelude.{Ok, None}
use Rattle.sqlite.specs.WalFiles.{image_at}
use Rattle.dss_database.specs.Files.{KeepsAirspace, KeepsAirspaceIn, RefusesDatabase}
use Rattle.dss_database.proofs.Reporting.{done_closed, left_anyway, settled_kept, settled_left, why_unclosed}
use Rattle.dss_database.proofs.files.checkpoint_database.Goals as goal

pub returns-clause-kept : goal.returns-clause-kept
returns-clause-kept g c = done_closed _ (Unit {0}) _ (Ok tt) c.close_database.result tt c.close_database.ensures (λ done files closes. settled_kept _ (image_at g.F.Start) None None _ files c.in_ok-space.ensures.finds closes record {
  sound = λ k is. is;
  whole = λ k is. is;
  holds = λ k a held. held;
})

pub returns-clause-left : goal.returns-clause-left
returns-clause-left g c = left_anyway _ (RefusesDatabase (image_at g.F.Start)) (KeepsAirspaceIn (image_at g.F.Start)) (Ok tt) c.close_database.result c.close_database.ensures
    (settled_left _ (image_at g.F.Start) None None _ c.in_ok-space.ensures.finds record {
      sound = λ k is. is;
      whole = λ k is. is;
      holds = λ k a held. held;
    })

pub returns-clause-told : goal.returns-clause-told
returns-clause-told g c = why_unclosed _ c.close_database.result c.close_database.ensures
