use Rattle.database_backend.proofs.Stories.{form_segments}
use Rattle.database_backend.proofs.laws.events_form_segments.Goals as goal

pub returns : goal.returns
returns g c = form_segments g.S.Space g.S.GroupCommit
