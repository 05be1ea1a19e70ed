use Rattle.sqlite.specs.WalFiles.{image_at}
use Rattle.space_sql.proofs.open.SqlSpace+FileStore+FileFrom+S.open.Goals as goal

pub returns-in-Ok-adopt_loaded-clause-finds : goal.returns-in-Ok-adopt_loaded-clause-finds
returns-in-Ok-adopt_loaded-clause-finds g c = c.in-Ok-adopt_loaded.ensures.finds (image_at g.S.Start) c.in-Ok.ensures.opened

pub returns-in-Err-adopt_loaded-clause-refuses : goal.returns-in-Err-adopt_loaded-clause-refuses
returns-in-Err-adopt_loaded-clause-refuses g c = c.in-Err-adopt_loaded.ensures.refuses (image_at g.S.Start) c.in-Ok.ensures.opened
