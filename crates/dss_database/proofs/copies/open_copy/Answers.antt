use Rattle.sqlite.specs.Files.{image_of}
use Rattle.dss_database.proofs.copies.open_copy.Goals as goal

pub returns : goal.returns
returns g c = c.adopt_copy.ensures (image_of g.D.Disk c.args.files) c.in_ok-connect_copy.ensures.opened
