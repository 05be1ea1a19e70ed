use Rattle.dss_report.proofs.Reported.{places_reported}
use Rattle.dss_report.proofs.cell_lines.cells_text.Goals as goal

pub returns : goal.returns
returns g c =
    places_reported g.S.Space c.args.space.now c.read_contents.new.space c.in-Ok.kept c.in_ok-text_of_cells.field-0 c.in-Ok.ensures.tells c.in-Ok.ensures.reads c.in_ok-text_of_cells.ensures
