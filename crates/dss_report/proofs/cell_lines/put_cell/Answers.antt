use Rattle.std.proofs.Common.{ap, ◌∙◌, ◌++◌, List, ℕ}
use Rattle.std.specs.Prelude.{string_bytes}
use Rattle.dss_report.specs.CellLines.{place_in, place_text}
use Rattle.dss_report.proofs.Placed.{adds_line}
use Rattle.dss_report.proofs.cell_lines.put_cell.Goals as goal

pub returns : goal.returns
returns c =
    let before = c.args.text.now.items in
    adds_line (place_in c.args.entity.now c.args.volume.now c.args.cell) before _ _
    (string_bytes c.in_ok-name.name, c.in_ok-name.ensures, c.in_ok-line.ensures ∙ ap (λ (token : List ℕ). place_text token c.args.entity.now c.args.volume.now) c.as_str.ensures.value)
    (c.in_ok-extend_from_slice.ensures.items ∙ ap (λ (line : List ℕ). before ++ line) c.as_bytes.ensures.value)
