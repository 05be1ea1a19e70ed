use Rattle.dss_report.proofs.Placed.{adds_all, adds_both, adds_same}
use Rattle.dss_report.proofs.cell_lines.text_of_cells.Goals as goal

pub returns : goal.returns
returns c =
    let none = c.new-text.result.items in
    let some = c.put_entities.new.text.items in
    let all = c.put_entities-2.new.text.items in
    let intents = adds_same _ _ none some c.as_slice.ensures.value c.in_ok-put_entities.ensures in
    let constraints = adds_same _ _ some all c.as_slice-2.ensures.value c.in_ok-put_entities-2.ensures in
    adds_all _ none all c.new-text.ensures.items (adds_both _ _ none some all intents constraints)
