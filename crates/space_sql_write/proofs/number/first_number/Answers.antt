use Rattle.std.proofs.Common.{to_z, of_z, w64, ◌≡◌, ◌∙◌, ap, sym, rules}
use Rattle.sqlite.specs.declared.types.Value.TheVariants.{Int}
use Rattle.space_sql_write.proofs.Numbers.{first_there}
use Rattle.space_sql_write.proofs.number.first_number.Goals as goal

pub returns-in_ok-get-in-Some : goal.returns-in_ok-get-in-Some
returns-in_ok-get-in-Some c =
    let rows = c.args.rows.now in
    let row = c.in-Some.row.now in
    let num = c.in_ok-get-in-Some.field-0 in
    let own : to_z w64 (of_z w64 num) ≡ num = search rules in
    let item = c.in-Some.ensures.item in
    (row, first_there rows row item.3.0 item.1, c.in_ok-get-in-Some.ensures.ok.1 ∙ ap Int (sym own))
