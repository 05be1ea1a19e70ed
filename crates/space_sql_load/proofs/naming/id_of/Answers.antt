use Rattle.std.proofs.Common.{Some, sym, ap, ◌∙◌, to_z-of_z}
use Rattle.std.specs.Ordering.{int_cmp}
use Rattle.std.proofs.lemmas.Cmp.{int_cmp_total}
use Rattle.entity_maps.proofs.Positions.{place_hit, place_gap, found_hit, found_gap, read_hit}
use Rattle.space_sql_load.specs.declared.naming.Numbered.{Numbered}
use Rattle.space_sql_load.specs.Gathering.{number_pair}
use Rattle.space_sql_load.proofs.naming.id_of.Goals as goal

pub returns-in-Ok : goal.returns-in-Ok
returns-in-Ok c =
    let hit = rw c.in-Ok.is at (place_hit int_cmp number_pair int_cmp_total c.args.numbers.now c.args.num c.search_numbers.result c.requires c.search_numbers.ensures.bound (rw (to_z-of_z c.ranges.num) at c.search_numbers.ensures.position)) in
    ap (λ (n : Numbered). Some n.id) (sym c.index-numbers-i.is ∙ read_hit int_cmp number_pair c.args.numbers.now c.args.num c.in-Ok.i hit c.index-numbers-i.result c.index-numbers-i.is)
    ∙ found_hit int_cmp number_pair int_cmp_total c.args.numbers.now c.args.num c.in-Ok.i hit

pub returns-in-Err : goal.returns-in-Err
returns-in-Err c =
    found_gap int_cmp number_pair int_cmp_total c.args.numbers.now c.args.num c.in-Err.field-0 (rw c.in-Err.is at (place_gap int_cmp number_pair int_cmp_total c.args.numbers.now c.args.num c.search_numbers.result c.requires c.search_numbers.ensures.bound (rw (to_z-of_z c.ranges.num) at c.search_numbers.ensures.position))) c.requires
