use Rattle.std.proofs.Common.{◌≡◌, ◌∷◌, subst, sym, to_z, of_z, w64, rules, List, int_cmp}
use Rattle.entity_maps.specs.Sorted.{Rise}
use Rattle.space_sql_load.specs.declared.naming.Numbered.{Numbered}
use Rattle.space_sql_load.specs.Gathering.{number_pair}
use Rattle.space_sql_check.proofs.Loops.{numbers_rise}
use Rattle.space_sql_check.proofs.subscriptions.is_rising.Goals as goal

pub returns-in-Some : goal.returns-in-Some
returns-in-Some c = λ yes.
    let first = c.in-Some.first.now in
    let own : to_z w64 (of_z w64 first.num) ≡ first.num = search rules in
    subst (λ (l : List Numbered). Rise int_cmp number_pair l) (sym c.in-Some.ensures.cases.0) (numbers_rise (first ∷ c.in-Some.rest.now) ((rw own at c.is_rising_from.ensures) yes))
