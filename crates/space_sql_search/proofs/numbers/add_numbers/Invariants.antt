use Rattle.std.proofs.Common.{◌≡◌, ℤ, [], ◌∷◌, take}
use Rattle.std.specs.List.{AllByRecursion}
use Rattle.sqlite_value.specs.declared.value.Value.TheVariants.{Int}
use Rattle.sqlite_rules.specs.Lists.{Has}
use Rattle.space_sql_search.specs.SearchRanges.{IsSubset}
use Rattle.space_sql_search.proofs.numbers.add_numbers.Given as goal

abbrev pub invariant-loop-row : goal.invariant-loop-row
invariant-loop-row l = record {
  keeps : IsSubset l.fn.found.items l.found.items;
  each : AllByRecursion (λ r. (n : ℤ) → r ≡ Int n ∷ [] → Has l.found.items n) (take l.row-index l.rows);
}
