use Rattle.std.proofs.Common.{arith}
use Rattle.std.proofs.lemmas.Int.{ints}
use Rattle.std.proofs.lemmas.Bool.Decides.{nat_tests}
use Rattle.std.proofs.lemmas.Cmp.{int_cmp_total, int_eq_equiv}
use Rattle.std.proofs.lemmas.List.Filters.{dedup_is}
use Rattle.std.proofs.lemmas.List.Kept.{Contains-dedup, IsStrictlySortedBy-dedup}
use Rattle.std.proofs.lemmas.List.Sorted.{Contains-permutation}
use Rattle.sqlite_rules.proofs.ListLemmas.{has_contained, contains_had}
use Rattle.space_sql_search.proofs.numbers.order_numbers.Goals as goal

pub returns-clause-once : goal.returns-clause-once
returns-clause-once c = rw (dedup_is _ _ _ c.dedup.ensures.filtered) (IsStrictlySortedBy-dedup int_cmp_total (λ x y. grind (arith, ints, nat_tests)) _ c.sort_unstable.ensures.sorted)

pub returns-clause-keeps : goal.returns-clause-keeps
returns-clause-keeps c = λ n h.
    let is = dedup_is _ _ _ c.dedup.ensures.filtered in
    has_contained _ n (rw is (Contains-dedup int_eq_equiv (λ x y e. grind (arith, ints, nat_tests)) _ n (Contains-permutation _ _ n c.sort_unstable.ensures.permutation (contains_had _ n h))))
