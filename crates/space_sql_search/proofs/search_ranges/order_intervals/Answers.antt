use Rattle.std.proofs.lemmas.List.Filters.{dedup_is}
use Rattle.std.proofs.lemmas.List.Kept.{Contains-dedup, IsStrictlySortedBy-dedup}
use Rattle.std.proofs.lemmas.List.Sorted.{Contains-permutation}
use Rattle.sqlite_rules.proofs.ListLemmas.{has_contained, contains_had}
use Rattle.space_sql_search.proofs.Lists.{equal_intervals, intervals_equiv, intervals_total, interval_ties}
use Rattle.space_sql_search.proofs.search_ranges.order_intervals.Goals as goal

pub returns-clause-once : goal.returns-clause-once
returns-clause-once c = rw (dedup_is _ _ _ c.dedup.ensures.filtered) (IsStrictlySortedBy-dedup intervals_total interval_ties _ c.sort_unstable.ensures.sorted)

pub returns-clause-keeps : goal.returns-clause-keeps
returns-clause-keeps c = λ i h.
    let is = dedup_is _ _ _ c.dedup.ensures.filtered in
    has_contained _ i (rw is (Contains-dedup intervals_equiv equal_intervals _ i (Contains-permutation _ _ i c.sort_unstable.ensures.permutation (contains_had _ i h))))
