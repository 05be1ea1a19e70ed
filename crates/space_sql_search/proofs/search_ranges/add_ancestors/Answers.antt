use Rattle.std.proofs.Common.{arith, subst, ℕ, ◌≡◌, inl, inr, ap, ◌∙◌}
use Rattle.std.proofs.lemmas.Bool.{cases_lt}
use Rattle.sqlite_rules.specs.Lists.{Has}
use Rattle.sqlite_rules.proofs.ListLemmas.{has_front, has_last}
use Rattle.grid_core.specs.Cell.{parent_of}
use Rattle.space_sql_search.specs.SearchRanges.{interval_of}
use Rattle.space_sql_search.proofs.search_ranges.add_ancestors.Goals as goal

pub loop-level-preserved : goal.loop-level-preserved
loop-level-preserved c =
    let before = c.loop-level.out.items in
    let after = c.push.new.self.items in
    let is = c.in_ok-push.ensures.items in
    record {
      keeps = λ i h. has_front after before _ i is (c.loop-level.invariant.keeps i h);
      each = λ k lt. elim (cases_lt k c.loop-level.level) [
        | inl less ↦ has_front after before _ (interval_of (parent_of c.args.cell k)) is (c.loop-level.invariant.each k less)
        | inr ge ↦ let same : c.loop-level.level ≡ k = omega (arith, lt, ge) in subst (λ (n : ℕ). Has after (interval_of (parent_of c.args.cell n))) same (subst (Has after) (c.interval_of.ensures ∙ ap interval_of c.parent.ensures) (has_last after before c.interval_of.result is))
      ];
    }

pub returns-clause-each : goal.returns-clause-each
returns-clause-each c = λ k lt low. c.loop-level.invariant.each k (omega (arith, lt, low))
