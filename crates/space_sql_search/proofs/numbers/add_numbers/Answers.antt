use Rattle.std.proofs.Common.{◌≡◌, ◌∙◌, ℤ, [], ◌∷◌, arith, subst, refl, take, List, to_z, of_z, w64, rules}
use Rattle.std.specs.List.{AllByRecursion}
use Rattle.std.proofs.lemmas.List.{take_all}
use Rattle.sqlite_value.specs.Order.{Row}
use Rattle.sqlite_value.specs.declared.value.Value.TheVariants.{Int}
use Rattle.sqlite_rules.specs.Lists.{Has}
use Rattle.sqlite_rules.proofs.ListLemmas.{all_has, all_more, has_front, has_last}
use Rattle.space_rows.proofs.Chunks.{all_turned}
use Rattle.space_sql_search.proofs.numbers.add_numbers.Goals as goal

pub loop-row-preserved : goal.loop-row-preserved
loop-row-preserved c =
    let before = c.loop-row.found.items in
    let after = c.push.new.self.items in
    let is = c.in_ok-push.ensures.items in
    let own : to_z w64 (of_z w64 c.in_ok-number.number) ≡ c.in_ok-number.number = search rules in
    record {
      keeps = λ i h. has_front after before _ i is (c.loop-row.invariant.keeps i h);
      each = all_more (λ (r : Row). (n : ℤ) → r ≡ Int n ∷ [] → Has after n) c.args.rows.now c.loop-row.row-index c.row-item.result (omega arith) c.row-item.is
          (all_turned (λ (r : Row). (n : ℤ) → r ≡ Int n ∷ [] → Has before n) (λ (r : Row). (n : ℤ) → r ≡ Int n ∷ [] → Has after n) (λ r h n e. has_front after before _ n is (h n e)) (take c.loop-row.row-index c.args.rows.now) c.loop-row.invariant.each)
          (λ n e. subst (Has after) (own ∙ c.in_ok-number.ensures n e) (has_last after before _ is));
    }

pub returns-clause-each : goal.returns-clause-each
returns-clause-each c = λ n h.
    let P = λ (r : Row). (m : ℤ) → r ≡ Int m ∷ [] → Has c.loop-row.found.items m in
    all_has P c.args.rows.now (Int n ∷ []) (subst (λ (l : List Row). AllByRecursion P l) (take_all c.loop-row.row-index c.args.rows.now (omega arith)) c.loop-row.invariant.each) h n refl
