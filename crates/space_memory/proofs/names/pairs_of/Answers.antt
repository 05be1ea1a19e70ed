use Rattle.std.proofs.Common.{ℕ, arith, ap, ◌∙◌}
use Rattle.std.specs.BTreeSet.{keys_between}
use Rattle.std.specs.Range.{range_inclusive_end}
use Rattle.std.specs.declared.ops.Bound.TheVariants.{Included}
use Rattle.space_memory.specs.Names.{Naming, naming_cmp}
use Rattle.space_memory.proofs.NamePairs.{pairs_found}
use Rattle.space_memory.proofs.names.pairs_of.Goals as goal

pub returns : goal.returns
returns c =
    pairs_found c.args.names.now c.args.id 340282366920938463463374607431768211455 c.range.result (λ n h. let small = h.small in omega arith)
    (c.range.ensures.between c.new.ensures.exhausted
    ∙ (ap (λ (q : Naming). keys_between naming_cmp (Included q) (Included (range_inclusive_end c.new.result)) c.args.names.now) (c.new.ensures.start ∙ ap (λ (n : ℕ). (n, 0)) c.number-number.ensures)
    ∙ ap (λ (q : Naming). keys_between naming_cmp (Included (c.args.id, 0)) (Included q) c.args.names.now) (c.new.ensures.end ∙ ap (λ (n : ℕ). (n, 340282366920938463463374607431768211455)) c.number-number.ensures)))
    c.range.ensures.ordered
