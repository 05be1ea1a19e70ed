use Rattle.std.proofs.Common.{true, ◌≡◌, ◌∙◌, sym, subst, List}
use Rattle.std.specs.List.{list_any}
use Rattle.std.specs.Ordering.{is_eq}
use Rattle.std.specs.BTreeMap.Range.{range_contains}
use Rattle.std.specs.declared.ops.Bound.TheVariants.{Included, Excluded}
use Rattle.std.specs.Map.Iter.{deref}
use Rattle.std.proofs.lemmas.Map.Iter.{rest_all, rest_more}
use Rattle.space_memory.specs.CellIndex.{Mark, mark_cmp}
use Rattle.space_memory.specs.Near.{HasBits, Part, part_of}
use Rattle.space_memory.proofs.CellSets.{any_kept, in_range, left_less, left_none, mark_exact}
use Rattle.space_memory.proofs.near.gather.Goals as goal

pub loop-found-preserved : goal.loop-found-preserved
loop-found-preserved c =
    let old = c.loop-found.near in
    let new = c.add_part.new.near in
    record {
      kept = λ k b h. c.add_part.ensures.kept k b (c.loop-found.invariant.kept k b h);
      left = left_less mark_cmp mark_exact c.into_iter-found-iterator.result c.loop-found.found-iterator c.next.new.self c.in-Some.found.now (λ q. HasBits old (part_of q) c.args.bits) (λ q. HasBits new (part_of q) c.args.bits) c.loop-found.invariant.left
          (rest_more deref _ _ _ c.in-Some.found c.in-Some.is c.next.ensures.steps)
          (subst (λ (p : Part). HasBits new p c.args.bits) c.part_of.ensures c.in_ok-add_part.ensures.there)
          (λ q h b i. c.add_part.ensures.kept (part_of q) b (h b i));
    }

pub returns-in-None-clause-gathered : goal.returns-in-None-clause-gathered
returns-in-None-clause-gathered c = λ q h low high.
    left_none mark_cmp c.into_iter-found-iterator.result c.loop-found.found-iterator (λ q. HasBits c.loop-found.near (part_of q) c.args.bits) c.loop-found.invariant.left (rest_all deref _ _ _ c.in-None.is c.next.ensures.steps) q
    (subst (λ (ks : List Mark). list_any (λ k. is_eq (mark_cmp q k)) ks ≡ true) (sym (c.into_iter-found-iterator.ensures.into_iter_gives ∙ c.range-found-items.ensures.between tt))
    (any_kept mark_cmp mark_exact (range_contains mark_cmp (Included (c.args.span.0, 0, 0)) (Excluded (c.args.span.1, 0, 0))) q c.args.marks.now.keys (in_range c.args.span q low high) h))
