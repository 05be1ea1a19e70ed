use Rattle.std.proofs.Common.{ℕ, List, refl, subst}
use Rattle.std.specs.List.{All}
use Rattle.std.specs.Map.Iter.{deref_pair}
use Rattle.std.proofs.lemmas.Map.Iter.{rest_all}
use Rattle.space_memory.specs.Near.{Gathers, Span}
use Rattle.space_memory.proofs.CellSets.{seen_all, seen_more, seen_none}
use Rattle.space_memory.proofs.CellMeetings.{gathered_all, gathered_rest, gathers_further, gathers_more, nothing_there}
use Rattle.space_memory.proofs.near.gather_all.Goals as goal

pub loop-span-init : goal.loop-span-init
loop-span-init c = record {
  seen = seen_none (λ (e : Span × ℕ). Gathers c.args.marks.now e.0 e.1 c.new-near.result) c.into_iter-span-iterator.result c.into_iter-span-iterator.result refl;
  done = nothing_there c.args.marks.now c.new-near.result;
}

pub loop-span-preserved : goal.loop-span-preserved
loop-span-preserved c =
    let marks = c.args.marks.now in
    let old = c.loop-span.near in
    let new = c.gather.new.near in
    let e : Span × ℕ = (c.in-Some.span.now, c.in-Some.bits.now) in
    let more = gathers_more marks old new c.gather.ensures.kept in
    let here = gathered_rest marks e.0 c.loop-span.done.0 e.1 c.loop-span.done.1 c.start_of-start.result old new c.start_of-start.ensures c.loop-span.invariant.done c.gather.ensures.kept c.in_ok-gather.ensures.gathered in
    record {
      seen = seen_more (λ (x : Span × ℕ). Gathers marks x.0 x.1 old) (λ (x : Span × ℕ). Gathers marks x.0 x.1 new) c.into_iter-span-iterator.result c.loop-span.span-iterator c.next.new.self e
          c.in-Some.ensures.steps more here c.loop-span.invariant.seen;
      done = gathers_further marks new c.further-done.result e c.loop-span.done c.further-done.ensures here (more c.loop-span.done c.loop-span.invariant.done);
    }

pub returns : goal.returns
returns c =
    let P = λ (e : Span × ℕ). Gathers c.args.marks.now e.0 e.1 c.loop-span.near in
    gathered_all c.args.marks.now c.args.spans.now c.loop-span.near (subst (λ (es : List (Span × ℕ)). All P es) c.into_iter-span-iterator.ensures.into_iter_gives.0
    (seen_all P c.into_iter-span-iterator.result c.loop-span.span-iterator (rest_all deref_pair _ _ _ c.in-None.is c.next.ensures.steps) c.loop-span.invariant.seen))
