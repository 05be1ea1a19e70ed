use Rattle.std.proofs.Common.{◌<◌, ◌%◌, ◌^◌, ℕ, arith, length, subst}
use Rattle.std.specs.List.{All}
use Rattle.std.proofs.lemmas.List.Elements.{All-weaker}
use Rattle.grid_core.specs.Extent.{Region}
use Rattle.space_memory.specs.Near.{HasSpansOf}
use Rattle.space_memory.proofs.CellSets.{each_more}
use Rattle.space_memory.proofs.CellMeetings.{spans_more}
use Rattle.space_memory.proofs.near.spans_of.Goals as goal

pub loop-place-preserved : goal.loop-place-preserved
loop-place-preserved c =
    let old = c.loop-place.spans in
    let new = c.add_all.new.spans in
    let here : c.loop-place.place < length c.args.areas.now = omega arith in
    let own = subst (λ (bits : ℕ). All (HasSpansOf new bits) c.index-areas-place.result.cells) c.bit_of.ensures (subst (All (HasSpansOf new c.bit_of.result)) c.cells.ensures c.in_ok-add_all.ensures.there) in
    each_more (λ j (a : Region). All (HasSpansOf old (2 ^ (j % 64))) a.cells) (λ j (a : Region). All (HasSpansOf new (2 ^ (j % 64))) a.cells) c.args.areas.now c.loop-place.place c.index-areas-place.result here c.index-areas-place.is
    (λ j a. All-weaker (HasSpansOf old (2 ^ (j % 64))) (HasSpansOf new (2 ^ (j % 64))) (spans_more old new c.add_all.ensures.kept (2 ^ (j % 64))) a.cells) own c.loop-place.invariant
