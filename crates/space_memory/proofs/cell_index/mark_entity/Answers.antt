use Rattle.std.proofs.Common.{◌≡◌, ◌<◌, ℕ, List, arith, length, subst, get_or}
use Rattle.std.specs.List.{All}
use Rattle.std.proofs.lemmas.List.Elements.{All-weaker}
use Rattle.grid_core.specs.Extent.{Extent}
use Rattle.space_memory.specs.CellIndex.{Holder, IsMarked, holder_of}
use Rattle.space_memory.proofs.CellSets.{each_more}
use Rattle.space_memory.proofs.CellMeetings.{marked_more}
use Rattle.space_memory.proofs.cell_index.mark_entity.Goals as goal

pub loop-place-preserved : goal.loop-place-preserved
loop-place-preserved c =
    let e = holder_of c.args.entity.now in
    let old = c.loop-place.marks in
    let new = c.mark_cells.new.marks in
    let here : c.loop-place.place < length c.items-volume-items.result.now = omega arith in
    let own = subst (λ (h : Holder). All (IsMarked new h c.loop-place.place) c.volume-item.result.cells) c.entity_holder.ensures (subst (All (IsMarked new c.entity_holder.result c.loop-place.place)) c.cells.ensures c.in_ok-mark_cells.ensures.marked) in
    record {
      kept = λ q h. c.mark_cells.ensures.kept q (c.loop-place.invariant.kept q h);
      marked = each_more (λ i (v : Extent). All (IsMarked old e i) v.cells) (λ i (v : Extent). All (IsMarked new e i) v.cells) c.items-volume-items.result.now c.loop-place.place c.volume-item.result here c.volume-item.is
          (λ i v. All-weaker (IsMarked old e i) (IsMarked new e i) (marked_more e old new c.mark_cells.ensures.kept i) v.cells) own c.loop-place.invariant.marked;
    }

pub returns-clause-marked : goal.returns-clause-marked
returns-clause-marked c =
    let e = holder_of c.args.entity.now in
    let marks = c.loop-place.marks in
    let items = c.items-volume-items.result.now in
    let same : items ≡ c.args.entity.now.volumes = c.items-volume-items.ensures.same in
    record {
      few = c.items-volume-items.ensures.most;
      cells = subst (λ (vs : List Extent). (i : ℕ) (d : Extent) → i < length vs → All (IsMarked marks e i) (get_or vs i d).cells) same (λ i d l. c.loop-place.invariant.marked i d (omega arith));
    }
