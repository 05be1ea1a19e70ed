use Rattle.std.proofs.Common.{List, ◌∙◌, ap, subst, sym}
use Rattle.std.proofs.Common as common
use Rattle.std.proofs.lemmas.Result.{err_from_is_err_and}
use Rattle.entity_core.specs.Airspace.{Airspace}
use Rattle.entity_purge.specs.declared.purge_item.PurgeItem.{PurgeItem}
use Rattle.entity_purge.specs.PurgeItem.{CanPurgeAll, without_items}
use Rattle.entity_purge.specs.Purge.{IsPartlyPurged}
use Rattle.space_core.specs.declared.space.SpaceFault.{SpaceFault}
use Rattle.space_core.specs.Space.{Changes, IsContent}
use Rattle.service_calls.specs.Purged.{LeavesPartly}
use Rattle.service_calls.proofs.Purging.{can_go, failed_partly, found_left, went_partly}
use Rattle.service_calls.proofs.service.purged.Goals as goal
use Rattle.service_calls.proofs.service.purged.Goals.{then-not-is_empty+in_ok-purge, else-not-is_empty}

pub purge-requires : goal.purge-requires
purge-requires g c = record {
  can = λ sound a held. subst (λ (gone : List PurgeItem). CanPurgeAll gone a) (sym c.as_slice.ensures.value)
      (can_go g.S.Space c.args.until c.args.most (λ x. x.items) c.args.space.now c.find_ended.new.self c.in_ok-gone.gone c.in_ok-gone.ensures.reads sound a held);
}

pub returns-in_err-purge-clause-left : goal.returns-in_err-purge-clause-left
returns-in_err-purge-clause-left g c = λ sound a content.
    let s = g.S.Space in
    let mid = c.find_ended.new.self in
    let new = c.purge.new.self in
    let p = err_from_is_err_and c.from_residual-in_err-purge.result c.from_residual-in_err-purge.ensures.1 in
    let changes = subst (λ (gone : List PurgeItem). Changes {T = Unit {0}} s.holds s.is_sound s.is_whole (s.is_broken mid) mid new (common.Err c.in_err-purge.field-0.0) (without_items gone)) c.as_slice.ensures.value c.in_err-purge.ensures.changes in
    subst (LeavesPartly s c.args.until a new) (sym (p.1 ∙ ap (λ (e : SpaceFault). common.Err e) p.2))
    (failed_partly s c.args.until c.args.most (λ x. x.items) c.args.space.now mid c.in_ok-gone.gone c.in_ok-gone.ensures.reads (s.is_broken mid) new c.in_err-purge.field-0.0 changes sound a content)

pub returns-clause-left : goal.returns-clause-left
returns-clause-left g c = λ sound a content.
    let s = g.S.Space in
    let mid = c.find_ended.new.self in
    elim c.if-not-is_empty.branch [
      | then-not-is_empty+in_ok-purge w ↦
          let new = w.purge.new.self in
          let changes = subst (λ (gone : List PurgeItem). Changes {T = Unit {0}} s.holds s.is_sound s.is_whole (s.is_broken mid) mid new (common.Ok w.in_ok-purge.field-0) (without_items gone)) w.as_slice.ensures.value w.in_ok-purge.ensures.changes in
          subst (λ x. (b : Airspace) × IsContent s.holds x b × IsPartlyPurged c.args.until a b) (sym w.space-is)
          (went_partly s c.args.until c.args.most (λ x. x.items) c.args.space.now mid c.in_ok-gone.gone c.in_ok-gone.ensures.reads (s.is_broken mid) new w.in_ok-purge.field-0 changes (subst (λ x. s.is_sound x) w.space-is sound) a content)
      | else-not-is_empty w ↦
          subst (λ x. (b : Airspace) × IsContent s.holds x b × IsPartlyPurged c.args.until a b) (sym w.space-is)
          (found_left s c.args.until c.args.most (λ x. x.items) c.args.space.now mid c.in_ok-gone.gone c.in_ok-gone.ensures.reads (subst (λ x. s.is_sound x) w.space-is sound) a content)
    ]
