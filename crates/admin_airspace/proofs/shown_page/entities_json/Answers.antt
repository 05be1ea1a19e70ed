use Rattle.std.proofs.Common.{ap, map, subst, sym, take, ◌+◌}
use Rattle.serde_json.specs.Data.{Data}
use Rattle.serde_json.specs.View.{view}
use Rattle.admin_airspace.specs.Page.{AreShown, IsEntityShown}
use Rattle.admin_airspace.proofs.Shown.{entity_shown_by, shown_next}
use Rattle.admin_airspace.proofs.shown_page.entities_json.Goals as goal

pub loop-entity-preserved : goal.loop-entity-preserved
loop-entity-preserved c =
    let shows = IsEntityShown c.args.availabilities.now in
    let one = entity_shown_by c.args.availabilities.now c.entity-item.result.now c.present-availability.result (view c.in_ok-entity_json.field-0) c.present-availability.ensures c.in_ok-entity_json.ensures in
    subst (λ vs. AreShown shows (map (λ e. e.now) (take (c.loop-entity.entity-index + 1) c.args.entities.now)) (map view vs)) (sym c.in_ok-push.ensures.items)
    (shown_next shows (λ e. e.now) c.args.entities.now c.loop-entity.entity-index c.entity-item.result c.loop-entity.values.items c.in_ok-entity_json.field-0 c.loop-entity-test.true c.entity-item.is c.loop-entity.invariant one)
