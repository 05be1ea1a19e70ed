use Rattle.std.proofs.Common.{ap, map, subst, sym, take, ◌+◌}
use Rattle.serde_json.specs.Data.{Data}
use Rattle.serde_json.specs.View.{view}
use Rattle.admin_airspace.specs.Page.{AreShown, IsSubShown}
use Rattle.admin_airspace.proofs.Shown.{sub_shown_by, shown_next}
use Rattle.admin_airspace.proofs.shown_page.subs_json.Goals as goal

pub loop-sub-preserved : goal.loop-sub-preserved
loop-sub-preserved c =
    let shows = IsSubShown c.args.availabilities.now in
    let one = sub_shown_by c.args.availabilities.now c.sub-item.result.now c.present-availability.result (view c.in_ok-sub_json.field-0) c.present-availability.ensures c.in_ok-sub_json.ensures in
    subst (λ vs. AreShown shows (map (λ s. s.now) (take (c.loop-sub.sub-index + 1) c.args.subs.now)) (map view vs)) (sym c.in_ok-push.ensures.items)
    (shown_next shows (λ s. s.now) c.args.subs.now c.loop-sub.sub-index c.sub-item.result c.loop-sub.values.items c.in_ok-sub_json.field-0 c.loop-sub-test.true c.sub-item.is c.loop-sub.invariant one)
