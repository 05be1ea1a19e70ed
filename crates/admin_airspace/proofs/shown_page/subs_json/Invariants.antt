use Rattle.std.proofs.Common.{map, take}
use Rattle.serde_json.specs.View.{view}
use Rattle.admin_airspace.specs.Page.{AreShown, IsSubShown}
use Rattle.admin_airspace.proofs.shown_page.subs_json.Given as goal

abbrev pub invariant-loop-sub : goal.invariant-loop-sub
invariant-loop-sub l = AreShown (IsSubShown l.availabilities) (map (λ s. s.now) (take l.sub-index l.subs)) (map view l.values.items)
