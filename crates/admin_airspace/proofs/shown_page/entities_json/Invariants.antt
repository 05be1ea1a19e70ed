use Rattle.std.proofs.Common.{map, take}
use Rattle.serde_json.specs.View.{view}
use Rattle.admin_airspace.specs.Page.{AreShown, IsEntityShown}
use Rattle.admin_airspace.proofs.shown_page.entities_json.Given as goal

abbrev pub invariant-loop-entity : goal.invariant-loop-entity
invariant-loop-entity l = AreShown (IsEntityShown l.availabilities) (map (λ e. e.now) (take l.entity-index l.entities)) (map view l.values.items)
