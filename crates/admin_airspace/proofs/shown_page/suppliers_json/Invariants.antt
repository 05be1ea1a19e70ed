use Rattle.std.proofs.Common.{◌≡◌, take}
use Rattle.serde_json.specs.View.{members_view}
use Rattle.admin_airspace.specs.Page.{settings_members}
use Rattle.admin_airspace.proofs.shown_page.suppliers_json.Given as goal

abbrev pub invariant-loop-setting : goal.invariant-loop-setting
invariant-loop-setting l = members_view l.members.entries ≡ settings_members (take l.setting-index l.setting-items)
