use Rattle.std.proofs.Common.{List, subst, ◌∙◌}
use Rattle.std.specs.FinMap.{get}
use Rattle.grid_core.specs.Extent.{Region}
use Rattle.entity_core.specs.Search.{is_for_near}
use Rattle.space_memory.specs.Found.{AllPassing, OnlyPassing}
use Rattle.entity_maps.specs.Subscriptions.{subscription_map}
use Rattle.space_memory.specs.IndexedSubscriptions.{volumes_of}
use Rattle.space_memory.specs.Near.{HasMeeting}
use Rattle.space_memory.proofs.SearchMaps.{wanted_answers}
use Rattle.space_memory.proofs.indexed_subscriptions.wanted_by_index.Goals as goal

pub returns : goal.returns
returns c =
    let ss = c.args.subscriptions.now in
    let near = c.in_ok-near.near in
    let ids = c.in_ok-ids.ids in
    let look = get (subscription_map ss) in
    let has = subst (λ (rs : List Region). HasMeeting c.args.marks.now rs near) (c.deref.ensures.value ∙ c.in_ok-areas.ensures) c.in_ok-near.ensures in
    let same = c.deref-2.ensures.value ∙ c.in_ok-areas.ensures in
    let only = subst (λ (rs : List Region). OnlyPassing look (is_for_near c.args.kind rs) ids) same c.in_ok-ids.ensures.only in
    let all = subst (λ (rs : List Region). AllPassing look volumes_of (is_for_near c.args.kind rs) rs near ids) same c.in_ok-ids.ensures.all in
    wanted_answers ss c.args.marks.now c.args.areas.now near ids c.requires has c.all_of.ensures.rise (λ f. f.items) c.all_of.result c.args.kind only all c.all_of.ensures.found
