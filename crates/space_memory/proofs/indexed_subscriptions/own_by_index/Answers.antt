use Rattle.std.proofs.Common.{List, subst, ◌∙◌}
use Rattle.std.specs.FinMap.{get}
use Rattle.grid_core.specs.Extent.{Region}
use Rattle.space_memory.specs.Found.{AllPassing, OnlyPassing, is_own_of}
use Rattle.entity_maps.specs.Subscriptions.{subscription_map}
use Rattle.space_memory.specs.IndexedSubscriptions.{volumes_of}
use Rattle.space_memory.specs.Near.{HasMeeting}
use Rattle.space_memory.proofs.SearchMaps.{own_answers}
use Rattle.space_memory.proofs.indexed_subscriptions.own_by_index.Goals as goal

pub returns : goal.returns
returns c =
    let ss = c.args.subscriptions.now in
    let near = c.in_ok-near.near in
    let ids = c.in_ok-ids.ids in
    let look = get (subscription_map ss) in
    let has = subst (λ (rs : List Region). HasMeeting c.args.marks.now rs near) (c.deref.ensures.value ∙ c.in_ok-areas.ensures) c.in_ok-near.ensures in
    let same = c.deref-2.ensures.value ∙ c.in_ok-areas.ensures in
    let only = subst (λ (rs : List Region). OnlyPassing look (is_own_of c.args.uss.now rs) ids) same c.in_ok-ids.ensures.only in
    let all = subst (λ (rs : List Region). AllPassing look volumes_of (is_own_of c.args.uss.now rs) rs near ids) same c.in_ok-ids.ensures.all in
    own_answers ss c.args.marks.now c.from_ref.result.now near ids c.requires has c.all_of.ensures.rise (λ f. f.items) c.all_of.result c.args.uss.now c.args.area.now c.from_ref.ensures.value only all c.all_of.ensures.found
