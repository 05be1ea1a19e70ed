use Rattle.std.proofs.Common.{List, subst, ◌∙◌}
use Rattle.grid_core.specs.Extent.{Region}
use Rattle.entity_core.specs.declared.entity.Entity.{Entity}
use Rattle.entity_maps.specs.Entities.{entity_map}
use Rattle.space_memory.specs.Found.{AllPassing, OnlyPassing, entity_of, is_sought_of}
use Rattle.space_memory.specs.Near.{HasMeeting}
use Rattle.space_memory.proofs.SearchMaps.{meeting_answers}
use Rattle.space_memory.proofs.indexed.meeting_in.Goals as goal

pub returns : goal.returns
returns c =
    let es = c.args.entities.now in
    let near = c.in_ok-near.near in
    let ids = c.in_ok-ids.ids in
    let look = entity_of (entity_map es) c.args.kind in
    let sought = λ (rs : List Region). is_sought_of c.args.kind rs c.args.except in
    let has = subst (λ (rs : List Region). HasMeeting c.args.marks.now rs near) (c.deref.ensures.value ∙ c.in_ok-areas.ensures) c.in_ok-near.ensures in
    let same = c.deref-2.ensures.value ∙ c.in_ok-areas.ensures in
    let only = subst (λ (rs : List Region). OnlyPassing look (sought rs) ids) same c.in_ok-ids.ensures.only in
    let all = subst (λ (rs : List Region). AllPassing look (λ (e : Entity). e.volumes) (sought rs) rs near ids) same c.in_ok-ids.ensures.all in
    meeting_answers es c.args.marks.now c.args.areas.now near ids c.requires has c.args.kind c.args.except c.entities_of.ensures.rise only all (λ f. f.items) c.entities_of.result c.entities_of.ensures.found
