use Rattle.std.proofs.Common.{◌≡◌, ◌∙◌, ◌+◌, ◌++◌, ◌∷◌, [], sym, ap, subst, ℤ, drop, to_z, of_z, w64, rules}
use Rattle.std.specs.Ordering.{nat_cmp}
use Rattle.entity_core.specs.declared.subscription.Sub.{Sub}
use Rattle.entity_maps.specs.Subscriptions.{subscription_map, pair_of}
use Rattle.entity_maps.proofs.Maps.{map_of_none}
use Rattle.space_rows.specs.declared.rows.SubCellRow.{SubCellRow}
use Rattle.space_rows.proofs.ReadSoFar.{front}
use Rattle.space_sql_load.specs.Gathering.{IsNextSub, Subs, numbered, with_sub}
use Rattle.space_sql_load.proofs.Fronts.{Front, front_of}
use Rattle.space_sql_load.proofs.SubGatherings.{SubsOn, subs_start, subs_more, subs_none}
use Rattle.space_sql_load.proofs.subscriptions.gather_subs.Goals as goal

pub loop-row-init : goal.loop-row-init
loop-row-init c =
    let none = ap subscription_map c.new-subscriptions.ensures ∙ map_of_none nat_cmp pair_of in
    let empty_list = c.new-numbers.ensures.items in
    subs_start c.args.serial c.args.rows.now c.args.cells.now (subscription_map c.new-subscriptions.result, c.new-numbers.result.items) (λ i. (none i, empty_list i))

pub loop-row-preserved : goal.loop-row-preserved
loop-row-preserved c =
    let r = c.row-item.result in
    let s = c.in-Some.sub in
    let n : to_z w64 (of_z w64 r.num) ≡ r.num = search rules in
    let m : Subs = (subscription_map c.loop-row.subscriptions, c.loop-row.numbers.items) in
    let t : IsNextSub c.args.serial (to_z w64 c.loop-row.last-bits) r c.split_at.result.0.now m.0 s = rw c.in-Some.is at c.in_ok-sub.ensures in
    let f = front_of (λ (v : SubCellRow). v.subscription ≡ to_z w64 (of_z w64 r.num)) c.sub_cell_count.result c.loop-row.cells_left.now c.split_at.result.0.now c.split_at.result.1.now c.split_at.ensures.front c.split_at.ensures.back c.sub_cell_count.ensures.these c.sub_cell_count.ensures.others in
    let maps = c.in_ok-put.ensures.ok in
    let lists : c.push.new.self.items ≡ m.1 ++ numbered r s ∷ [] = c.in_ok-push.ensures.items ∙ ap (λ (z : ℤ). m.1 ++ record { num = z; id = s.id } ∷ []) n in
    let put : (subscription_map c.put.new.self, c.push.new.self.items) ≡ with_sub r s m = λ i. (maps i, lists i) in
    subst (λ (z : ℤ). SubsOn c.args.serial c.args.rows.now c.args.cells.now z (drop (c.loop-row.row-index + 1) c.args.rows.now) c.split_at.result.1.now (subscription_map c.put.new.self, c.push.new.self.items)) (sym n)
    (subs_more c.args.serial c.args.rows.now c.args.cells.now (to_z w64 c.loop-row.last-bits) r (drop c.loop-row.row-index c.args.rows.now) (drop (c.loop-row.row-index + 1) c.args.rows.now)
    c.loop-row.cells_left.now c.split_at.result.0.now c.split_at.result.1.now m (front c.args.rows.now c.loop-row.row-index r c.loop-row-test.true c.row-item.is)
    (subst (λ (z : ℤ). Front (λ (x : SubCellRow). x.subscription ≡ z) c.loop-row.cells_left.now c.split_at.result.0.now c.split_at.result.1.now) n f)
    c.loop-row.invariant (subscription_map c.put.new.self, c.push.new.self.items) s t put)

pub returns-in_default : goal.returns-in_default
returns-in_default c =
    let r = c.row-item.result in
    let n : to_z w64 (of_z w64 r.num) ≡ r.num = search rules in
    let m : Subs = (subscription_map c.loop-row.subscriptions, c.loop-row.numbers.items) in
    let t : (s : Sub) → ¬ IsNextSub c.args.serial (to_z w64 c.loop-row.last-bits) r c.split_at.result.0.now m.0 s = rw c.in_default.is at c.in_ok-sub.ensures in
    let f = front_of (λ (v : SubCellRow). v.subscription ≡ to_z w64 (of_z w64 r.num)) c.sub_cell_count.result c.loop-row.cells_left.now c.split_at.result.0.now c.split_at.result.1.now c.split_at.ensures.front c.split_at.ensures.back c.sub_cell_count.ensures.these c.sub_cell_count.ensures.others in
    subs_none c.args.serial c.args.rows.now c.args.cells.now (to_z w64 c.loop-row.last-bits) r (drop c.loop-row.row-index c.args.rows.now) (drop (c.loop-row.row-index + 1) c.args.rows.now)
    c.loop-row.cells_left.now c.split_at.result.0.now c.split_at.result.1.now m (front c.args.rows.now c.loop-row.row-index r c.loop-row-test.true c.row-item.is)
    (subst (λ (z : ℤ). Front (λ (x : SubCellRow). x.subscription ≡ z) c.loop-row.cells_left.now c.split_at.result.0.now c.split_at.result.1.now) n f)
    c.loop-row.invariant t
