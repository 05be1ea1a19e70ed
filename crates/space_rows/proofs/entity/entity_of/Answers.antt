use Rattle.std.proofs.Common.{◌≡◌, subst, ℤ, to_z, of_z, w64, rules}
use Rattle.std.proofs.lemmas.Result.{IfOk-weaker}
use Rattle.space_rows.specs.Volumes.{SpellsVolumes}
use Rattle.space_rows.specs.Head.{head_part}
use Rattle.space_rows.proofs.EntityRows.{has_head, found_entity}
use Rattle.space_rows.proofs.entity.entity_of.Goals as goal

pub returns-in_default : goal.returns-in_default
returns-in_default c = λ e s. (rw c.in_default.is at c.in_ok-head.ensures) (head_part e) (has_head c.args.row.now c.args.volumes.now c.args.cells.now c.args.named e s)

pub returns-in-Some-2 : goal.returns-in-Some-2
returns-in-Some-2 c =
    let m : to_z w64 (of_z w64 c.args.row.now.num) ≡ c.args.row.now.num = search rules in
    IfOk-weaker c.joined.result _ _ (λ o. found_entity c.args.row.now c.args.volumes.now c.args.cells.now c.args.named c.in-Some.head c.in-Some-2.list.items o (rw c.in-Some.is at c.in_ok-head.ensures) (subst (λ (z : ℤ). SpellsVolumes z 0 c.args.volumes.now c.args.cells.now c.in-Some-2.list.items) m (rw c.in-Some-2.is at c.in_ok-list.ensures))) c.joined.ensures
