use Rattle.std.proofs.Common.{◌≡◌, ◌∙◌, ◌+◌, ◌∷◌, sym, ap, ℕ, ℤ, drop, pos, to_z, of_z, w64, rules, get_or}
use Rattle.space_rows.proofs.ReadSoFar.{front_at}
use Rattle.space_sql_load.proofs.Risings.{rises_more}
use Rattle.space_sql_load.proofs.rising.is_rising_from.Goals as goal

pub loop-id-preserved : goal.loop-id-preserved
loop-id-preserved c =
    let i : ℕ = c.loop-id.id-index in
    let n : to_z w64 (of_z w64 (get_or c.args.rest.now c.loop-id.id-index (pos 0))) ≡ get_or c.args.rest.now c.loop-id.id-index (pos 0) = search rules in
    rises_more (to_z w64 (of_z w64 c.args.first)) c.args.rest.now (to_z w64 c.loop-id.last-bits) (to_z w64 (of_z w64 (get_or c.args.rest.now i (pos 0)))) (drop i c.args.rest.now) (drop (i + 1) c.args.rest.now)
    (front_at c.args.rest.now i (pos 0) c.loop-id-test.true ∙ ap (λ (y : ℤ). y ∷ drop (i + 1) c.args.rest.now) (sym n)) (c.is_before.ensures.0 c.if-not-is_before.false) c.loop-id.invariant
