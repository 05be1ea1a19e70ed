use Rattle.std.proofs.Common.{◌≡◌, ◌∙◌, ◌+◌, ◌∷◌, sym, ap, ℕ, drop, to_z, of_z, w64, rules, arith, Less, int_cmp}
use Rattle.std.proofs.lemmas.Int.{ints}
use Rattle.space_rows.proofs.ReadSoFar.{front_at}
use Rattle.space_sql_load.specs.declared.naming.Numbered.{Numbered}
use Rattle.space_sql_load.proofs.Risings.{rises_more}
use Rattle.space_sql_check.specs.Parts.{nums_of}
use Rattle.space_sql_check.proofs.subscriptions.is_rising_from.Goals as goal

pub loop-next-preserved : goal.loop-next-preserved
loop-next-preserved c =
    let i : ℕ = c.loop-next.next-index in
    let rest = c.args.rest.now in
    let next = c.next-item.result in
    let own : to_z w64 (of_z w64 next.num) ≡ next.num = search rules in
    let front : drop i rest ≡ next ∷ drop (i + 1) rest = front_at rest i next c.loop-next-test.true ∙ ap (λ (y : Numbered). y ∷ drop (i + 1) rest) (sym c.next-item.is) in
    let less : int_cmp (to_z w64 c.loop-next.last-bits) next.num ≡ Less = (let no = c.if-last-next.false in grind (arith, ints, no, own)) in
    rw own (rises_more (to_z w64 (of_z w64 c.args.first)) (nums_of rest) (to_z w64 c.loop-next.last-bits) next.num (nums_of (drop i rest)) (nums_of (drop (i + 1) rest)) (ap nums_of front) less c.loop-next.invariant)
