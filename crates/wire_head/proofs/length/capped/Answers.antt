use Rattle.std.proofs.Common.{sym, ap, ◌∙◌, ◌+◌, ◌*◌, min}
use Rattle.std.specs.Char.{is_ascii_digit}
use Rattle.std.proofs.lemmas.List.Folds.{list_all_at}
use Rattle.wire_head.proofs.LengthLaws.{capped_more}
use Rattle.wire_head.proofs.length.capped.Goals as goal
use Rattle.wire_head.proofs.length.capped.Goals.{then-is_ascii_digit, else-is_ascii_digit}

pub loop-b-preserved : goal.loop-b-preserved
loop-b-preserved c =
    elim c.if-is_ascii_digit.branch [
      | then-is_ascii_digit w ↦ capped_more c.args.digits.now c.loop-b.b-index c.loop-b.total c.if-is_ascii_digit.total c.loop-b-test.true c.loop-b.invariant
          w.if-is_ascii_digit.ensures.cases (w.total-is ∙ w.min-total.ensures ∙ ap (λ n. min (c.loop-b.total * 10 + n) 1048577) w.from.ensures)
      | else-is_ascii_digit w ↦ absurd (let bad = list_all_at is_ascii_digit c.args.digits.now c.loop-b.b-index 0 c.loop-b-test.true (sym w.if-is_ascii_digit.ensures.value) in let good = c.requires in cc)
    ]
