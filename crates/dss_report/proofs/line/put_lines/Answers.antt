use Rattle.std.proofs.Common.{◌≡◌, ◌+◌, ◌++◌, ◌∷◌, [], take, ap, ap₂, sym, ◌∙◌, List, ℕ}
use Rattle.std.proofs.lemmas.List.{append_assoc, take_more}
use Rattle.entity_core.specs.declared.entity.Entity.{Entity}
use Rattle.dss_report.specs.Report.{line_of, lines_of}
use Rattle.dss_report.proofs.Lines.{lines_more}
use Rattle.dss_report.proofs.line.put_lines.Goals as goal

pub loop-entity-preserved : goal.loop-entity-preserved
loop-entity-preserved c =
    let es = c.args.entities.now in
    let i = c.loop-entity.entity-index in
    let e = c.entity-item.result in
    let before = c.args.text.now.items in
    let more : take (i + 1) es ≡ take i es ++ e ∷ [] = take_more es i e c.loop-entity-test.true ∙ ap (λ (x : Entity). take i es ++ x ∷ []) (sym c.entity-item.is) in
    let added = c.in_ok-extend_from_slice.ensures.items ∙ ap₂ (λ (a b : List ℕ). a ++ b) c.loop-entity.invariant (c.as_bytes.ensures.value ∙ c.in_ok-line.ensures) in
    added ∙ (append_assoc before (lines_of (take i es)) (line_of e) ∙ ap (λ (ls : List ℕ). before ++ ls) (sym (lines_more (take i es) e) ∙ ap lines_of (sym more)))
