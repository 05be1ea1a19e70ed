-- The concatenated lines of entities.
use Rattle.std.proofs.Common.{◌≡◌, ◌++◌, ◌∷◌, [], List, ℕ, ap, sym, ◌∙◌}
use Rattle.std.proofs.lemmas.List.{append_assoc, append-nil}
use Rattle.entity_core.specs.declared.entity.Entity.{Entity}
use Rattle.dss_report.specs.Report.{line_of, lines_of}

pub lines_more : (es : List Entity) (e : Entity) → lines_of (es ++ e ∷ []) ≡ lines_of es ++ line_of e
lines_more [] e = append-nil (line_of e)
lines_more (x ∷ es) e = ap (λ (ls : List ℕ). line_of x ++ ls) (lines_more es e) ∙ sym (append_assoc (line_of x) (lines_of es) (line_of e))
