use Rattle.std.proofs.Common.{◌≡◌, sym, ap, ◌∙◌, subst, length}
use Rattle.std.proofs.lemmas.Bool.{eq-eqb, eqb-true}
use Rattle.grid_core.specs.Cell.{IsCell, number_of, parent_of}
use Rattle.grid_core.proofs.Family.{contains_parent, parent_contains}
use Rattle.grid_core.proofs.cell.CellId.contains.Goals as goal

pub returns-then-level : goal.returns-then-level
returns-then-level c =
    let is : c.parent.result ≡ parent_of c.args.other (length c.args.self.digits) = c.parent.ensures ∙ ap (parent_of c.args.other) c.level-then-level.ensures.level in
    let number : c.raw.result ≡ number_of (parent_of c.args.other (length c.args.self.digits)) = c.raw.ensures.number ∙ ap number_of is in (
      λ h. contains_parent c.args.self c.args.other c.raw-then-level.ensures.valid (subst IsCell is c.raw.ensures.valid) (sym number ∙ (eqb-true _ _ h ∙ c.raw-then-level.ensures.number)),
      λ h. eq-eqb _ _ (number ∙ (parent_contains c.args.self c.args.other h ∙ sym c.raw-then-level.ensures.number)),
    )
