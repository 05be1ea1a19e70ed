use Rattle.std.proofs.Common.{List, ℕ, map, sym, ap, ◌∙◌}
use Rattle.std.specs.Borrow.{Bor}
use Rattle.std.specs.List.{list_all}
use Rattle.token_check.specs.Warnings.{is_scope}
use Rattle.token_check.proofs.Found.{none_of}
use Rattle.token_check.proofs.new.token_table.Goals as goal

pub returns-in-Some-clause-why : goal.returns-in-Some-clause-why
returns-in-Some-clause-why c = (
  sym c.name_fault.ensures ∙ none_of c.name_fault.result (sym c.is_some.ensures ∙ c.if-is_some.false),
  ap (list_all is_scope) (sym c.in_ok-names.ensures ∙ ap (map (λ (n : Bor (List ℕ)). n.now)) (sym c.as_slice.ensures.value)) ∙ c.in-Some.ensures.some,
)
