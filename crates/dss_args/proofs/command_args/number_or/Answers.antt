use Rattle.std.proofs.Common.{◌∙◌, ℕ, ap, inl, inr, refl}
use Rattle.std.specs.Prelude.{not}
use Rattle.clap.specs.Words.{found_of, rows_of}
use Rattle.clap.proofs.WalkLemmas.{first_value-rows}
use Rattle.dss_args.specs.CommandArgs.{HasNumberIn, HasNumberOr}
use Rattle.dss_args.proofs.Matches.{no_text, none_too, some_text}
use Rattle.dss_args.proofs.command_args.number_or.Goals as goal

pub returns-then-is_none-clause-some : goal.returns-then-is_none-clause-some
returns-then-is_none-clause-some c =
    let f = found_of c.args.matches.now in
    inr (no_text c.get_str.result _ (c.is_none.ensures ∙ ap not c.if-is_none.true) (c.get_str.ensures ∙ first_value-rows f c.args.name.now), refl)

pub returns-clause-none : goal.returns-clause-none
returns-clause-none c =
    let f = found_of c.args.matches.now in
    let rows = rows_of f in
    let name = c.args.name.now in
    none_too c.number_in.result _ _
    (λ (none : (n : ℕ) → HasNumberIn name c.args.least c.args.greatest rows n → ⊥) n (has : HasNumberOr name c.args.least c.args.greatest c.args.otherwise rows n).
    elim has [
      | inl number ↦ none n number
      | inr without ↦ some_text c.get_str.result _ (c.is_none.ensures ∙ ap not c.if-is_none.false) (c.get_str.ensures ∙ first_value-rows f name) without.0
    ])
    c.number_in.ensures.none
