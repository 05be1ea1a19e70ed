use Rattle.std.proofs.Common.{◌≡◌, ◌∙◌, ℕ, Bor, List, Some, ap, codes, false, sym, true}
use Rattle.clap.specs.Words.{found_of, rows_of}
use Rattle.clap.proofs.WalkLemmas.{first_value-rows}
use Rattle.dss_args.specs.CommandArgs.{HasName, is_instance_name}
use Rattle.dss_args.proofs.Matches.{absent, anyway}
use Rattle.dss_args.proofs.pool_line.name_in.Goals as goal

pub returns-in_err-name-clause-none : goal.returns-in_err-name-clause-none
returns-in_err-name-clause-none c =
    let f = found_of c.args.matches.now in
    anyway _ ((name : Bor (List ℕ)) → HasName (rows_of f) name → ⊥) (λ name has. absent _ _ (sym (c.in_err-name.ensures ∙ first_value-rows f (codes "as"))) has.0)

pub returns-then-is_instance_name-clause-some : goal.returns-then-is_instance_name-clause-some
returns-then-is_instance_name-clause-some c =
    let f = found_of c.args.matches.now in (
      sym (c.in_ok-name.ensures ∙ first_value-rows f (codes "as")),
      sym c.is_instance_name.ensures ∙ c.if-is_instance_name.true,
    )

pub returns-clause-none : goal.returns-clause-none
returns-clause-none c = λ name has.
    let f = found_of c.args.matches.now in
    let same : Some name.now ≡ Some c.in_ok-name.name.now = sym has.0 ∙ sym (c.in_ok-name.ensures ∙ first_value-rows f (codes "as")) in
    let texts : name.now ≡ c.in_ok-name.name.now = cc in
    let bad : true ≡ false = sym has.1 ∙ ap is_instance_name texts ∙ sym c.is_instance_name.ensures ∙ c.if-is_instance_name.false in
    cc
