use Rattle.std.proofs.Common.{ap, codes, false, List, ℕ, Option, ◌∙◌}
use Rattle.std.specs.Prelude.{nat_eq}
use Rattle.std.specs.Cmp.Lexicographic.{pointwise}
use Rattle.std.specs.Option.{option_map_or}
use Rattle.clap.specs.Words.{found_of}
use Rattle.clap.proofs.WalkLemmas.{first_value-rows}
use Rattle.dss_args.proofs.command_args.is_set.Goals as goal

pub returns-in-Some : goal.returns-in-Some
returns-in-Some c =
    c.eq.ensures
    ∙ ap (λ (o : Option (List ℕ)). option_map_or (λ text. pointwise nat_eq text (codes "true")) o false)
    (c.in-Some.ensures ∙ first_value-rows (found_of c.args.matches.now) c.args.name.now)

pub returns-in-None : goal.returns-in-None
returns-in-None c =
    ap (λ (o : Option (List ℕ)). option_map_or (λ text. pointwise nat_eq text (codes "true")) o false)
    (c.in-None.ensures ∙ first_value-rows (found_of c.args.matches.now) c.args.name.now)
