use Rattle.std.proofs.Common.{sym, ◌∙◌}
use Rattle.clap.specs.Words.{found_of}
use Rattle.clap.proofs.WalkLemmas.{first_value-rows}
use Rattle.dss_args.proofs.Matches.{found_where}
use Rattle.dss_args.proofs.pool_line.is_given.Goals as goal

pub returns : goal.returns
returns c =
    c.is_some.ensures
    ∙ sym (found_where _ _ (c.get_str.ensures ∙ first_value-rows (found_of c.args.matches.now) c.args.name.now))
