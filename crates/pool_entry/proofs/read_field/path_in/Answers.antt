use Rattle.std.proofs.Common.{◌∙◌}
use Rattle.pool_entry.proofs.Fields.{path_fails, path_again}
use Rattle.pool_entry.proofs.read_field.path_in.Goals as goal

pub returns-in_default : goal.returns-in_default
returns-in_default c = path_fails c.args.fault c.args.text.now c.in_default.ensures.cases.0

pub returns : goal.returns
returns c =
    let same = c.from_string.ensures ∙ c.in_ok-from_str.ensures.ok ∙ c.in-Ok.ensures.cases.0 in
    let e = path_again c.args.fault c.args.text.now c.in-Ok.ensures.cases.1 in
    cc
