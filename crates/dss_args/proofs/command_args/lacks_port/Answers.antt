use Rattle.std.proofs.Common.{ap, codes, sym, ◌∙◌}
use Rattle.std.specs.Prelude.{is_some, not, ◌&&◌}
use Rattle.clap.specs.Words.{found_of, first_of, rows_of}
use Rattle.clap.proofs.WalkLemmas.{first_value-rows}
use Rattle.dss_args.proofs.Matches.{absent_where, found_where}
use Rattle.dss_args.proofs.command_args.lacks_port.Goals as goal

pub returns-then-is_some : goal.returns-then-is_some
returns-then-is_some c =
    let f = found_of c.args.matches.now in
    let rows = rows_of f in
    let backup_dir = found_where _ _ (c.get_str.ensures ∙ first_value-rows f (codes "backup-dir")) ∙ sym c.is_some.ensures ∙ c.if-is_some.true in
    let admin_port = absent_where _ _ _ c.is_none.ensures (c.get_str-then-is_some.ensures ∙ first_value-rows f (codes "admin-port")) in
    admin_port ∙ sym (ap (λ b. b && not (is_some (first_of (codes "admin-port") rows))) backup_dir)

pub returns-else-is_some : goal.returns-else-is_some
returns-else-is_some c =
    let f = found_of c.args.matches.now in
    let rows = rows_of f in
    let backup_dir = found_where _ _ (c.get_str.ensures ∙ first_value-rows f (codes "backup-dir")) ∙ sym c.is_some.ensures ∙ c.if-is_some.false in
    c.if-is_some.false ∙ sym (ap (λ b. b && not (is_some (first_of (codes "admin-port") rows))) backup_dir)
