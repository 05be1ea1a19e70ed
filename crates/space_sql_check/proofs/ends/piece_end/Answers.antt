use Rattle.std.proofs.Common.{subst, sym}
use Rattle.space_sql_select.specs.Selecting.{IsSelect}
use Rattle.space_sql_check.proofs.Shown.{next_select}
use Rattle.space_sql_check.proofs.ends.piece_end.Goals as goal

pub query-requires : goal.query-requires
query-requires g c = subst IsSelect (sym c.text_next.ensures) (next_select c.args.counted)
