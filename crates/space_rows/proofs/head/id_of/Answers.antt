use Rattle.space_rows.proofs.HeadRows.{no_id}
use Rattle.space_rows.proofs.head.id_of.Goals as goal

pub returns-in-Err : goal.returns-in-Err
returns-in-Err c = no_id c.args.text.now c.in-Err.field-0 c.in-Err.ensures
