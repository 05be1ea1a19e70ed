use Rattle.std.proofs.Common.{◌∙◌}
use Rattle.sqlite.proofs.Callers.{memory_is_clean}
use Rattle.space_sql.proofs.load.is_ours.Goals as goal

pub returns-in-Ok-make_tables : goal.returns-in-Ok-make_tables
returns-in-Ok-make_tables c = λ yes.
    let made = c.in-Ok-make_tables.ensures.done (memory_is_clean c.make_tables.new.conn) in
    c.same_schema.ensures yes ∙ (c.schema.ensures.value ∙ (made.0 c.in-Ok.ensures.empty.2).schema)
