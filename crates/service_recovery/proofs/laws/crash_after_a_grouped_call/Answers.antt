use Rattle.space_mirror.specs.Laws.{same_store}
use Rattle.space_sql.specs.Holding.{sql_space_code}
use Rattle.service_calls.specs.Held.{space_of}
use Rattle.service_recovery.proofs.Grouping.{crash_leaves_grouped, grouped_over}
use Rattle.service_recovery.proofs.laws.crash_after_a_grouped_call.Goals as goal

pub returns : goal.returns
returns g c = λ old new now call reply is.
    crash_leaves_grouped g.S.Store _ (grouped_over _ _) old new now call reply is
    (λ same waits. same_store (sql_space_code g.row.S.coded) (space_of old) (space_of new) same waits)
