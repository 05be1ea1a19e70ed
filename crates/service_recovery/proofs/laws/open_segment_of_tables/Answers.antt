use Rattle.space_sql.specs.Holding.{sql_space_code}
use Rattle.service_recovery.proofs.Crashes.{words_of}
use Rattle.service_recovery.proofs.Grouping.{open_segment_in}
use Rattle.service_recovery.proofs.laws.open_segment_of_tables.Goals as goal

pub returns : goal.returns
returns g c = λ old mid new segments batches calls a asked made sound. open_segment_in (words_of g.A.Store) (sql_space_code g.row.A.coded) _ old mid new segments batches calls a asked made sound
