use Rattle.server_watch.proofs.Verdicts.{verdict_of}
use Rattle.server_watch.proofs.token_watch.judge.Goals as goal

pub returns-in-Ok : goal.returns-in-Ok
returns-in-Ok c = verdict_of c.args.first.now c.in-Ok.text.now c.args.bytes.now c.table_of.result c.in-Ok.ensures.cases.0 c.table_of.ensures
