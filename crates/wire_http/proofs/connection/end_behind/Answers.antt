use Rattle.wire_http.proofs.Written.{some_rule}
use Rattle.wire_http.proofs.connection.end_behind.Goals as goal

pub returns-in_default-rule_text-clause-some : goal.returns-in_default-rule_text-clause-some
returns-in_default-rule_text-clause-some c = some_rule c.args.end c.in-Wire.rule c.in-Wire.is

pub returns-clause-some : goal.returns-clause-some
returns-clause-some c = some_rule c.args.end c.in-Wire.rule c.in-Wire.is
