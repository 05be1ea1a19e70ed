use Rattle.wire_http.proofs.Written.{Appends-none, some_rule}
use Rattle.wire_http.proofs.serve.end_with.Goals as goal

pub returns-in_default-rule_text-clause-part : goal.returns-in_default-rule_text-clause-part
returns-in_default-rule_text-clause-part g c = (0, some_rule c.args.end c.in-Wire.rule c.in-Wire.is, Appends-none _)
