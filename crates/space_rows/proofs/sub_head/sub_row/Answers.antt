use Rattle.std.proofs.Common.{rules}
use Rattle.space_rows.proofs.sub_head.sub_row.Goals as goal

pub returns-clause-head : goal.returns-clause-head
returns-clause-head c = record {
  least = search rules;
  most = search rules;
  id = search rules;
  manager = search rules;
  serial = search rules;
  version = search rules;
  notes = search rules;
  url = search rules;
  interest = search rules;
}
