use Rattle.std.proofs.Common.{rules, ◌≤◌, arith, length}
use Rattle.dss_command.proofs.Explaining.{read_front, read_whole}
use Rattle.dss_command.proofs.explain.body_in.Goals as goal

pub returns-clause-body : goal.returns-clause-body
returns-clause-body g c =
    let short : length c.read_to_end.new.buf.items ≤ 1048576 = grind (arith, c.len.ensures, c.if-len-gt-MAX_BODY_BYTES.false) in
    let front = read_front 1048576 c.read_to_end.new.buf.items c.take.result.limit (g.R.Read.remaining c.take.result.inner.now) (g.R.Read.remaining c.args.input.now) c.new-body.result.items c.take.ensures.limit (search rules) (search rules) c.in_default.ensures.bytes in
    read_whole 1048576 c.read_to_end.new.buf.items (g.R.Read.remaining c.args.input.now) front short
