use Rattle.std.proofs.Common.{◌≡◌, ◌≤◌, ◌∙◌, ap, arith, sym}
use Rattle.std.specs.Net.Socket.{socket_port}
use Rattle.dss_args.proofs.Listens.{same_address}
use Rattle.dss_args.proofs.command_args.address_of.Goals as goal

pub returns-then-port-eq0-clause-none : goal.returns-then-port-eq0-clause-none
returns-then-port-eq0-clause-none c = λ a is.
    let same = same_address c.args.text.now c.in-Ok.address a c.in-Ok.ensures.value is in
    let port : socket_port a ≡ 0 = ap socket_port same ∙ sym c.port.ensures ∙ c.if-port-eq0.true in
    let from : 1 ≤ socket_port a = is.1 in
    absurd (omega arith)
