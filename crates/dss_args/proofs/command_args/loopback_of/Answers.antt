use Rattle.std.proofs.Common.{rules, subst}
use Rattle.std.specs.Net.Socket.{socket_ip}
use Rattle.std.specs.declared.net.socket_addr.SocketAddr.{SocketAddr}
use Rattle.dss_args.specs.CommandArgs.{IsLoopback}
use Rattle.dss_args.proofs.Listens.{same_address}
use Rattle.dss_args.proofs.command_args.loopback_of.Goals as goal

pub returns-clause-none : goal.returns-clause-none
returns-clause-none c = λ a is loops.
    let same = same_address c.args.text.now c.in_ok-address.address a c.in_ok-address.ensures.some.0 is in
    let none : IsLoopback (socket_ip c.in_ok-address.address) → ⊥ = search rules in
    none (subst (λ (b : SocketAddr). IsLoopback (socket_ip b)) same loops)
