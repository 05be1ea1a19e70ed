use Rattle.std.proofs.Common.{List, subst}
use Rattle.std.specs.Prelude.{IfNone}
use Rattle.std.specs.declared.net.socket_addr.SocketAddr.{SocketAddr}
use Rattle.clap.specs.Words.{found_of, rows_of}
use Rattle.dss_args.specs.CommandArgs.{HasEndpoints, HasListen}
use Rattle.dss_args.proofs.pool_line.pool_line.Goals as goal

pub returns-in_default-clause-none : goal.returns-in_default-clause-none
returns-in_default-clause-none c =
    let rows = rows_of (found_of c.args.matches.now) in
    let none = subst (λ o. IfNone o ((all : List SocketAddr) → HasEndpoints rows all → ⊥)) c.in_default.is c.in_ok-endpoints.ensures.none in
    λ given has. none given.endpoints.items has.endpoints

pub returns-in_default-2-clause-none : goal.returns-in_default-2-clause-none
returns-in_default-2-clause-none c =
    let rows = rows_of (found_of c.args.matches.now) in
    let none = subst (λ o. IfNone o ((all : List SocketAddr) → HasListen rows all → ⊥)) c.in_default-2.is c.in_ok-listen.ensures.none in
    λ given has. none given.listen.items has.listen
