use Rattle.std.proofs.Common.{List, subst}
use Rattle.std.specs.Prelude.{IfNone}
use Rattle.std.specs.declared.net.socket_addr.SocketAddr.{SocketAddr}
use Rattle.clap.specs.Words.{found_of, rows_of}
use Rattle.dss_args.specs.CommandArgs.{HasEndpoints}
use Rattle.dss_args.proofs.Matches.{none_too, nothing_of_follow}
use Rattle.dss_args.proofs.follow_line.follow_line.Goals as goal

pub returns-in_default-clause-none : goal.returns-in_default-clause-none
returns-in_default-clause-none c =
    let rows = rows_of (found_of c.args.matches.now) in
    let none = subst (λ o. IfNone o ((all : List SocketAddr) → HasEndpoints rows all → ⊥)) c.in_default.is c.in_ok-endpoints.ensures.none in
    nothing_of_follow rows (λ given has. none given.endpoints.items has.endpoints)

pub returns-clause-none : goal.returns-clause-none
returns-clause-none c =
    let rows = rows_of (found_of c.args.matches.now) in
    none_too c.follow_on.result _ _ (nothing_of_follow rows) c.follow_on.ensures.none
