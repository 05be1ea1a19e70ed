use Rattle.std.proofs.Common.{◌≡◌, ◌∙◌, List, false, subst, sym, true}
use Rattle.std.proofs.lemmas.Result.{IfOk-weaker}
use Rattle.std.specs.Prelude.{IfNone}
use Rattle.std.specs.declared.net.socket_addr.SocketAddr.{SocketAddr}
use Rattle.clap.specs.Words.{found_of, rows_of}
use Rattle.dss_args.specs.CommandArgs.{HasListen, asks_pool}
use Rattle.dss_args.proofs.Matches.{no_pool, none_too, nothing_of_serve}
use Rattle.dss_args.proofs.command_args.serve_line.Goals as goal

pub returns-then-is_given-clause-none : goal.returns-then-is_given-clause-none
returns-then-is_given-clause-none c =
    let rows = rows_of (found_of c.args.matches.now) in
    let asks : asks_pool rows ≡ true = sym c.is_given.ensures ∙ c.if-is_given.true in
    IfOk-weaker c.pool_line.result _ _
    (λ found none. none_too found _ _ (nothing_of_serve rows (λ given has. let bad : true ≡ false = sym asks ∙ has.alone in cc)) none)
    c.pool_line.ensures.none

pub returns-in_default-clause-none : goal.returns-in_default-clause-none
returns-in_default-clause-none c =
    let rows = rows_of (found_of c.args.matches.now) in
    let alone : asks_pool rows ≡ false = sym c.is_given.ensures ∙ c.if-is_given.false in
    let none = subst (λ o. IfNone o ((all : List SocketAddr) → HasListen rows all → ⊥)) c.in_default.is c.in_ok-listen.ensures.none in
    nothing_of_serve rows (λ given has. none given.listen.items has.listen) (no_pool rows alone)
