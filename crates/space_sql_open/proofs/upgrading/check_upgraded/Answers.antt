use Rattle.std.proofs.Common.{◌≡◌, Ok, Err, sym, subst}
use Rattle.std.specs.Prelude.{MatchResult}
use Rattle.sqlite.specs.Held.{state}
use Rattle.space_sql_open.proofs.Insides.{inside_judged}
use Rattle.space_sql_open.proofs.upgrading.check_upgraded.Goals.{in-Ok, in-Err}
use Rattle.space_sql_open.proofs.upgrading.check_upgraded.Goals as goal

pub returns-clause-judges : goal.returns-clause-judges
returns-clause-judges g c =
    let passes : MatchResult c.airspace_or_fault.result (λ x. c.match-airspace_or_fault.result ≡ Ok tt) (λ fault. c.match-airspace_or_fault.result ≡ Err fault) = elim c.match-airspace_or_fault.branch [
      | in-Ok w ↦ subst (λ q. MatchResult q (λ x. c.match-airspace_or_fault.result ≡ Ok tt) (λ fault. c.match-airspace_or_fault.result ≡ Err fault)) (sym w.in-Ok.is) w.result-is
      | in-Err w ↦ subst (λ q. MatchResult q (λ x. c.match-airspace_or_fault.result ≡ Ok tt) (λ fault. c.match-airspace_or_fault.result ≡ Err fault)) (sym w.in-Err.is) w.result-is
    ] in
    inside_judged (state g.S.Store c.args.tx.now.conn.now) (state g.S.Store c.read_airspace_in_transaction-read.new.tx.conn.now) c.read_airspace_in_transaction-read.result c.airspace_or_fault.result c.match-airspace_or_fault.result passes c.airspace_or_fault.ensures.failed c.airspace_or_fault.ensures.examines c.read_airspace_in_transaction-read.ensures.reads
