use Rattle.std.proofs.Common.{subst, List, ℤ}
use Rattle.sqlite.specs.Held.{state}
use Rattle.space_sql_select.proofs.Readings.{reads_then}
use Rattle.space_sql_search.specs.declared.cell_table.CellTable.{CellTable}
use Rattle.space_sql_search.specs.Numbers.{FindsNumbers}
use Rattle.space_sql_search.specs.Candidates.{HoldsFound}
use Rattle.space_sql_lookup.proofs.Still.{reads_weaker}
use Rattle.space_sql_search.proofs.candidates.read_candidates.Goals as goal

pub returns-clause-reads : goal.returns-clause-reads
returns-clause-reads g c =
    let searched = c.args.searched.now in
    let holds = g.C.Candidates.holds in
    let a = state g.S.Store c.args.tx.now.conn.now in
    let b = state g.S.Store c.find_numbers.new.tx.conn.now in
    let d = state g.S.Store c.read_all.new.tx.conn.now in
    let numbers = c.in_ok-numbers.numbers.items in
    reads_weaker _ (HoldsFound g.C.Candidates.cells searched holds) a d c.read_all.result
    (λ db found h. record { numbers = numbers; finds = subst (λ (t : CellTable). FindsNumbers t searched db numbers) c.cell_table.ensures h.0; holds = subst (λ (l : List ℤ). holds l db found) c.as_slice.ensures.value h.1 })
    (reads_then (λ db found. FindsNumbers c.cell_table.result searched db found.items) (holds c.as_slice.result.now) a b d c.in_ok-numbers.numbers c.read_all.result c.in_ok-numbers.ensures.finds c.read_all.ensures.reads)
