use Rattle.std.proofs.Common.{◌≡◌, [], ◌∷◌, refl, rules, subst, sym, w64, to_z, of_z}
use Rattle.sqlite.specs.Held.{state}
use Rattle.sqlite.specs.declared.types.Value.TheVariants.{Int}
use Rattle.space_sql_select.specs.Selecting.{Answers, IsSelect}
use Rattle.space_sql_select.proofs.Readings.{reads_asked}
use Rattle.space_sql_search.specs.CellTable.{text_of}
use Rattle.space_sql_search.specs.Numbers.{ShowsNumbers}
use Rattle.space_sql_lookup.proofs.Still.{reads_weaker}
use Rattle.space_sql_search.proofs.Shown.{is_select, numbers_shown}
use Rattle.space_sql_search.proofs.numbers.query_numbers.Goals as goal

pub query-requires : goal.query-requires
query-requires g c = subst IsSelect (sym c.text.ensures) (is_select c.args.table c.args.range)

pub returns-clause-reads : goal.returns-clause-reads
returns-clause-reads g c =
    let old = state g.S.Store c.args.tx.now.conn.now in
    let new = state g.S.Store c.query.new.tx.conn.now in
    let i = c.args.interval.now in
    let text = text_of c.args.table c.args.range in
    let params = Int i.lo ∷ Int i.hi ∷ [] in
    let lo : to_z w64 (of_z w64 i.lo) ≡ i.lo = search rules in
    let hi : to_z w64 (of_z w64 i.hi) ≡ i.hi = search rules in
    reads_weaker (λ db rows. Answers text params db rows.items) (λ db rows. ShowsNumbers c.args.table c.args.range i db rows.items) old new c.query.result
    (λ db rows h. numbers_shown c.args.table c.args.range i db rows.items h)
    (reads_asked old new c.query.result _ text _ params c.text.ensures (rw (c.params-to_sql.ensures, c.params-to_sql-2.ensures, lo, hi) refl) c.query.ensures.reads)
