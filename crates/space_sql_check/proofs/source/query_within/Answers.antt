use Rattle.std.proofs.Common.{◌≡◌, [], ◌∷◌, refl, rules, subst, sym, w64, to_z, of_z}
use Rattle.sqlite.specs.Held.{state}
use Rattle.sqlite.specs.declared.types.Value.TheVariants.{Int}
use Rattle.space_sql_select.specs.Selecting.{Answers, IsSelect}
use Rattle.space_sql_select.proofs.Readings.{reads_asked}
use Rattle.space_sql_lookup.proofs.Still.{reads_weaker}
use Rattle.space_sql_check.specs.Source.{within_text}
use Rattle.space_sql_check.specs.Parts.{ShowsWithin}
use Rattle.space_sql_check.proofs.Shown.{within_select, within_shown}
use Rattle.space_sql_check.proofs.source.query_within.Goals as goal

pub query-requires : goal.query-requires
query-requires g c = subst IsSelect (sym c.text_within.ensures) (within_select c.args.source)

pub returns-clause-reads : goal.returns-clause-reads
returns-clause-reads g c =
    let old = state g.S.Store c.args.tx.now.conn.now in
    let new = state g.S.Store c.query.new.tx.conn.now in
    let over = c.args.over in
    let end = c.args.end in
    let text = within_text c.args.source in
    let params = Int over ∷ Int end ∷ [] in
    let lo : to_z w64 (of_z w64 over) ≡ over = search rules in
    let hi : to_z w64 (of_z w64 end) ≡ end = search rules in
    reads_weaker (λ db rows. Answers text params db rows.items) (λ db rows. ShowsWithin over end c.args.source db rows.items) old new c.query.result
    (λ db rows h. within_shown over end c.args.source db rows.items h)
    (reads_asked old new c.query.result _ text _ params c.text_within.ensures (rw (c.params-to_sql.ensures, c.params-to_sql-2.ensures, lo, hi) refl) c.query.ensures.reads)
