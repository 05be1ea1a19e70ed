use Rattle.std.proofs.Common.{ℕ, List, refl, ap}
use Rattle.std.specs.Prelude.{[], ◌∷◌}
use Rattle.sqlite.specs.Held.{state}
use Rattle.sqlite.specs.declared.types.Value.TheVariants.{Text}
use Rattle.space_sql_lookup.specs.Texts.{availability_read}
use Rattle.space_sql_lookup.proofs.Found.{availability_select}
use Rattle.space_sql_select.proofs.Readings.{reads_asked}
use Rattle.space_sql_lookup.proofs.availability.query_stated.Goals as goal

pub query-requires : goal.query-requires
query-requires g c = availability_select

pub returns-clause-reads : goal.returns-clause-reads
returns-clause-reads g c =
    let old = state g.S.Store c.args.tx.now.conn.now in
    let new = state g.S.Store c.query.new.tx.conn.now in
    reads_asked old new c.query.result _ availability_read _ (Text c.args.uss.now ∷ []) refl (rw c.params-to_sql.ensures (ap (λ (t : List ℕ). Text t ∷ []) c.text.ensures.same)) c.query.ensures.reads
