use Rattle.std.proofs.Common.{◌≡◌, [], ◌∷◌, ap, rules, w64, to_z, of_z}
use Rattle.sqlite.specs.Held.{state}
use Rattle.space_sql_schema.proofs.Steps.{steps_by}
use Rattle.space_sql_write.proofs.Texts.{insert_sub_cell_text}
use Rattle.space_sql_open.specs.Relaying.{Puts, with_cells}
use Rattle.space_sql_open.proofs.Reinserts.{puts_cell}
use Rattle.space_sql_open.proofs.Relays.{carried}
use Rattle.space_sql_open.proofs.reinserting.SubCellRowReinserted.reinsert.Goals as goal

pub returns-clause-puts : goal.returns-clause-puts
returns-clause-puts g c =
    let old = state g.S.Store c.args.tx.now.conn.now in
    let new = state g.S.Store c.execute.new.self.conn.now in
    let subscription : to_z w64 (of_z w64 c.args.self.now.subscription) ≡ c.args.self.now.subscription = search rules in
    let place : to_z w64 (of_z w64 c.args.self.now.place) ≡ c.args.self.now.place = search rules in
    let lo : to_z w64 (of_z w64 c.args.self.now.lo) ≡ c.args.self.now.lo = search rules in
    let hi : to_z w64 (of_z w64 c.args.self.now.hi) ≡ c.args.self.now.hi = search rules in
    let ran = rw (c.params-to_sql.ensures, c.params-to_sql-2.ensures, c.params-to_sql-3.ensures, c.params-to_sql-4.ensures, c.params-to_sql-5.ensures, c.text.ensures, subscription, place, lo, hi) at c.execute.ensures.runs in
    carried (Puts (with_cells (c.args.self.now ∷ []))) old new c.execute.result
    (steps_by old new insert_sub_cell_text _ c.execute.result _ _ (Puts (with_cells (c.args.self.now ∷ []))) c.execute.ensures.ended (λ off. ap (state g.S.Store) (c.execute.ensures.ended off).1) ran c.execute.ensures.survives
    (λ h. puts_cell old new c.args.self.now c.execute.result h))
