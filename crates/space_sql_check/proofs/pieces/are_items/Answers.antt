use Rattle.std.proofs.Common.{◌∙◌, ◌↔◌, List, IsTrue, subst}
use Rattle.sqlite.specs.Effect.{IsDatabase}
use Rattle.sqlite.specs.Held.{state}
use Rattle.space_sql_schema.specs.Spelling.{SubGroup}
use Rattle.space_sql_select.proofs.Readings.{reads_then}
use Rattle.space_sql_lookup.proofs.Still.{reads_weaker}
use Rattle.space_sql_check.specs.Parts.{AreNumbered, FindsSubs, HasEntities, any_value}
use Rattle.space_sql_check.specs.Checking.{HasItems}
use Rattle.space_sql_check.proofs.Whole.{one_list}
use Rattle.space_sql_check.proofs.pieces.are_items.Goals as goal

pub returns-in-Some-clause-reads : goal.returns-in-Some-clause-reads
returns-in-Some-clause-reads g c =
    let serial = c.args.serial in
    let a = state g.S.Store c.args.tx.now.conn.now in
    let b = state g.S.Store c.check_subs.new.tx.conn.now in
    let d = state g.S.Store c.are_entities.new.tx.conn.now in
    reads_weaker _ (λ db b. IsDatabase db → IsTrue b ↔ HasItems serial db) a d _
    (λ db b h sound.
    let found = subst (λ o. FindsSubs serial any_value db o) c.in-Some.is (h.0 sound) in
    let told = h.1 sound found.subs (c.as_slice.ensures.value ∙ found.numbers_are, found.are.rising) in (
      (λ yes. record { subs = found.subs; are_subs = found.are; entities = told.0 yes }),
      (λ items. told.1 (subst (λ (s : List SubGroup). HasEntities serial s any_value db) (one_list serial db items.subs found.subs items.are_subs found.are) items.entities)),
    ))
    (reads_then _ (λ db b. IsDatabase db → (subs : List SubGroup) → AreNumbered subs c.as_slice.result.now → IsTrue b ↔ HasEntities serial subs any_value db) a b d c.in_ok-numbers.field-0 _ c.in_ok-numbers.ensures.reads c.are_entities.ensures.reads)
