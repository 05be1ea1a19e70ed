use Rattle.std.proofs.Common.{◌≡◌, ◌≢◌, ◌≤◌, ◌∙◌, ◌↔◌, List, [], ◌∷◌, ℕ, Bool, false, IsTrue, sym, subst}
use Rattle.std.specs.Prelude.{IsPermutation}
use Rattle.sqlite.specs.Order.{Row}
use Rattle.sqlite.proofs.Callers.{one_permutation}
use Rattle.entity_core.specs.Serial.{max_serial}
use Rattle.space_sql_schema.specs.Spelling.{meta_values}
use Rattle.sqlite.specs.Effect.{IsDatabase}
use Rattle.sqlite.specs.Held.{state}
use Rattle.space_sql_select.specs.Meta.{ShowsMeta, AreOtherFormat}
use Rattle.space_sql_select.proofs.Metas.{other_database, other_rows, not_other}
use Rattle.space_sql_select.proofs.Readings.{reads_then}
use Rattle.space_sql_check.specs.Checking.{HasAll, JudgesSound}
use Rattle.space_sql_check.proofs.Sequences.{reads_so}
use Rattle.space_sql_check.proofs.Whole.{serial_shown, spells_all, all_spelt}
use Rattle.space_sql_check.proofs.pieces.check_all.Goals as goal

pub returns-in-Other-clause-reads : goal.returns-in-Other-clause-reads
returns-in-Other-clause-reads g c =
    let a = state g.S.Store c.args.tx.now.conn.now in
    let d = state g.S.Store c.read_metas.new.tx.conn.now in
    let metas = c.in_ok-metas.metas in
    let other : AreOtherFormat metas.items = subst AreOtherFormat c.as_slice.ensures.value (rw c.in-Other.is at c.meta_of.ensures) in
    reads_so (λ db rows. ShowsMeta db rows.items) JudgesSound a d metas _
    (λ db has h. record { told = λ _ _. other_database db metas.items h other }) c.in_ok-metas.ensures.reads

not_both : (b : Bool) → b ≡ false → IsTrue b → ⊥
not_both b e h = let bad = sym e ∙ h in cc

pub returns-then-branch-clause-reads : goal.returns-then-branch-clause-reads
returns-then-branch-clause-reads g c =
    let serial = c.in-Ours.serial in
    let a = state g.S.Store c.args.tx.now.conn.now in
    let b = state g.S.Store c.read_metas.new.tx.conn.now in
    let d = state g.S.Store c.are_all.new.tx.conn.now in
    let metas = c.in_ok-metas.metas in
    let told : (metas.items ≡ meta_values 2 serial ∷ []) × (serial ≤ max_serial) = subst (λ (l : List Row). (l ≡ meta_values 2 serial ∷ []) × (serial ≤ max_serial)) c.as_slice.ensures.value (rw c.in-Ours.is at c.meta_of.ensures) in
    reads_so _ JudgesSound a d c.in_ok-are_all-in-Ours.field-0 _
    (λ db has h. record { told = λ _ sound. spells_all db has serial (serial_shown db metas.items serial h.0 told.0) sound told.1 ((h.1 sound).0 c.if-branch.true) })
    (reads_then _ (λ db b. IsDatabase db → IsTrue b ↔ HasAll serial db) a b d metas _ c.in_ok-metas.ensures.reads c.in_ok-are_all-in-Ours.ensures.reads)

pub returns-in-Ours-clause-reads : goal.returns-in-Ours-clause-reads
returns-in-Ours-clause-reads g c =
    let serial = c.in-Ours.serial in
    let a = state g.S.Store c.args.tx.now.conn.now in
    let b = state g.S.Store c.read_metas.new.tx.conn.now in
    let d = state g.S.Store c.are_all.new.tx.conn.now in
    let metas = c.in_ok-metas.metas in
    let told : (metas.items ≡ meta_values 2 serial ∷ []) × (serial ≤ max_serial) = subst (λ (l : List Row). (l ≡ meta_values 2 serial ∷ []) × (serial ≤ max_serial)) c.as_slice.ensures.value (rw c.in-Ours.is at c.meta_of.ensures) in
    reads_so _ JudgesSound a d c.in_ok-are_all-in-Ours.field-0 _
    (λ db has h. record {
      told = λ _ sound. (
        (λ x s. not_both c.in_ok-are_all-in-Ours.field-0 c.if-branch.false ((h.1 sound).1 (all_spelt db has serial (serial_shown db metas.items serial h.0 told.0) x s))),
        (λ o. not_other metas.items serial told.0 (other_rows db metas.items h.0 o)),
      );
    })
    (reads_then _ (λ db b. IsDatabase db → IsTrue b ↔ HasAll serial db) a b d metas _ c.in_ok-metas.ensures.reads c.in_ok-are_all-in-Ours.ensures.reads)

pub returns-clause-reads : goal.returns-clause-reads
returns-clause-reads g c =
    let a = state g.S.Store c.args.tx.now.conn.now in
    let d = state g.S.Store c.read_metas.new.tx.conn.now in
    let metas = c.in_ok-metas.metas in
    let told : ((serial : ℕ) → metas.items ≢ meta_values 2 serial ∷ []) × ¬ AreOtherFormat metas.items = subst (λ (l : List Row). ((serial : ℕ) → l ≢ meta_values 2 serial ∷ []) × ¬ AreOtherFormat l) c.as_slice.ensures.value (rw c.in-Neither.is at c.meta_of.ensures) in
    reads_so (λ db rows. ShowsMeta db rows.items) JudgesSound a d metas _
    (λ db has h. record {
      told = λ _ _. (
        (λ x s. told.0 x.serial (one_permutation (meta_values 2 x.serial) metas.items (subst (λ l. IsPermutation l metas.items) s.meta h))),
        (λ o. told.1 (other_rows db metas.items h o)),
      );
    }) c.in_ok-metas.ensures.reads
