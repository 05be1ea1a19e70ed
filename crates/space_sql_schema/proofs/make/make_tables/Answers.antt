use Rattle.std.proofs.Common.{◌≡◌, ◌∙◌, subst, sym, rules, arith, OnErr, OnOk}
use Rattle.std.specs.Prelude.{IsTrue}
use Rattle.sqlite.specs.State.{HasCleanDisk, Survives}
use Rattle.sqlite.specs.Held.{state}
use Rattle.sqlite.proofs.StateLemmas.{survives_then}
use Rattle.sqlite.proofs.Callers.{survives_begin}
use Rattle.entity_core.specs.Airspace.{empty_at}
use Rattle.space_sql_schema.specs.Tables.{no_schema}
use Rattle.space_sql_schema.specs.Spelling.{Spells}
use Rattle.space_sql_schema.specs.Making.{IsSettled, EmptyIfNoTable}
use Rattle.space_sql_schema.proofs.Steps.{on_err, ok_map}
use Rattle.space_sql_schema.proofs.make.make_tables.Goals as goal

pub returns-in_err-make_all-clause-err : goal.returns-in_err-make_all-clause-err
returns-in_err-make_all-clause-err g c =
    let old = c.args.conn.now in
    let begun = c.transaction-tx.ensures.begun in
    let end = c.drop-tx.new.self.0 in
    let same : end ≡ c.conn-1.given.0 = search rules in
    subst (λ h. HasCleanDisk (state g.S.Store h) → IsTrue (state g.S.Store h).is_open → OnErr c.from_residual.result (((state g.S.Store h).now ≡ (state g.S.Store old).committed) × ((state g.S.Store h).committed ≡ (state g.S.Store old).committed))) same
    (λ clean alive. on_err c.from_residual.result _ (
    let back = c.drop-tx.ensures.undone clean in
    let kept = rw begun at (c.make_all.ensures.leads.kept (omega (arith, c.drop-tx.ensures.survives.clean))) in
    let last = kept.committed (back.was_open alive) in
    ((back.undone alive).0 ∙ last, (back.undone alive).1 ∙ last)))

pub returns-clause-crash : goal.returns-clause-crash
returns-clause-crash g c =
    let old = c.args.conn.now in
    let last = c.make_all.new.tx.conn.now in
    let begun = c.transaction-tx.ensures.begun in
    let P = EmptyIfNoTable (state g.S.Store old) in
    let ran = λ (clean : HasCleanDisk (state g.S.Store last)). rw begun at (c.in_ok-make_all.ensures.leads.done clean) in
    let whole = survives_then (state g.S.Store old) (state g.S.Store last) (state g.S.Store c.commit.new.self.0) _ _ P (λ _ db none. absurd none)
    (λ clean db is has. let it = (ran (omega (arith, c.commit.ensures.survives.clean))).0 (has, tt) in ((state g.S.Store last).now, is, it.0, it.1)) (survives_begin g.S.Store old (state g.S.Store last) _ (rw begun at c.make_all.ensures.leads.survives)) c.commit.ensures.survives in
    let same : c.commit.new.self.0 ≡ c.conn-2-1.given.0 = search rules in
    subst (λ h. Survives (state g.S.Store old) (state g.S.Store h) P) same whole

pub returns-clause-done : goal.returns-clause-done
returns-clause-done g c =
    let old = c.args.conn.now in
    let last = c.make_all.new.tx.conn.now in
    let begun = c.transaction-tx.ensures.begun in
    let ran = λ (clean : HasCleanDisk (state g.S.Store last)). rw begun at (c.in_ok-make_all.ensures.leads.done clean) in
    let same : c.commit.new.self.0 ≡ c.conn-2-1.given.0 = search rules in
    subst (λ h. HasCleanDisk (state g.S.Store h) → OnOk c.commit.result (((state g.S.Store old).now.schema ≡ no_schema → Spells (state g.S.Store h).now (empty_at 0)) × IsSettled (state g.S.Store h))) same
    (λ clean. ok_map c.commit.result _ _ (c.commit.ensures.ok clean) (λ it.
    ((λ has. subst (λ d. Spells d (empty_at 0)) (sym it.1.now_is) ((ran (omega (arith, c.commit.ensures.survives.clean))).0 (has, tt)).1), (it.1.is_open, it.1.committed_is ∙ sym it.1.now_is))))
