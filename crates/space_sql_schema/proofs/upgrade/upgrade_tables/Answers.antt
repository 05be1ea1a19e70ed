use Rattle.std.proofs.Common.{◌≡◌, ◌∙◌, subst, sym, rules, arith, OnErr, OnOk}
use Rattle.std.specs.Prelude.{IsTrue}
use Rattle.sqlite.specs.State.{HasCleanDisk, Survives}
use Rattle.sqlite.specs.Held.{state}
use Rattle.sqlite.proofs.StateLemmas.{survives_then}
use Rattle.sqlite.proofs.Callers.{survives_begin}
use Rattle.space_sql_schema.specs.declared.format.Format.TheVariants.{Two}
use Rattle.space_sql_schema.specs.Spelling.{SpellsAs}
use Rattle.space_sql_schema.specs.Making.{AreUpgraded, MayBeUpgraded}
use Rattle.space_sql_schema.proofs.Steps.{clean_first, on_err, ok_map}
use Rattle.space_sql_schema.proofs.Upgraded.{may_be_upgraded, upgraded_again}
use Rattle.space_sql_schema.proofs.upgrade.upgrade_tables.Goals as goal

pub returns-in_err-upgrade_in_transaction-clause-err : goal.returns-in_err-upgrade_in_transaction-clause-err
returns-in_err-upgrade_in_transaction-clause-err g c =
    let old = c.args.conn.now in
    let begun = c.transaction-tx.ensures.begun in
    let end = c.drop-tx.new.self.0 in
    let same : end ≡ c.conn-1.given.0 = search rules in
    subst (λ h. HasCleanDisk (state g.S.Store h) → IsTrue (state g.S.Store h).is_open → OnErr c.from_residual.result (((state g.S.Store h).now ≡ (state g.S.Store old).committed) × ((state g.S.Store h).committed ≡ (state g.S.Store old).committed))) same
    (λ clean alive. on_err c.from_residual.result _ (
    let back = c.drop-tx.ensures.undone clean in
    let kept = rw begun at (c.upgrade_in_transaction.ensures.upgrades.kept (omega (arith, c.drop-tx.ensures.survives.clean))) in
    let last = kept.committed (back.was_open alive) in
    ((back.undone alive).0 ∙ last, (back.undone alive).1 ∙ last)))

pub returns-clause-crash : goal.returns-clause-crash
returns-clause-crash g c =
    let old = c.args.conn.now in
    let last = c.upgrade_in_transaction.new.tx.conn.now in
    let begun = c.transaction-tx.ensures.begun in
    let ran = λ (clean : HasCleanDisk (state g.S.Store last)). rw begun at (c.in_ok-upgrade_in_transaction.ensures.upgrades.done clean) in
    let first = λ (clean : HasCleanDisk (state g.S.Store c.commit.new.self.0)). clean_first (state g.S.Store last) (state g.S.Store c.commit.new.self.0) _ c.commit.ensures.survives clean in
    let whole = survives_then (state g.S.Store old) (state g.S.Store last) (state g.S.Store c.commit.new.self.0) _ _ (MayBeUpgraded (state g.S.Store old)) (λ _ db none. absurd none)
    (λ clean. may_be_upgraded (state g.S.Store old) (state g.S.Store last) (ran (first clean)).0) (survives_begin g.S.Store old (state g.S.Store last) _ (rw begun at c.upgrade_in_transaction.ensures.upgrades.survives)) c.commit.ensures.survives in
    let same : c.commit.new.self.0 ≡ c.conn-2-1.given.0 = search rules in
    subst (λ h. Survives (state g.S.Store old) (state g.S.Store h) (MayBeUpgraded (state g.S.Store old))) same whole

pub returns-clause-done : goal.returns-clause-done
returns-clause-done g c =
    let old = c.args.conn.now in
    let last = c.upgrade_in_transaction.new.tx.conn.now in
    let begun = c.transaction-tx.ensures.begun in
    let ran = λ (clean : HasCleanDisk (state g.S.Store last)). rw begun at (c.in_ok-upgrade_in_transaction.ensures.upgrades.done clean) in
    let same : c.commit.new.self.0 ≡ c.conn-2-1.given.0 = search rules in
    subst (λ h. HasCleanDisk (state g.S.Store h) → OnOk c.commit.result (AreUpgraded (state g.S.Store old) (state g.S.Store h))) same
    (λ clean. ok_map c.commit.result _ _ (c.commit.ensures.ok clean) (λ it.
    ((λ a spelt. subst (λ d. SpellsAs Two d a) (sym it.1.now_is) (upgraded_again (state g.S.Store old).now (state g.S.Store last).now (ran (omega (arith, c.commit.ensures.survives.clean))).0 a spelt).1), (it.1.is_open, it.1.committed_is ∙ sym it.1.now_is))))
