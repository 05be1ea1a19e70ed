use Rattle.std.proofs.Common.{◌≡◌, subst, rules}
use Rattle.sqlite.specs.Held.{state}
use Rattle.space_core.specs.Space.{Fits, changed}
use Rattle.space_sql_write.specs.Committing.{Commits, HoldsAcrossChange}
use Rattle.space_sql_write.specs.Numbering.{KeepsNumbers}
use Rattle.space_sql_write.proofs.Committed.{committed, kept_committed, none_kept, undone}
use Rattle.space_sql_write.proofs.change.commit_change.Goals as goal

pub returns-in_err-write_change-clause-commits : goal.returns-in_err-write_change-clause-commits
returns-in_err-write_change-clause-commits g c =
    let old = c.args.conn.now in
    let change = c.args.change.now in
    let told = c.args.notify.now in
    let end = c.drop-tx.new.self.0 in
    let same : end ≡ c.conn-1.given.0 = search rules in
    subst (λ h. Commits (Fits change told) (changed change told) (state g.S.Store old) (state g.S.Store h) c.from_residual.result) same
    (undone g.S.Store old (Fits change told) (changed change told) (λ a. KeepsNumbers a (changed change told a)) (state g.S.Store c.write_change.new.tx.conn.now) (state g.S.Store end) c.from_residual.result _ c.from_residual.ensures.0 (rw c.transaction-tx.ensures.begun at c.in_err-write_change.ensures.changes) c.drop-tx.ensures.undone c.drop-tx.ensures.survives)

pub returns-in_err-write_change-clause-numbers : goal.returns-in_err-write_change-clause-numbers
returns-in_err-write_change-clause-numbers g c =
    none_kept (Fits c.args.change.now c.args.notify.now) (λ a. KeepsNumbers a (changed c.args.change.now c.args.notify.now a)) (state g.S.Store c.args.conn.now) (state g.S.Store c.conn-1.given.0) c.from_residual.result c.from_residual.ensures.0

pub returns-clause-commits : goal.returns-clause-commits
returns-clause-commits g c =
    let old = c.args.conn.now in
    let change = c.args.change.now in
    let told = c.args.notify.now in
    let end = c.commit.new.self.0 in
    let same : end ≡ c.conn-2-1.given.0 = search rules in
    subst (λ h. Commits (Fits change told) (changed change told) (state g.S.Store old) (state g.S.Store h) c.commit.result) same
    (committed g.S.Store old (Fits change told) (changed change told) (λ a. KeepsNumbers a (changed change told a)) (state g.S.Store c.write_change.new.tx.conn.now) (state g.S.Store end) c.commit.result (rw c.transaction-tx.ensures.begun at c.in_ok-write_change.ensures.changes) c.commit.ensures.ok c.commit.ensures.err c.commit.ensures.survives)

pub returns-clause-numbers : goal.returns-clause-numbers
returns-clause-numbers g c =
    let old = c.args.conn.now in
    let change = c.args.change.now in
    let told = c.args.notify.now in
    let end = c.commit.new.self.0 in
    let same : end ≡ c.conn-2-1.given.0 = search rules in
    subst (λ h. HoldsAcrossChange (Fits change told) (λ a. KeepsNumbers a (changed change told a)) (state g.S.Store old) (state g.S.Store h) c.commit.result) same
    (kept_committed g.S.Store old (Fits change told) (changed change told) (λ a. KeepsNumbers a (changed change told a)) (state g.S.Store c.write_change.new.tx.conn.now) (state g.S.Store end) c.commit.result (rw c.transaction-tx.ensures.begun at c.in_ok-write_change.ensures.changes) c.commit.ensures.ok c.commit.ensures.survives)
