use Rattle.std.proofs.Common.{◌≡◌, ◌∷◌, subst, rules}
use Rattle.sqlite.specs.Held.{state}
use Rattle.space_core.specs.Batch.{FitAll, changed_all}
use Rattle.space_sql_write.specs.Committing.{Commits, HoldsAcrossChange}
use Rattle.space_sql_write.specs.Numbering.{KeepsNumbersThroughout}
use Rattle.space_sql_write.proofs.Committed.{committed, kept_committed, none_kept, undone}
use Rattle.space_sql_write.proofs.batch.commit_batch.Goals as goal

pub returns-in_err-write_batch-clause-commits : goal.returns-in_err-write_batch-clause-commits
returns-in_err-write_batch-clause-commits g c =
    let old = c.args.conn.now in
    let batch = c.args.first.now ∷ c.args.rest.now in
    let end = c.drop-tx.new.self.0 in
    let same : end ≡ c.conn-1.given.0 = search rules in
    subst (λ h. Commits (FitAll batch) (changed_all batch) (state g.S.Store old) (state g.S.Store h) c.from_residual.result) same
    (undone g.S.Store old (FitAll batch) (changed_all batch) (KeepsNumbersThroughout batch) (state g.S.Store c.write_batch.new.tx.conn.now) (state g.S.Store end) c.from_residual.result _ c.from_residual.ensures.0 (rw c.transaction-tx.ensures.begun at c.in_err-write_batch.ensures.changes) c.drop-tx.ensures.undone c.drop-tx.ensures.survives)

pub returns-in_err-write_batch-clause-numbers : goal.returns-in_err-write_batch-clause-numbers
returns-in_err-write_batch-clause-numbers g c =
    let batch = c.args.first.now ∷ c.args.rest.now in
    none_kept (FitAll batch) (KeepsNumbersThroughout batch) (state g.S.Store c.args.conn.now) (state g.S.Store c.conn-1.given.0) c.from_residual.result c.from_residual.ensures.0

pub returns-clause-commits : goal.returns-clause-commits
returns-clause-commits g c =
    let old = c.args.conn.now in
    let batch = c.args.first.now ∷ c.args.rest.now in
    let end = c.commit.new.self.0 in
    let same : end ≡ c.conn-2-1.given.0 = search rules in
    subst (λ h. Commits (FitAll batch) (changed_all batch) (state g.S.Store old) (state g.S.Store h) c.commit.result) same
    (committed g.S.Store old (FitAll batch) (changed_all batch) (KeepsNumbersThroughout batch) (state g.S.Store c.write_batch.new.tx.conn.now) (state g.S.Store end) c.commit.result (rw c.transaction-tx.ensures.begun at c.in_ok-write_batch.ensures.changes) c.commit.ensures.ok c.commit.ensures.err c.commit.ensures.survives)

pub returns-clause-numbers : goal.returns-clause-numbers
returns-clause-numbers g c =
    let old = c.args.conn.now in
    let batch = c.args.first.now ∷ c.args.rest.now in
    let end = c.commit.new.self.0 in
    let same : end ≡ c.conn-2-1.given.0 = search rules in
    subst (λ h. HoldsAcrossChange (FitAll batch) (KeepsNumbersThroughout batch) (state g.S.Store old) (state g.S.Store h) c.commit.result) same
    (kept_committed g.S.Store old (FitAll batch) (changed_all batch) (KeepsNumbersThroughout batch) (state g.S.Store c.write_batch.new.tx.conn.now) (state g.S.Store end) c.commit.result (rw c.transaction-tx.ensures.begun at c.in_ok-write_batch.ensures.changes) c.commit.ensures.ok c.commit.ensures.survives)
