use Rattle.std.proofs.Common.{◌≡◌, ◌∷◌, subst, rules}
use Rattle.sqlite.specs.Held.{state}
use Rattle.entity_purge.specs.PurgeItem.{CanPurgeAll, without_items}
use Rattle.space_sql_write.specs.Committing.{Commits, HoldsAcrossChange}
use Rattle.space_sql_write.specs.Numbering.{KeepsNumbers}
use Rattle.space_sql_write.proofs.Committed.{committed, kept_committed, none_kept, undone}
use Rattle.space_sql_write.proofs.purge.purge_all.Goals as goal

pub returns-in_err-purge_each-clause-commits : goal.returns-in_err-purge_each-clause-commits
returns-in_err-purge_each-clause-commits g c =
    let old = c.args.conn.now in
    let gone = c.args.first.now ∷ c.args.rest.now in
    let end = c.drop-tx.new.self.0 in
    let same : end ≡ c.conn-1.given.0 = search rules in
    subst (λ h. Commits (CanPurgeAll gone) (without_items gone) (state g.S.Store old) (state g.S.Store h) c.from_residual.result) same
    (undone g.S.Store old (CanPurgeAll gone) (without_items gone) (λ a. KeepsNumbers a (without_items gone a)) (state g.S.Store c.purge_each.new.tx.conn.now) (state g.S.Store end) c.from_residual.result _ c.from_residual.ensures.0 (rw c.transaction-tx.ensures.begun at c.in_err-purge_each.ensures.goes) c.drop-tx.ensures.undone c.drop-tx.ensures.survives)

pub returns-in_err-purge_each-clause-numbers : goal.returns-in_err-purge_each-clause-numbers
returns-in_err-purge_each-clause-numbers g c =
    let gone = c.args.first.now ∷ c.args.rest.now in
    none_kept (CanPurgeAll gone) (λ a. KeepsNumbers a (without_items gone a)) (state g.S.Store c.args.conn.now) (state g.S.Store c.conn-1.given.0) c.from_residual.result c.from_residual.ensures.0

pub returns-clause-commits : goal.returns-clause-commits
returns-clause-commits g c =
    let old = c.args.conn.now in
    let gone = c.args.first.now ∷ c.args.rest.now in
    let end = c.commit.new.self.0 in
    let same : end ≡ c.conn-2-1.given.0 = search rules in
    subst (λ h. Commits (CanPurgeAll gone) (without_items gone) (state g.S.Store old) (state g.S.Store h) c.commit.result) same
    (committed g.S.Store old (CanPurgeAll gone) (without_items gone) (λ a. KeepsNumbers a (without_items gone a)) (state g.S.Store c.purge_each.new.tx.conn.now) (state g.S.Store end) c.commit.result (rw c.transaction-tx.ensures.begun at c.in_ok-purge_each.ensures.goes) c.commit.ensures.ok c.commit.ensures.err c.commit.ensures.survives)

pub returns-clause-numbers : goal.returns-clause-numbers
returns-clause-numbers g c =
    let old = c.args.conn.now in
    let gone = c.args.first.now ∷ c.args.rest.now in
    let end = c.commit.new.self.0 in
    let same : end ≡ c.conn-2-1.given.0 = search rules in
    subst (λ h. HoldsAcrossChange (CanPurgeAll gone) (λ a. KeepsNumbers a (without_items gone a)) (state g.S.Store old) (state g.S.Store h) c.commit.result) same
    (kept_committed g.S.Store old (CanPurgeAll gone) (without_items gone) (λ a. KeepsNumbers a (without_items gone a)) (state g.S.Store c.purge_each.new.tx.conn.now) (state g.S.Store end) c.commit.result (rw c.transaction-tx.ensures.begun at c.in_ok-purge_each.ensures.goes) c.commit.ensures.ok c.commit.ensures.survives)
