use Rattle.pool_core.proofs.Unlogged.{denial_unchanged, early_anywhere, reading_unchanged}
use Rattle.pool_core.proofs.laws.some_need_no_entry.Goals as goal

pub returns-clause-denied : goal.returns-clause-denied
returns-clause-denied c = denial_unchanged

pub returns-clause-early : goal.returns-clause-early
returns-clause-early c = early_anywhere

pub returns-clause-reading : goal.returns-clause-reading
returns-clause-reading c = reading_unchanged
