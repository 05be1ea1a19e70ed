use Rattle.std.proofs.Common.{subst}
use Rattle.sqlite.proofs.Callers.{memory_is_clean}
use Rattle.sqlite.specs.Held.{state}
use Rattle.sqlite.specs.Steps.{over_memory}
use Rattle.sqlite_trees.specs.declared.memory.MemStore.{MemStore}
use Rattle.space_sql.specs.Holding.{IsSound, SqlSpaceModel}
use Rattle.space_sql.proofs.laws.memory_is_sound.Goals as goal

pub returns : goal.returns
returns c =
    let clean = memory_is_clean c.space.inside.conn in
    subst (λ (k : SqlSpaceModel MemStore). IsSound (state over_memory k.conn) k.broken) c.space.view_is (record { clean = clean; live = c.space.invariant.live clean })
