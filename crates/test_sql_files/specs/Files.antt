-- What is left of a connection that was given up.
use Rattle.std.specs.Prelude.{IsTrue}
use Rattle.sqlite_trees.specs.View.{IsClean, IsQuiet}
use Rattle.sqlite_trees.specs.declared.store.Store as stores
use Rattle.sqlite.specs.Held.{AreDatabases, Held, state}
use Rattle.sqlite.specs.State.{Survives}

-- A connection whose store was alive was given up. This is the store, to which nothing more was
-- written.
pub record GivesUp {S : Type 0} (g : stores.Ghosts S) (conn : Held S) (last : S) : Type 0 where
  pub now : Held S
  pub went : Survives (state g conn) (state g now) (λ _. ⊥)
  pub numbered : IsClean (g.view last) → IsTrue (g.view last).is_numbered
  pub sound : IsClean (g.view last) → AreDatabases (g.recovers last)
  pub quiet : IsQuiet g.view g.faults g.recovers g.is_shielded now.store last
  pub alive : IsClean (g.view last) → IsTrue (state g conn).is_open
