-- Definitions of the effect of a call within a transaction on what its connection shows.
use Rattle.std.specs.Prelude.{◌≡◌}
use Rattle.sqlite_trees.specs.declared.store.Store.{Ghosts}
use Rattle.sqlite.specs.declared.transaction.Transaction.{Transaction}
use Rattle.sqlite.specs.Held.{state}
use Rattle.sqlite.specs.State.{State}

-- Holds if the states before and after the call and the result are in this relation.
--
-- Example: the contract of a function that executes `CREATE TABLE entity` has
-- `Within S.Store tx.old tx.new (Leads (IsBare schema_1) (IsBare schema_2)) result`. If the
-- connection of `tx` showed exactly `meta` before the call, without rows, and the result is `Ok`,
-- it shows exactly `meta` and `entity` after the call, without rows. A transaction only refers to
-- its connection, so the relation is about the states of the connection.
abbrev pub Within : {S : Type 0} → Ghosts S → Transaction S → Transaction S → {X : Type 0}
    → (State → State → X → Type 0) → X → Type 0
Within g old new Does result = Does (state g old.conn.now) (state g new.conn.now) result

-- Holds if it is still a transaction of the same connection.
abbrev pub SameConnection : {S : Type 0} → Transaction S → Transaction S → Type 0
SameConnection old new = new.conn.ghost_name ≡ old.conn.ghost_name
