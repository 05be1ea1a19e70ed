-- Definitions of the effects of a crash on a space over tables, and of what is recovered.
use Rattle.std.specs.Prelude.{◌≡◌, IsTrue, Option, Result, IfErr, IfOk}
use Rattle.sqlite_trees.specs.Tree.{Trees}
use Rattle.sqlite_trees.specs.declared.store.Store.{Ghosts}
use Rattle.sqlite.specs.Held.{Held, state}
use Rattle.entity_core.specs.Airspace.{Airspace}
use Rattle.sqlite.specs.State.{HasCleanDisk}
use Rattle.space_core.specs.Space.{IsContent}
use Rattle.space_core.specs.declared.space.Space as spaces
use Rattle.space_sql_load.specs.declared.table_check.LoadedAirspace.{LoadedAirspace}
use Rattle.space_sql_open.specs.declared.open_fault.OpenFault.{OpenFault}
use Rattle.space_sql_open.specs.declared.open_fault.OpenFault.TheVariants.{Store}
use Rattle.space_sql.specs.OpenResult.{HoldsSpelt, IsDueFault}
use Rattle.space_sql.specs.Holding.{AreTablesOf, SqlSpaceModel, holds_of, is_whole_of}

-- Holds if a crash at this time may leave the trees.
abbrev pub may_leave_of : {S : Type 0} → Ghosts S → SqlSpaceModel S → Trees → Type 0
may_leave_of g k db = (state g k.conn).may_leave db

-- Holds if whatever a crash leaves are the tables of format 2, which represent an airspace that the
-- space holds.
abbrev pub LeavesHeld : {S : Type 0} → Ghosts S → SqlSpaceModel S → Type 0
LeavesHeld g k =
    is_whole_of g k → (db : Trees) → may_leave_of g k db
    → (a : Airspace) × holds_of g k a × AreTablesOf db a

-- Holds if whatever a crash leaves represents the single airspace that the space holds, if it holds
-- exactly one.
abbrev pub LeavesContent : {S : Type 0} → Ghosts S → SqlSpaceModel S → Type 0
LeavesContent g k =
    (a : Airspace) → IsContent (holds_of g) k a → is_whole_of g k
    → (db : Trees) → may_leave_of g k db → AreTablesOf db a

-- Holds if the connection is open, and its committed database may have been left by a crash of the
-- space.
pub record SeesLeft {S T : Type 0} (g : Ghosts S) (k : SqlSpaceModel S) (h : Ghosts T)
    (conn : Held T) : Type 0 where
  pub is_open : IsTrue (state h conn).is_open
  pub left : ∥ may_leave_of g k (state h conn).committed.trees ∥₁

-- Holds if an adopted space holds exactly one airspace, which the space before the crash held. The
-- faults `NotADss` and `Version` do not occur.
pub record FindsLeft {S T : Type 0} (g : Ghosts S) (k : SqlSpaceModel S) (h : Ghosts T)
    (space : spaces.Ghosts (SqlSpaceModel T)) (conn : Held T)
    (result : Result (SqlSpaceModel T × Option LoadedAirspace) (OpenFault × Held T)) : Type 0 where
  pub found : IfOk result (λ t. space.is_sound t.0 → is_whole_of g k → SeesLeft g k h conn
      → ∥ ((a : Airspace) × holds_of g k a × IsContent space.holds t.0 a) ∥₁)
  pub refused : IfErr result (λ e. HasCleanDisk (state h e.1) → is_whole_of g k
      → SeesLeft g k h conn → e.0 ≡ Store)

-- States that `FindsLeft` holds for each result that holds the represented airspace, or is a fault
-- that is due, as each result of `adopt` does.
abbrev pub LeftIsFound : {S T : Type 0} → Ghosts S → SqlSpaceModel S → Ghosts T
    → spaces.Ghosts (SqlSpaceModel T) → Held T → Type 0
LeftIsFound {S} {T} g k h space conn =
    (result : Result (SqlSpaceModel T × Option LoadedAirspace) (OpenFault × Held T))
    → IfOk result (λ t. HoldsSpelt space (state h conn) t.0)
    → IfErr result (λ e. IsDueFault (state h conn) (state h e.1) e.0)
    → FindsLeft g k h space conn result
