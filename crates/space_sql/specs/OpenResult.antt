-- Definitions of the results and effects of adopting a database.
use Rattle.std.specs.Prelude.{◌≡◌, ◌≢◌, Bool, false, true}
use Rattle.sqlite_trees.specs.Tree.{Trees}
use Rattle.sqlite_trees.specs.declared.store.Store as stores
use Rattle.sqlite.specs.Effect.{Database}
use Rattle.sqlite.specs.Held.{Held, state}
use Rattle.sqlite.specs.State.{State, HasCleanDisk}
use Rattle.entity_core.specs.Airspace.{Airspace, empty_at}
use Rattle.space_core.specs.Space.{IsContent}
use Rattle.space_core.specs.declared.space.Space.{Ghosts}
use Rattle.space_sql_schema.specs.Spelling.{SpellsAs}
use Rattle.space_sql_schema.specs.Tables.{no_schema, schema_of}
use Rattle.space_sql_schema.specs.declared.format.Format.{Format}
use Rattle.space_sql_schema.specs.declared.format.Format.TheVariants.{One, TwoUnindexed, Two, OldOne, OldTwoUnindexed, OldTwo}
use Rattle.space_sql_schema.specs.declared.presence.Presence.{Presence}
use Rattle.space_sql_schema.specs.declared.presence.Presence.TheVariants.{Missing, Partial, Whole}
use Rattle.space_sql_schema.specs.Making.{EmptyIfNoTable}
use Rattle.space_sql_schema.specs.Presence.{presence_in}
use Rattle.space_sql_select.specs.Reading.{IsAsFound}
use Rattle.space_sql_open.specs.Opening.{MayHaveUpgraded, Refuses, format_before}
use Rattle.space_sql_open.specs.declared.old_format.OldFormat.{OldFormat}
use Rattle.space_sql_open.specs.declared.old_format.OldFormat.TheVariants as old_format
use Rattle.space_sql_open.specs.declared.open_fault.OpenFault.{OpenFault}
use Rattle.space_sql_open.specs.declared.open_fault.OpenFault.TheVariants.{Store}
use Rattle.space_sql.specs.Holding.{SqlSpaceModel}

-- Holds if a newly adopted space is sound while its disk has returned what was written, has failed
-- no call, and is not broken.
pub record IsFresh {S : Type 0} (g : stores.Ghosts S) (space : Ghosts (SqlSpaceModel S))
    (k : SqlSpaceModel S) : Type 0 where
  pub sound : HasCleanDisk (state g k.conn) → space.is_sound k
  pub unrefused : space.refusals k ≡ 0
  pub works : space.is_broken k ≡ false

-- Holds if a space adopted over a database without tables holds an empty airspace, and no other.
abbrev pub HoldsEmpty : {S : Type 0} → Ghosts (SqlSpaceModel S) → State → SqlSpaceModel S → Type 0
HoldsEmpty space opened s =
    space.is_sound s → opened.now.schema ≡ no_schema → IsContent space.holds s (empty_at 0)

-- ---- tables of one format

-- Holds if the adopted space holds the airspace that the tables represent.
abbrev pub HoldsSpeltAs : {S : Type 0} → Format → Ghosts (SqlSpaceModel S) → State
    → SqlSpaceModel S → Type 0
HoldsSpeltAs format space opened s =
    space.is_sound s → opened.now.schema ≡ schema_of format
    → (a : Airspace) × SpellsAs format opened.now a × IsContent space.holds s a

-- Holds if the fault of the returned connection is one that is due.
abbrev pub IsDueFaultAs : Format → State → State → OpenFault → Type 0
IsDueFaultAs format opened back fault =
    HasCleanDisk back → opened.now.schema ≡ schema_of format → Refuses format opened.now fault

-- Holds if, after each fault except `Store`, the returned connection is as it was found.
abbrev pub IsUnwrittenAs : Format → State → State → OpenFault → Type 0
IsUnwrittenAs format opened back fault =
    HasCleanDisk back → opened.now.schema ≡ schema_of format → fault ≢ Store
    → IsAsFound opened back

-- ---- tables of any format

abbrev pub HoldsSpelt : {S : Type 0} → Ghosts (SqlSpaceModel S) → State → SqlSpaceModel S → Type 0
HoldsSpelt space opened s = (format : Format) → HoldsSpeltAs format space opened s

abbrev pub IsDueFault : State → State → OpenFault → Type 0
IsDueFault opened back fault = (format : Format) → IsDueFaultAs format opened back fault

abbrev pub IsUnwritten : State → State → OpenFault → Type 0
IsUnwritten opened back fault = (format : Format) → IsUnwrittenAs format opened back fault

-- Returns true for format 1, in either order.
abbrev pub is_first : Format → Bool
is_first One = true
is_first TwoUnindexed = false
is_first Two = false
is_first OldOne = true
is_first OldTwoUnindexed = false
is_first OldTwo = false

-- Returns true if the tables that were found are those of format 1.
abbrev pub finds_first : (found : Presence) → Bool
finds_first Missing = false
finds_first Partial = false
finds_first (Whole format) = is_first format

-- True if the tables that were upgraded were those of format 1.
abbrev pub is_format_1 : OldFormat → Bool
is_format_1 from = is_first (format_before from)

-- ---- effects of a crash

-- Holds if opening can have committed these trees, given which tables it found. If it found none,
-- they are those of an empty airspace. If it found format 1, format 2 without the index on
-- `naming`, or tables in the old order, they are those of format 2 with the same airspace.
-- Otherwise it committed nothing.
abbrev pub CommittedIfFound : (found : Presence) → State → Trees → Type 0
CommittedIfFound Missing s trees = EmptyIfNoTable s trees
CommittedIfFound Partial s trees = ⊥
CommittedIfFound (Whole One) s trees = MayHaveUpgraded old_format.One s trees
CommittedIfFound (Whole TwoUnindexed) s trees = MayHaveUpgraded old_format.TwoUnindexed s trees
CommittedIfFound (Whole Two) s trees = ⊥
CommittedIfFound (Whole OldOne) s trees = MayHaveUpgraded old_format.OldOne s trees
CommittedIfFound (Whole OldTwoUnindexed) s trees =
    MayHaveUpgraded old_format.OldTwoUnindexed s trees
CommittedIfFound (Whole OldTwo) s trees = MayHaveUpgraded old_format.OldTwo s trees

-- Holds if opening may have committed the trees before it failed. After `NotADss` and `Version`,
-- there are none.
abbrev pub MayBeOpened : State → OpenFault → Trees → Type 0
MayBeOpened s fault trees =
    (fault ≡ Store) × CommittedIfFound (presence_in s.now.schema) s trees

-- ---- the represented airspace

-- States that databases with the same rows represent at most one airspace in a format.
abbrev pub OneAirspaceAs : Type 0
OneAirspaceAs = (format : Format) (D E : Database) (a b : Airspace) → D.trees ≡ E.trees
    → SpellsAs format D a → SpellsAs format E b → a ≡ b

-- States that a space that holds the airspace of tables of a format holds each airspace that they
-- represent, and no other.
abbrev pub HoldsEachSpelt : {S : Type 0} → stores.Ghosts S → Ghosts (SqlSpaceModel S) → Type 0
HoldsEachSpelt {S} g space = (opened : Held S) (k : SqlSpaceModel S)
    → HoldsSpelt space (state g opened) k → space.is_sound k
    → (format : Format) (a : Airspace) → SpellsAs format (state g opened).now a
    → IsContent space.holds k a
