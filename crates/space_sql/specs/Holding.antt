-- Definitions of the airspaces that a space over tables holds, by the possible effects of a crash.
use Rattle.std.specs.Prelude.{◌≡◌, ℕ, Bool, false, IsTrue, refl}
use Rattle.std.specs.Coded.{Coded, code_by, coded×, coded_ℕ, coded_bool}
use Rattle.sqlite_trees.specs.Tree.{Trees}
use Rattle.sqlite_trees.specs.declared.store.Store.{Ghosts}
use Rattle.sqlite.specs.Effect.{IsDatabase, Database}
use Rattle.sqlite.specs.Held.{Held, held_code, state}
use Rattle.sqlite.specs.State.{State, HasCleanDisk, IsLive}
use Rattle.entity_core.specs.Airspace.{Airspace}
use Rattle.space_sql_schema.specs.Spelling.{Spells}
use Rattle.space_sql_schema.specs.Tables.{dss_schema}

-- Trees with the tables of format 2.
abbrev pub with_tables : Trees → Database
with_tables db = record { schema = dss_schema; trees = db }

-- Holds if the trees are exactly those of the tables of format 2, and represent the airspace.
abbrev pub AreTablesOf : Trees → Airspace → Type 0
AreTablesOf db a = IsDatabase (with_tables db) × Spells (with_tables db) a

-- Holds if some outcome of a crash at this time represents the airspace.
abbrev pub holds_in : State → Airspace → Type 0
holds_in s a = (db : Trees) × s.may_leave db × AreTablesOf db a

-- Holds if each outcome of a crash at this time represents some airspace.
abbrev pub is_whole_in : State → Type 0
is_whole_in s = (db : Trees) → s.may_leave db → (a : Airspace) × AreTablesOf db a

-- Holds if the disk has returned what was written so far, and an unbroken space is usable.
pub record IsSound (s : State) (broken : Bool) : Type 0 where
  pub clean : HasCleanDisk s
  pub live : broken ≡ false → IsTrue s.is_open

-- Holds if a connection is outside a transaction: while it is open, the visible database is the one
-- committed last, and a crash leaves only that.
pub record Rests (s : State) : Type 0 where
  pub live : IsLive s
  pub settled : IsTrue s.is_open → s.now ≡ s.committed
  pub stays : IsTrue s.is_open → s.may_leave s.committed.trees
  pub no_other : (db : Trees) → IsTrue s.is_open → s.may_leave db → db ≡ s.committed.trees

-- Holds if the connection of a space has its invariant between two calls.
pub record IsKeeping (s : State) (broken : Bool) : Type 0 where
  pub outside : s.in_transaction ≡ false
  pub live : HasCleanDisk s → broken ≡ false → IsTrue s.is_open
  pub rests : Rests s

-- The model of a space that contracts see.
pub record SqlSpaceModel (S : Type 0) : Type 0 where
  pub conn : Held S
  pub refusals : ℕ
  pub broken : Bool
  -- True if the tables were those of format 1 when the space adopted them.
  pub upgraded : Bool

abbrev pub sql_space_code : {S : Type 0} → Coded S → Coded (SqlSpaceModel S)
sql_space_code {S} store =
    code_by (Held S × (ℕ × (Bool × Bool)))
    (coded× (held_code store) (coded× coded_ℕ (coded× coded_bool coded_bool)))
    (λ k. (k.conn, (k.refusals, (k.broken, k.upgraded))))
    (λ p. record { conn = p.0; refusals = p.1.0; broken = p.1.1.0; upgraded = p.1.1.1 }) (λ _. refl)

-- Holds if the space holds the airspace in its store.
abbrev pub holds_of : {S : Type 0} → Ghosts S → SqlSpaceModel S → Airspace → Type 0
holds_of g k a = holds_in (state g k.conn) a

abbrev pub is_sound_of : {S : Type 0} → Ghosts S → SqlSpaceModel S → Type 0
is_sound_of g k = IsSound (state g k.conn) k.broken

abbrev pub is_whole_of : {S : Type 0} → Ghosts S → SqlSpaceModel S → Type 0
is_whole_of g k = is_whole_in (state g k.conn)
