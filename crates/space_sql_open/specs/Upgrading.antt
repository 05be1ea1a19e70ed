-- Definitions of the steps of an upgrade to format 2.
use Rattle.std.specs.Prelude.{◌≡◌, Result, Ok, Err}
use Rattle.sqlite.specs.Effect.{Database, IsDatabase}
use Rattle.entity_core.specs.Airspace.{Airspace}
use Rattle.space_sql_schema.specs.declared.format.Format.TheVariants.{Two}
use Rattle.space_sql_schema.specs.Making.{HasRows, IsUpgraded}
use Rattle.space_sql_schema.specs.Spelling.{Spells}
use Rattle.space_sql_schema.specs.Tables.{second_schema}
use Rattle.space_sql_open.specs.Opening.{Refuses}
use Rattle.space_sql_open.specs.declared.open_fault.OpenFault.{OpenFault}
use Rattle.space_sql_open.specs.declared.open_fault.OpenFault.TheVariants.{Store}

-- Holds if the tables are created and the format is set, whatever they represent.
abbrev pub Rewrites : Database → Database → Result (Unit {0}) OpenFault → Type 0
Rewrites old new (Ok x) = IsUpgraded old.trees new
Rewrites old new (Err fault) = fault ≡ Store

-- Holds if the index on `naming` is added, and all rows stay, whatever they represent.
abbrev pub Indexes : Database → Database → Result (Unit {0}) OpenFault → Type 0
Indexes old new (Ok x) = HasRows second_schema old.trees new × IsDatabase new
Indexes old new (Err fault) = fault ≡ Store

-- Holds if the result says whether tables of format 2 represent an airspace, and the database is
-- unchanged.
abbrev pub Judges : Database → Database → Result (Unit {0}) OpenFault → Type 0
Judges old new (Ok x) = ((a : Airspace) × Spells old a) × (new ≡ old)
Judges old new (Err fault) = Refuses Two old fault
