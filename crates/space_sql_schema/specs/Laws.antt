-- Laws of tables.
use Rattle.std.specs.Prelude.{◌≡◌}
use Rattle.sqlite.specs.Effect.{Database}
use Rattle.entity_core.specs.Airspace.{Airspace}
use Rattle.space_sql_schema.specs.Spelling.{Spells}

-- States that databases with the same rows represent at most one airspace.
abbrev pub OneAirspace : Type 0
OneAirspace = (D E : Database) (a b : Airspace) → D.trees ≡ E.trees → Spells D a → Spells E b
    → a ≡ b
