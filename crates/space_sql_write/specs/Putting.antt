-- Definitions of how the rows of an entity are stored.
use Rattle.std.specs.Prelude.{◌≡◌, ◌⊎◌, ℤ, pos, List, Option}
use Rattle.sqlite.specs.Effect.{Database}
use Rattle.entity_core.specs.declared.entity.Entity.{Entity}
use Rattle.entity_core.specs.Entity.{subscription_of}
use Rattle.entity_core.specs.Airspace.{Airspace, key_of}
use Rattle.space_rows.specs.declared.rows.EntityRow.{EntityRow}
use Rattle.space_rows.specs.declared.rows.VolumeRow.{VolumeRow}
use Rattle.space_rows.specs.declared.rows.CellRow.{CellRow}
use Rattle.space_rows.specs.Rows.{SpellsEntity}
use Rattle.space_sql_schema.specs.Spelling.{Spells, Names}
use Rattle.space_sql_write.specs.Layout.{Always, LaysOut, IsNumberOf, Relays, layout_of, without_rows, with_rows}

-- Holds if the number is that of the subscription that an entity references, or there is neither.
-- The tables stay the same.
abbrev pub FindsNaming : Entity → Option ℤ → Database → Database → Type 0
FindsNaming e named old new =
    (a : Airspace) (p : Spells old a)
    → (new ≡ old) × Names p.subs named (subscription_of e.nature)

-- Holds if there is room for an entity under a number. If the tables have an entity of its kind and
-- id, the number is that entity's, and its rows are removed. Otherwise the number is the serial of
-- the entity, and all rows stay.
abbrev pub MakesRoom : Entity → ℤ → Database → Database → Type 0
MakesRoom e num old new =
    (a : Airspace) (p : Spells old a)
    → (IsNumberOf num (key_of e) p.groups × LaysOut new (without_rows num (layout_of old a p)))
    ⊎ (((n : ℤ) → ¬ IsNumberOf n (key_of e) p.groups)
    × (num ≡ pos e.serial) × LaysOut new (layout_of old a p))

-- Holds if rows that represent the entity under the number are added to the others, with a row for
-- its reference.
pub record InsertsEntity (e : Entity) (num : ℤ) (named : Option ℤ) (old new : Database) : Type 0
  where
    pub row : EntityRow
    pub volumes : List VolumeRow
    pub cells : List CellRow
    pub number : row.num ≡ num
    pub spelt : SpellsEntity row volumes cells (subscription_of e.nature) e
    pub relays : Relays Always (with_rows row volumes cells named) old new
