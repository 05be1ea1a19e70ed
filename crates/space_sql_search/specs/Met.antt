-- Definitions of the entities found, with the availabilities of their managers.
use Rattle.std.specs.Prelude.{◌≡◌, ℕ, List, map, Option}
use Rattle.sqlite.specs.Effect.{Database}
use Rattle.grid_core.specs.Extent.{Region}
use Rattle.entity_core.specs.declared.entity.Entity.{Entity}
use Rattle.entity_core.specs.declared.nature.Kind.{Kind}
use Rattle.entity_core.specs.Airspace.{Airspace}
use Rattle.space_core.specs.declared.met.Met.{Met}
use Rattle.space_core.specs.Met.{met_in, met_of}
use Rattle.space_sql_schema.specs.Spelling.{Spells}

-- These definitions are about the airspace that the tables represent, if they represent one.

-- Holds if the result is the entity with its manager's availability.
abbrev pub IsWithAvailability : Entity → Database → Met → Type 0
IsWithAvailability e db met = (a : Airspace) → Spells db a → met ≡ met_of a e

-- Holds if the results are the entities with the availabilities of their managers.
abbrev pub AreWithAvailabilities : List Entity → Database → List Met → Type 0
AreWithAvailabilities es db met = (a : Airspace) → Spells db a → met ≡ map (met_of a) es

-- Holds if the results are all entities that the search matches.
abbrev pub FindsMet : Kind → List Region → Option ℕ → Database → List Met → Type 0
FindsMet kind areas except db met = (a : Airspace) → Spells db a → met ≡ met_in a kind areas except
