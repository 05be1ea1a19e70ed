-- Results of a search, with the availability of each entity's manager.
use Rattle.std.specs.Prelude.{ℕ, List, map, Option}
use Rattle.grid_core.specs.Extent.{Region}
use Rattle.entity_core.specs.declared.entity.Entity.{Entity}
use Rattle.entity_core.specs.declared.nature.Kind.{Kind}
use Rattle.entity_core.specs.Airspace.{Airspace, availability_of}
use Rattle.entity_core.specs.Search.{meeting_in}
use Rattle.space_core.specs.declared.met.Met.{Met}

-- An entity with the availability that its manager has in the airspace.
abbrev pub met_of : Airspace → Entity → Met
met_of a e = record { entity = e; availability = (availability_of a e.manager).0 }

-- The entities of an airspace that match a search, by ascending id.
abbrev pub met_in : Airspace → Kind → List Region → Option ℕ → List Met
met_in a kind areas except = map (met_of a) (meeting_in a.entities kind areas except)
