-- The entities that a put needs to know, with the availabilities of their managers.
use Rattle.std.specs.Prelude.{◌≡◌, List, Some, length, map}
use Rattle.entity_core.specs.Airspace.{Airspace, availability_of}
use Rattle.entity_core.specs.declared.availability.Availability.{Availability}
use Rattle.entity_core.specs.declared.entity.Entity.{Entity}
use Rattle.entity_core.specs.declared.nature.Kind.{Kind}
use Rattle.policy_core.specs.Missing.{needed_with}
use Rattle.service_step.specs.declared.needed.EvaluatedPut.{EvaluatedPut}
use Rattle.service_step.specs.declared.needed.Needed.{Needed}

-- The availability of the manager of an entity in an airspace.
abbrev pub manager_has : Airspace → Entity → Availability
manager_has a e = (availability_of a e.manager).0

-- Holds if there are as many availabilities as entities.
abbrev pub IsPaired : Needed → Type 0
IsPaired needed = length needed.availabilities.items ≡ length needed.entities.items

-- Holds if the availabilities are those of the managers in the airspace.
abbrev pub ArePresent : Airspace → Needed → Type 0
ArePresent a needed = needed.availabilities.items ≡ map (manager_has a) needed.entities.items

-- The entities of a kind that the put needs to know.
abbrev pub needed_by : Kind → Airspace → EvaluatedPut → List Entity
needed_by kind a evaluated =
    needed_with kind a (Some evaluated.caller.now) evaluated.sub.now evaluated.id evaluated.put.now

-- Holds if `needed` has the entities that the put needs to know, with their managers'
-- availabilities.
abbrev pub IsNeededFor : Kind → EvaluatedPut → Airspace → Needed → Type 0
IsNeededFor kind evaluated a needed =
    (needed.entities.items ≡ needed_by kind a evaluated) × ArePresent a needed
