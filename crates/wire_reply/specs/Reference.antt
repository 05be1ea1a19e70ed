-- References of entities, as JSON.
use Rattle.std.specs.Prelude.{ℕ, List, [], ◌∷◌, ◌++◌, Option, Some, None, map, codes}
use Rattle.std.specs.Fmt.{decimal}
use Rattle.json.specs.Print.{quoted}
use Rattle.entity_core.specs.EntityId.{printed}
use Rattle.entity_core.specs.Entity.{state_name}
use Rattle.entity_core.specs.declared.nature.Kind.{Kind}
use Rattle.entity_core.specs.declared.nature.Kind.TheVariants as kinds
use Rattle.entity_core.specs.declared.nature.Nature.{Nature}
use Rattle.entity_core.specs.declared.nature.Nature.TheVariants.{Intent, Constraint}
use Rattle.policy_core.specs.declared.reference.Reference.{Reference}
use Rattle.wire_reply.specs.Json.{object_text, array_text}
use Rattle.wire_body.specs.Naming.{naming_text}
use Rattle.wire_body.specs.Availability as availabilities

-- The member name for the reference of one entity.
abbrev pub reference_name : Kind → List ℕ
reference_name kinds.Intent = codes "operational_intent_reference"
reference_name kinds.Constraint = codes "constraint_reference"

-- The member name for the references of a query.
abbrev pub references_name : Kind → List ℕ
references_name kinds.Intent = codes "operational_intent_references"
references_name kinds.Constraint = codes "constraint_references"

-- The OVN, if the caller may see it.
abbrev pub ovn_members : Option (List ℕ) → List (List ℕ × List ℕ)
ovn_members None = []
ovn_members (Some ovn) = (codes "ovn", quoted ovn) ∷ []

-- The members that only references of one kind have.
abbrev pub nature_members : Nature → List (List ℕ × List ℕ)
nature_members (Intent state named) = (codes "state", quoted (state_name state))
    ∷ (codes "subscription_id", quoted (naming_text named)) ∷ []
nature_members Constraint = []

-- The members of a reference, in byte order of their names.
abbrev pub reference_members : Reference → List (List ℕ × List ℕ)
reference_members r =
    (codes "id", quoted (printed r.id))
    ∷ (codes "manager", quoted r.manager)
    ∷ (ovn_members r.ovn
    ++ (nature_members r.nature
    ++ ((codes "time_end", decimal r.time_end)
    ∷ (codes "time_start", decimal r.time_start)
    ∷ (codes "uss_availability", quoted (availabilities.name_of r.availability))
    ∷ (codes "uss_base_url", quoted r.url)
    ∷ (codes "version", decimal r.version)
    ∷ [])))

abbrev pub reference_text : Reference → List ℕ
reference_text r = object_text (reference_members r)

abbrev pub references_text : List Reference → List ℕ
references_text rs = array_text (map reference_text rs)
