-- What a call needs to know, and what is missing from its key.
use Rattle.std.specs.Prelude.{ℕ, ◌&&◌, not, Bool, true, false, List, [], ◌∷◌, map, filter, length, Option, Some, None, option_map, unwrap_or, if◌then◌else◌}
use Rattle.std.specs.List.{list_any, range_with_len, slice_get}
use Rattle.grid_core.specs.Extent.{region_of}
use Rattle.entity_core.specs.IdTexts.{same_text}
use Rattle.entity_core.specs.Airspace.{Airspace, availability_of}
use Rattle.entity_core.specs.Search.{meeting_in}
use Rattle.entity_core.specs.declared.availability.Availability.{Availability}
use Rattle.entity_core.specs.declared.availability.Availability.TheVariants.{Down}
use Rattle.entity_core.specs.declared.entity.Entity.{Entity}
use Rattle.entity_core.specs.declared.subscription.Sub.{Sub}
use Rattle.entity_core.specs.Entity.{subscription_of}
use Rattle.entity_core.specs.Subscription.{wants}
use Rattle.entity_core.specs.declared.nature.Kind.{Kind}
use Rattle.entity_core.specs.declared.nature.Kind.TheVariants as kinds
use Rattle.entity_core.specs.declared.nature.State.TheVariants.{Accepted, Activated}
use Rattle.entity_core.specs.declared.nature.Nature.{Nature}
use Rattle.entity_core.specs.declared.nature.Nature.TheVariants.{Intent}
use Rattle.policy_core.specs.declared.scope.Caller.{Caller}
use Rattle.policy_core.specs.declared.scope.Scope.TheVariants.{ConstraintProcessing}
use Rattle.policy_core.specs.declared.call.Put.{Put}
use Rattle.policy_core.specs.declared.call.Operation.{Operation}
use Rattle.policy_core.specs.declared.call.Operation.TheVariants.{Create, Update}
use Rattle.policy_core.specs.declared.reference.Missing.{Missing}
use Rattle.policy_core.specs.declared.reference.Reference.{Reference}
use Rattle.policy_core.specs.Scope.{has_scope}
use Rattle.policy_core.specs.Standing.{sub_under}
use Rattle.policy_core.specs.View.{view_of}

-- ---- what is needed

-- True if a put of this nature needs a key: an `Accepted` or `Activated` intent.
abbrev pub needs_key : Nature → Bool
needs_key (Intent Accepted named) = true
needs_key (Intent Activated named) = true
needs_key nature = false

-- True if there is a subscription and it is for constraints.
abbrev pub is_for_constraints : Option Sub → Bool
is_for_constraints (Some s) = wants s.interest kinds.Constraint
is_for_constraints None = false

abbrev pub processes_constraints : Option Caller → Bool
processes_constraints (Some caller) = has_scope caller.scopes ConstraintProcessing
processes_constraints None = false

-- True if a caller needs to know constraints. If it references a subscription, that one must be for
-- constraints. Otherwise the caller must have the scope to process constraints.
abbrev pub needs_constraints : Option Caller → Option ℕ → Option Sub → Bool
needs_constraints caller (Some id) sub = is_for_constraints sub
needs_constraints caller None sub = processes_constraints caller

-- True if the caller needs to know entities of a kind.
abbrev pub needs_kind : Kind → Option Caller → Option ℕ → Option Sub → Bool
needs_kind kinds.Intent caller named sub = true
needs_kind kinds.Constraint caller named sub = needs_constraints caller named sub

-- True if a put that references this subscription needs to know entities of a kind.
abbrev pub put_needs : Kind → Option Caller → Put → Option Sub → Bool
put_needs kind caller put sub =
    needs_key put.nature && needs_kind kind caller (subscription_of put.nature) sub

-- The excluded id. An intent does not need to know itself, but can need to know a constraint with
-- the same id.
abbrev pub excepted : Kind → ℕ → Option ℕ
excepted kinds.Intent id = Some id
excepted kinds.Constraint id = None

-- True for an `Accepted` intent.
abbrev pub is_planned : Nature → Bool
is_planned (Intent Accepted named) = true
is_planned nature = false

abbrev pub is_down : Availability → Bool
is_down Down = true
is_down availability = false

-- True if an entity is exempt, given the availability of its manager. An `Accepted` intent of a USS
-- that is down is exempt: no call needs to know it.
abbrev pub spared : Entity → Availability → Bool
spared e availability = is_planned e.nature && is_down availability

-- True if an entity is exempt, given the availability of its manager in the airspace.
abbrev pub is_spared : Airspace → Entity → Bool
is_spared a e = spared e (availability_of a e.manager).0

-- The entities that are not exempt.
abbrev pub unspared : Airspace → List Entity → List Entity
unspared a es = filter (λ e. not (is_spared a e)) es

-- The entities that a put with this subscription needs to know: those that meet one of its volumes
-- and are not exempt. Their manager does not matter.
abbrev pub needed_with : Kind → Airspace → Option Caller → Option Sub → ℕ → Put → List Entity
needed_with kind a caller sub id put =
    if put_needs kind caller put sub
    then unspared a (meeting_in a.entities kind (map region_of put.volumes) (excepted kind id))
    else []

abbrev pub needed_put : Kind → Airspace → Option Caller → ℕ → Put → List Entity
needed_put kind a caller id put =
    needed_with kind a caller (sub_under a (subscription_of put.nature)) id put

-- The entities of a kind that a call needs to know, by ascending id. The caller's USS does not
-- matter. Only puts need to know entities.
abbrev pub needed : Kind → Airspace → Option Caller → Operation → List Entity
needed kind a caller (Create id put) = needed_put kind a caller id put
needed kind a caller (Update id ovn put) = needed_put kind a caller id put
needed kind a caller op = []

-- ---- what is missing

-- The key of an operation.
abbrev pub key_shown : Operation → List (List ℕ)
key_shown (Create id put) = put.key
key_shown (Update id ovn put) = put.key
key_shown op = []

abbrev pub in_key : List (List ℕ) → List ℕ → Bool
in_key key ovn = list_any (same_text ovn) key

abbrev pub is_missing_from : List (List ℕ) → Entity → Bool
is_missing_from key e = not (in_key key e.ovn)

-- The entities whose current OVN is not in the key.
unfoldable pub missing_from : List (List ℕ) → List Entity → List Entity
missing_from key es = filter (is_missing_from key) es

-- True if there is an element at the index and it passes the test.
abbrev pub passes_at : {X : Type 0} → (X → Bool) → List X → ℕ → Bool
passes_at test xs place = unwrap_or (option_map test (slice_get xs place)) false

-- The indexes of the elements that pass a test, ascending.
abbrev pub places_where : {X : Type 0} → (X → Bool) → List X → List ℕ
places_where test xs = filter (passes_at test xs) (range_with_len 0 (length xs))

abbrev pub nothing_missing : Missing
nothing_missing = record { intents = []; constraints = [] }

-- The needed entities of each kind that are missing from a key, in the caller's view.
abbrev pub missing_of : Airspace → Caller → List (List ℕ) → (Kind → List Entity) → Missing
missing_of a caller key needs = record {
  intents = map (view_of a caller.uss) (missing_from key (needs kinds.Intent));
  constraints = map (view_of a caller.uss) (missing_from key (needs kinds.Constraint));
}

-- The entities that are missing from the key of a put under an id, if this is the subscription that
-- it references.
abbrev pub missing_with : Airspace → Caller → Option Sub → ℕ → Put → Missing
missing_with a caller sub id put =
    missing_of a caller put.key (λ kind. needed_with kind a (Some caller) sub id put)

abbrev pub missing_put : Airspace → Caller → ℕ → Put → Missing
missing_put a caller id put =
    missing_with a caller (sub_under a (subscription_of put.nature)) id put

-- The entities that a call needs to know and that are missing from its key: intents and
-- constraints, each by ascending id. Without a caller nothing is listed.
abbrev pub missing_for : Airspace → Option Caller → Operation → Missing
missing_for a (Some caller) op =
    missing_of a caller (key_shown op) (λ kind. needed kind a (Some caller) op)
missing_for a None op = nothing_missing

abbrev pub is_none_of : List Reference → Bool
is_none_of [] = true
is_none_of (r ∷ rs) = false

abbrev pub is_nothing : Missing → Bool
is_nothing m = is_none_of m.intents && is_none_of m.constraints
