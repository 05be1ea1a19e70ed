-- The entities and subscriptions of a page.
use Rattle.std.specs.Prelude.{◌≡◌, ℕ, Bool, true, false, List, [], ◌∷◌, ◌++◌, Option, Some, None, codes, fold, unwrap_or}
use Rattle.std.specs.FinMap.{get}
use Rattle.entity_core.specs.EntityId.{printed}
use Rattle.entity_core.specs.Subscription.{wants}
use Rattle.entity_core.specs.declared.availability.Availability.{Availability}
use Rattle.entity_core.specs.declared.availability.Availability.TheVariants.{Unknown}
use Rattle.entity_core.specs.declared.entity.Entity.{Entity}
use Rattle.entity_core.specs.declared.nature.Kind.TheVariants.{Constraint, Intent}
use Rattle.entity_core.specs.declared.subscription.Sub.{Sub}
use Rattle.entity_maps.specs.Availabilities.{availability_map}
use Rattle.entity_maps.specs.declared.availabilities.AvailabilityEntry.{AvailabilityEntry}
use Rattle.serde_json.specs.Data.{Data, Members, array, boolean, no_members, number, object, put, string, unsigned}
use Rattle.serde_json.specs.View.{items_of}
use Rattle.wire_body.specs.Availability.{name_of}
use Rattle.admin_airspace.specs.Cursor.{entities_past, subs_past}
use Rattle.admin_airspace.specs.declared.key.Cursor.{Cursor}
use Rattle.admin_airspace.specs.Reference.{IsShownAs}

-- States that these are the first of a list, and whether they are all of it.
pub record AreFirst {X : Type 0} (all found : List X) (are_all : Bool) : Type 0 where
  pub rest : List X
  pub first : all ≡ found ++ rest
  pub no_rest : are_all ≡ true → rest ≡ []
  pub some_rest : are_all ≡ false → ¬ (rest ≡ [])

-- Holds if each item is represented by the value at its index, and there is no other value.
abbrev pub AreShown : {X : Type 0} → (X → Data → Type 0) → List X → List Data → Type 0
AreShown Shows [] [] = Unit {0}
AreShown Shows [] (d ∷ ds) = ⊥
AreShown Shows (x ∷ xs) [] = ⊥
AreShown Shows (x ∷ xs) (d ∷ ds) = Shows x d × AreShown Shows xs ds

-- The availability that a USS has set, or `Unknown`.
abbrev pub present_of : List AvailabilityEntry → List ℕ → Availability
present_of settings uss = (unwrap_or (get (availability_map settings) uss) (Unknown, [])).0

-- Holds if the value represents an entity, with the availability of its manager.
abbrev pub IsEntityShown : List AvailabilityEntry → Entity → Data → Type 0
IsEntityShown settings e d = IsShownAs e (present_of settings e.manager) d

-- The members that represent a subscription, by name.
abbrev pub sub_members : Sub → Availability → Data → Members
sub_members s availability extents =
    let who = put (codes "manager") (string s.manager)
    (put (codes "id") (string (printed s.id)) (put (codes "extents") extents no_members)) in
    let told = put (codes "notification_index") (number (unsigned s.index)) who in
    let wanted = put (codes "notify_for_operational_intents") (boolean (wants s.interest Intent))
    (put (codes "notify_for_constraints") (boolean (wants s.interest Constraint)) told) in
    let times = put (codes "time_start") (number (unsigned s.volume.time.0))
    (put (codes "time_end") (number (unsigned s.volume.time.1)) wanted) in
    put (codes "uss_base_url") (string s.url)
    (put (codes "uss_availability") (string (name_of availability)) times)

-- Holds if the value represents a subscription: its extent, its manager, and what its manager sees
-- of it, except its version and the intents that reference it.
abbrev pub IsSubShown : List AvailabilityEntry → Sub → Data → Type 0
IsSubShown settings s d = (extents : Data) × (d ≡ object (sub_members s (present_of settings s.manager) extents))

abbrev pub with_next : Option (List ℕ) → Members → Members
with_next None ms = ms
with_next (Some next) ms = put (codes "next") (string next) ms

abbrev pub settings_members : List AvailabilityEntry → Members
settings_members settings =
    fold (λ ms s. put s.uss (string (name_of s.availability)) ms) no_members settings

-- The availability of each USS that has set one, by its id.
abbrev pub suppliers_data : List AvailabilityEntry → Data
suppliers_data settings = object (settings_members settings)

-- The availabilities, which only the first page has.
abbrev pub suppliers_of : Option Cursor → List AvailabilityEntry → Option Data
suppliers_of None settings = Some (suppliers_data settings)
suppliers_of (Some after) settings = None

abbrev pub with_suppliers : Option Data → Members → Members
with_suppliers None ms = ms
with_suppliers (Some suppliers) ms = put (codes "suppliers") suppliers ms

-- The members of a page.
abbrev pub page_members : Option (List ℕ) → Data → ℕ → Data → Option Data → Members
page_members next entities serial subs suppliers = with_suppliers suppliers
    (put (codes "subscriptions") subs (put (codes "serial") (number (unsigned serial))
    (with_next next (put (codes "entities") entities no_members))))

-- States that the value is a page: the first entities and subscriptions after a cursor, in order,
-- and the serial. It has no cursor for a next page if these are all. The first page has the
-- availabilities of the USSs.
pub record IsPage (entities : List Entity) (subs : List Sub) (settings : List AvailabilityEntry) (serial : ℕ)
    (after : Option Cursor) (d : Data) : Type 0 where
  pub found : List Entity
  pub are_all : Bool
  pub first : AreFirst (entities_past after entities) found are_all
  pub found_subs : List Sub
  pub are_all_subs : Bool
  pub first_subs : AreFirst (subs_past after subs) found_subs are_all_subs
  pub values : List Data
  pub shown : AreShown (IsEntityShown settings) found values
  pub sub_values : List Data
  pub shown_subs : AreShown (IsSubShown settings) found_subs sub_values
  pub next : Option (List ℕ)
  pub last : are_all ≡ true → are_all_subs ≡ true → next ≡ None
  pub members : d ≡ object (page_members next (array (items_of values)) serial
      (array (items_of sub_values)) (suppliers_of after settings))
