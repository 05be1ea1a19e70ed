-- The facts that are looked up for an operation.
use Rattle.std.specs.Prelude.{◌≡◌, ℕ, Bool, true, false, List, [], ◌∷◌, Option, Some, None, option_map}
use Rattle.std.specs.Borrow.{Bor}
use Rattle.std.specs.FinMap.{get}
use Rattle.entity_core.specs.declared.availability.Availability.{Availability}
use Rattle.entity_core.specs.declared.entity.Entity.{Entity}
use Rattle.entity_core.specs.declared.subscription.Sub.{Sub}
use Rattle.entity_core.specs.Entity.{kind_of}
use Rattle.entity_core.specs.Airspace.{Airspace, VersionedAvailability}
use Rattle.entity_core.specs.Search.{dependents_in}
use Rattle.policy_core.specs.declared.call.Operation.{Operation}
use Rattle.policy_core.specs.declared.call.Operation.TheVariants.{Read, Create, Update, Delete, ReadAvail, SetAvail, DeleteSub}
use Rattle.policy_core.specs.declared.standing.FactsRef.{FactsRef}
use Rattle.policy_core.specs.Call.{subject_of}

-- The stored entity with the kind and id that the operation names, if any.
abbrev pub found_of : Airspace → Operation → Option Entity
found_of a (Read kind id) = get a.entities (kind, id)
found_of a (Create id put) = get a.entities (kind_of put.nature, id)
found_of a (Update id ovn put) = get a.entities (kind_of put.nature, id)
found_of a (Delete kind id ovn) = get a.entities (kind, id)
found_of a op = None

-- The stored availability of the USS whose availability is read or set, if any.
abbrev pub stated_of : Airspace → Operation → Option VersionedAvailability
stated_of a (ReadAvail uss) = get a.availabilities uss
stated_of a (SetAvail uss old availability) = get a.availabilities uss
stated_of a op = None

-- The subscription with this id, if any.
abbrev pub sub_under : Airspace → Option ℕ → Option Sub
sub_under a None = None
sub_under a (Some id) = get a.subscriptions id

-- The subscription that the operation is about or that its put references, if any.
abbrev pub sub_of : Airspace → Operation → Option Sub
sub_of a op = sub_under a (subject_of op)

abbrev pub is_some_of : List ℕ → Bool
is_some_of [] = false
is_some_of (id ∷ ids) = true

-- True if some intent references the subscription that is to be deleted.
abbrev pub depended_of : Airspace → Operation → Bool
depended_of a (DeleteSub id version) = is_some_of (dependents_in a.entities id)
depended_of a op = false

-- All facts that are looked up.
pub record Facts : Type 0 where
  pub found : Option Entity
  pub stated : Option VersionedAvailability
  pub serial : ℕ
  pub sub : Option Sub
  pub depended : Bool

abbrev pub facts_of : Airspace → Operation → Facts
facts_of a op = record {
  found = found_of a op;
  stated = stated_of a op;
  serial = a.serial;
  sub = sub_of a op;
  depended = depended_of a op;
}

-- Holds if the facts are those of the airspace for the operation.
abbrev pub Regards : Airspace → Operation → Facts → Type 0
Regards a op facts = facts ≡ facts_of a op

-- ---- borrowed facts

abbrev pub lent_entity : Option (Bor Entity) → Option Entity
lent_entity found = option_map (λ e. e.now) found

abbrev pub lent_stated : Option (Availability × Bor (List ℕ)) → Option VersionedAvailability
lent_stated stated = option_map (λ x. (x.0, x.1.now)) stated

abbrev pub lent_sub : Option (Bor Sub) → Option Sub
lent_sub sub = option_map (λ s. s.now) sub

abbrev pub lent_facts : FactsRef → Facts
lent_facts f = record {
  found = lent_entity f.found;
  stated = lent_stated f.stated;
  serial = f.serial;
  sub = lent_sub f.sub;
  depended = f.depended;
}
