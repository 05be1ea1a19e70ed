-- The order of all items of the airspace.
use Rattle.std.specs.Prelude.{ℕ, ◌&&◌, ◌||◌, nat_eq, nat_lt, Bool, true, List, Option, Some, None, filter}
use Rattle.entity_core.specs.Entity.{kind_of}
use Rattle.entity_core.specs.declared.entity.Entity.{Entity}
use Rattle.entity_core.specs.declared.nature.Kind.{Kind}
use Rattle.entity_core.specs.declared.nature.Kind.TheVariants as kinds
use Rattle.entity_core.specs.declared.subscription.Sub.{Sub}
use Rattle.admin_airspace.specs.declared.key.Cursor.{Cursor}
use Rattle.admin_airspace.specs.declared.key.ItemKind.{ItemKind}
use Rattle.admin_airspace.specs.declared.key.ItemKind.TheVariants as sorts

-- The intents come first, then the constraints, then the subscriptions.
abbrev pub sort_index : ItemKind → ℕ
sort_index sorts.Intent = 0
sort_index sorts.Constraint = 1
sort_index sorts.Subscription = 2

abbrev pub sort_of : Kind → ItemKind
sort_of kinds.Intent = sorts.Intent
sort_of kinds.Constraint = sorts.Constraint

abbrev pub key_of_entity : Entity → Cursor
key_of_entity e = record { sort = sort_of (kind_of e.nature); number = e.id }

abbrev pub key_of_sub : Sub → Cursor
key_of_sub s = record { sort = sorts.Subscription; number = s.id }

-- True if a cursor comes after another. Items of a kind are in ascending order of their numbers.
abbrev pub comes_after : Cursor → Cursor → Bool
comes_after k other =
    nat_lt (sort_index other.sort) (sort_index k.sort)
    || (nat_eq (sort_index k.sort) (sort_index other.sort) && nat_lt other.number k.number)

-- True if a cursor comes after the given one, if any.
abbrev pub is_past : Option Cursor → Cursor → Bool
is_past None k = true
is_past (Some after) k = comes_after k after

-- The entities after a cursor, in their order.
abbrev pub entities_past : Option Cursor → List Entity → List Entity
entities_past after es = filter (λ e. is_past after (key_of_entity e)) es

-- The subscriptions after a cursor, in their order.
abbrev pub subs_past : Option Cursor → List Sub → List Sub
subs_past after ss = filter (λ s. is_past after (key_of_sub s)) ss
