-- The own fence among the changes that a watch gave, and the deletion of its key behind it.
use Rattle.std.specs.Prelude.{◌≡◌, List, ◌∷◌, ◌++◌, Bool, true, false, ◌||◌, ◌&&◌}
use Rattle.std.specs.List.{list_any}
use Rattle.std.specs.Str.{bytes_eq}
use Rattle.pool_etcd.specs.declared.own_fence.OwnFence.{OwnFence}
use Rattle.pool_etcd.specs.declared.watch_line.Change.{Change}
use Rattle.pool_etcd.specs.declared.watch_line.Change.TheVariants.{Put, Deleted}

-- True if the change puts the own fence under the own key.
abbrev pub is_fence : OwnFence → Change → Bool
is_fence own (Put put) = bytes_eq put.key own.key && bytes_eq put.stored.value own.value
is_fence own (Deleted deletion) = false

-- True if the change deletes the own key.
abbrev pub is_deletion : OwnFence → Change → Bool
is_deletion own (Put put) = false
is_deletion own (Deleted deletion) = bytes_eq deletion.key own.key

-- True if the own fence was given before the changes, or is among them.
abbrev pub is_given_by : OwnFence → List Change → Bool
is_given_by own changes = own.is_given || list_any (is_fence own) changes

-- Holds if one of the changes deletes the own key, and the own fence was given before it.
pub record DeletesOwn (own : OwnFence) (changes : List Change) : Type 0 where
  pub before : List Change
  pub deletion : Change
  pub after : List Change
  pub split : changes ≡ before ++ deletion ∷ after
  pub deletes : is_deletion own deletion ≡ true
  pub given : is_given_by own before ≡ true
