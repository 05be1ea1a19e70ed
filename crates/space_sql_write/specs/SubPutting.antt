-- Definitions of how the rows of a subscription are stored.
use Rattle.std.specs.Prelude.{◌≡◌, ◌⊎◌, ℕ, ◌<◌, ℤ, pos, List, [], ◌∷◌, Some}
use Rattle.std.specs.List.{All}
use Rattle.std.specs.List.Sorted.{IsStrictlySortedBy}
use Rattle.std.specs.Ordering.{nat_cmp}
use Rattle.std.specs.FinMap.{get}
use Rattle.sqlite.specs.Effect.{Database, IsDatabase}
use Rattle.entity_core.specs.declared.subscription.Sub.{Sub}
use Rattle.entity_core.specs.Airspace.{Airspace, is_one_of, with_notified_subs}
use Rattle.space_rows.specs.declared.rows.SubRow.{SubRow}
use Rattle.space_rows.specs.declared.rows.SubCellRow.{SubCellRow}
use Rattle.space_rows.specs.Subs.{SpellsSub}
use Rattle.space_sql_schema.specs.Spelling.{Spells, IsSubNumber}
use Rattle.space_sql_write.specs.Numbering.{Makes}
use Rattle.space_sql_write.specs.Layout.{Always, HasSub, Layout, Relays, with_sub_rows, without_sub_rows}

-- Holds if rows that represent the subscription under the number are added, and the other rows are
-- changed.
pub record PutsSub (s : Sub) (num : ℤ) (P : Layout → Type 0) (change : Layout → Layout)
    (old new : Database) : Type 0 where
  pub row : SubRow
  pub cells : List SubCellRow
  pub number : row.num ≡ num
  pub spelt : SpellsSub row cells s
  pub relays : Relays P (λ l. with_sub_rows row cells (change l)) old new

-- Holds if the rows replace those with the number.
abbrev pub ReplacesSub : Sub → ℤ → Database → Database → Type 0
ReplacesSub s num old new = PutsSub s num (HasSub num) (without_sub_rows num) old new

-- Holds if the rows are added to the existing ones.
abbrev pub InsertsSub : Sub → ℤ → Database → Database → Type 0
InsertsSub s num old new = PutsSub s num Always (λ l. l) old new

-- Holds if a subscription is stored. Its rows replace those with its id. If there are none, they
-- are added under its serial.
abbrev pub StoresSub : Sub → Database → Database → Type 0
StoresSub s old new =
    (a : Airspace) (p : Spells old a)
    → ((num : ℤ) × IsSubNumber p.subs num s.id × ReplacesSub s num old new)
    ⊎ (((n : ℤ) → ¬ IsSubNumber p.subs n s.id) × InsertsSub s (pos s.serial) old new)

-- ---- notifying

-- Holds if a subscription has the id, and its index is less than the serial.
abbrev pub CanRise : Airspace → ℕ → Type 0
CanRise a id = (s : Sub) × (get a.subscriptions id ≡ Some s) × (s.index < a.serial)

-- Holds if the ids are ascending, and each of their subscriptions can be notified.
pub record CanNotify (a : Airspace) (ids : List ℕ) : Type 0 where
  pub rising : IsStrictlySortedBy nat_cmp ids
  pub there : All (CanRise a) ids

-- Holds if these subscriptions are notified once more in any airspace that the tables represented.
-- They must be notifiable there, and the rows must have obeyed the schema.
abbrev pub NotifiesRows : List ℕ → Database → Database → Type 0
NotifiesRows ids old new =
    (a : Airspace) → Spells old a → CanNotify a ids → IsDatabase old
    → Makes a (with_notified_subs a (is_one_of ids)) old new

-- The same for one subscription, even if the rows did not obey the schema.
abbrev pub NotifiesRow : ℕ → Database → Database → Type 0
NotifiesRow id old new =
    (a : Airspace) → Spells old a → CanRise a id
    → Makes a (with_notified_subs a (is_one_of (id ∷ []))) old new
