-- Definitions of finding entities and subscriptions by their numbers.
use Rattle.std.specs.Prelude.{◌≡◌, ℕ, ℤ, true, Bool, List, [], ◌∷◌, ◌++◌, Some}
use Rattle.std.specs.FinMap.{FinMap, get}
use Rattle.std.specs.Ordering.{nat_cmp}
use Rattle.std.specs.declared.cmp.Ordering.{Ordering}
use Rattle.sqlite_rules.specs.Lists.{Has}
use Rattle.sqlite.specs.Effect.{Database}
use Rattle.grid_core.specs.Extent.{Region}
use Rattle.grid_core.specs.Volumes.{meets_some}
use Rattle.entity_core.specs.declared.entity.Entity.{Entity}
use Rattle.entity_core.specs.declared.subscription.Sub.{Sub}
use Rattle.entity_core.specs.Airspace.{Airspace, EntityKey, Subscriptions, key_cmp}
use Rattle.entity_maps.specs.Entities.{entity_map}
use Rattle.entity_maps.specs.Subscriptions.{subscription_map}
use Rattle.space_sql_schema.specs.Spelling.{Group, Spells, SubGroup, pair_of, sub_pair_of}
use Rattle.space_sql_search.specs.declared.search_ranges.SearchRanges.{SearchRanges}
use Rattle.space_sql_search.specs.declared.cell_table.CellTable.{CellTable}
use Rattle.space_sql_search.specs.Numbers.{FindsNumbers}

-- Holds if every entry of the first map is in the second.
abbrev pub IsPart : {K X : Type 0} {R : K → K → Ordering} → FinMap R X → FinMap R X → Type 0
IsPart {K} {X} part all = (k : K) (x : X) → get part k ≡ Some x → get all k ≡ Some x

-- Items with rows and cells. Each group of rows has a number, and represents one item under its
-- key.
pub record Spelt (G K X : Type 0) (R : K → K → Ordering) : Type 0 where
  pub groups : List G
  pub number : G → ℤ
  pub pair : G → K × X
  pub all : FinMap R X

abbrev pub spelt_entities : {db : Database} {a : Airspace} → Spells db a
    → Spelt Group EntityKey Entity key_cmp
spelt_entities {db} {a} s = record {
  groups = s.groups;
  number = λ g. g.row.num;
  pair = pair_of;
  all = a.entities;
}

abbrev pub spelt_subs : {db : Database} {a : Airspace} → Spells db a
    → Spelt SubGroup ℕ Sub nat_cmp
spelt_subs {db} {a} s = record {
  groups = s.subs;
  number = λ g. g.row.num;
  pair = sub_pair_of;
  all = a.subscriptions;
}

-- Holds if `found` has some of the items, and all whose rows have one of the numbers.
pub record HoldsNumbered {G K X : Type 0} {R : K → K → Ordering} (of : Spelt G K X R)
    (numbers : List ℤ) (found : FinMap R X) : Type 0 where
  pub part : IsPart found of.all
  pub whole : (g : G) → Has of.groups g → Has numbers (of.number g)
      → get found (of.pair g).0 ≡ Some (of.pair g).1

-- The same for the entities that the tables represent.
abbrev pub HoldsEntities : List ℤ → Database → List Entity → Type 0
HoldsEntities numbers db found =
    (a : Airspace) (s : Spells db a) → HoldsNumbered (spelt_entities s) numbers (entity_map found)

-- The same for the subscriptions that the tables represent.
abbrev pub HoldsSubs : List ℤ → Database → List Sub → Type 0
HoldsSubs numbers db found =
    (a : Airspace) (s : Spells db a) → HoldsNumbered (spelt_subs s) numbers (subscription_map found)

-- Holds if the items with one more number are added.
abbrev pub AddsNumbered : {X : Type 0} → (List ℤ → Database → X → Type 0) → ℤ → Database → X → X
    → Type 0
AddsNumbered Holds num db before after =
    (numbers : List ℤ) → Holds numbers db before → Holds (numbers ++ num ∷ []) db after

-- Holds if `found` has all items with the numbers that the index of a table finds.
pub record HoldsFound {X : Type 0} (table : CellTable) (searched : SearchRanges)
    (Holds : List ℤ → Database → X → Type 0) (db : Database) (found : X) : Type 0 where
  pub numbers : List ℤ
  pub finds : FindsNumbers table searched db numbers
  pub holds : Holds numbers db found

-- Holds if `found` has some of the items, and all that pass a test.
pub record HoldsNear {K X : Type 0} {R : K → K → Ordering} (is_near : X → Bool)
    (all found : FinMap R X) : Type 0 where
  pub part : IsPart found all
  pub whole : (k : K) (x : X) → get all k ≡ Some x → is_near x ≡ true → get found k ≡ Some x

-- Holds if `found` has some of the subscriptions, and all whose volume meets an area.
abbrev pub HoldsNearSubs : List Region → Subscriptions → List Sub → Type 0
HoldsNearSubs areas all found =
    HoldsNear (λ (s : Sub). meets_some s.volume areas) all (subscription_map found)
