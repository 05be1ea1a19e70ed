-- Proofs about the pieces that are checked one after the other.
use Rattle.std.proofs.Common.{◌≡◌, ◌≤ℤ◌, ℕ, ℤ, List, [], ◌∷◌, ◌++◌, map, Bool, true, false, IsTrue, ◌↔◌, ◌&&◌, refl, sym, ap₂, subst, ◌∙◌, Ordering, Less, int_cmp, is_lt}
use Rattle.std.specs.Prelude.{IsPermutation, T}
use Rattle.std.specs.FinMap.Entries.{below_all}
use Rattle.std.specs.List.{AllByRecursion}
use Rattle.sqlite_keyed.proofs.ListLemmas.{IsPermutation-same, filter_none, all_of}
use Rattle.sqlite_trees.specs.Tree.{IsAscending}
use Rattle.sqlite_value.specs.Order.{Row, column}
use Rattle.sqlite.specs.Effect.{Database}
use Rattle.space_sql_schema.specs.Spelling.{SubGroup}
use Rattle.space_sql_load.specs.declared.naming.Numbered.{Numbered}
use Rattle.entity_maps.specs.Sorted.{Rise}
use Rattle.space_sql_load.specs.Gathering.{AreRising, number_pair, numbered}
use Rattle.space_sql_check.specs.declared.source.Source.{Source}
use Rattle.space_sql_check.specs.declared.source.Source.TheVariants.{Entities, Volumes, Cells, Namings, Subscriptions, SubCells}
use Rattle.space_sql_check.specs.Source.{tree_of, columns_of}
use Rattle.space_sql_check.specs.Parts.{AreIdsApart, HasSubs, HasEntities, HasNoneOutside, HasNoOtherEntities, HasNoOtherSubs, IsOfIds, ShowsWithin, any_value, is_within, least, greatest, nums_of, rows_where}
use Rattle.space_sql_check.proofs.Numbers.{within_none}
use Rattle.space_sql_check.proofs.Filters.{map_joined}
use Rattle.space_sql_check.proofs.Parting.{subs_join, subs_whole, entities_join, entities_part, entities_whole}
use Rattle.space_sql_check.proofs.Rowids.{AreIdsIn, apart_is, ids_join, ids_part, ids_whole, rising_is}

none_yet : (n : ℤ) (s : Source) (db : Database) → IsPermutation [] (rows_where (is_within n n) s db)
none_yet n s db = IsPermutation-same [] _ (sym (filter_none (λ c. is_within n n (column c 0)) (map (columns_of s) (db.trees (tree_of s))) (all_of (λ c. is_within n n (column c 0) ≡ false) (λ c. within_none n (column c 0)) (map (columns_of s) (db.trees (tree_of s))))))

-- ---- subscriptions

module _ (serial : ℕ) (db : Database) where
  pub subs_begun : (n : ℤ) (numbers : List Numbered) → numbers ≡ [] → HasSubs serial (is_within n n) db numbers
  subs_begun n numbers e = record { subs = []; are = record { rising = tt; each = tt; rows = none_yet n Subscriptions db; cells = none_yet n SubCells db }; numbers_are = e }

  pub subs_more : (over mid end : ℤ) (xs ys zs : List Numbered) → over ≤ℤ mid → mid ≤ℤ end → zs ≡ xs ++ ys → HasSubs serial (is_within over mid) db xs → HasSubs serial (is_within mid end) db ys → HasSubs serial (is_within over end) db zs
  subs_more over mid end xs ys zs low high e p q = record {
    subs = p.subs ++ q.subs;
    are = subs_join serial db over mid end p.subs q.subs low high p.are q.are;
    numbers_are = e ∙ (ap₂ ◌++◌ p.numbers_are q.numbers_are ∙ sym (map_joined (λ (g : SubGroup). numbered g.row g.sub) p.subs q.subs));
  }

  pub subs_all : (numbers : List Numbered) → HasNoOtherSubs db → HasSubs serial (is_within least greatest) db numbers → HasSubs serial any_value db numbers
  subs_all numbers none p = record { subs = p.subs; are = subs_whole serial db p.subs none.subscriptions none.cells p.are; numbers_are = p.numbers_are }

-- ---- entities and rowids

pub entities_begun : (serial : ℕ) (subs : List SubGroup) (db : Database) (n : ℤ) → HasEntities serial subs (is_within n n) db
entities_begun serial subs db n = ([], record { rising = tt; each = tt; rows = none_yet n Entities db; volumes = none_yet n Volumes db; cells = none_yet n Cells db; namings = none_yet n Namings db })

pub ids_begun : (s : Source) (db : Database) (n : ℤ) → AreIdsIn (is_within n n) s db
ids_begun s db n = ([], tt, none_yet n s db)

-- ---- the end

not_rising : (b : Bool) → b ≡ false → IsTrue b → ⊥
not_rising b e h = let bad = sym e ∙ h in cc

-- If the rowids of a range do not rise, those of the table are not apart.
pub ids_fail : (s : Source) → IsOfIds s → (db : Database) (over end : ℤ) (rows sliced : List Row) (b : Bool) → b ≡ false → (AreRising sliced → IsTrue b) → sliced ≡ rows → ShowsWithin over end s db rows → IsTrue false ↔ AreIdsApart s db
ids_fail s of db over end rows sliced b e told is shows = (
  (λ no. absurd (let bad = no in cc)),
  (λ apart. absurd (not_rising b e (told (subst AreRising (sym is) ((rising_is s of over end db rows shows).1 (ids_part s db (is_within over end) ((apart_is s of db).1 apart))))))),
)

pub ids_more : (s : Source) → IsOfIds s → (db : Database) (over mid end : ℤ) (rows sliced : List Row) (b : Bool) → over ≤ℤ mid → mid ≤ℤ end → b ≡ true → (IsTrue b → AreRising sliced) → sliced ≡ rows → ShowsWithin mid end s db rows
    → AreIdsIn (is_within over mid) s db → AreIdsIn (is_within over end) s db
ids_more s of db over mid end rows sliced b low high e told is shows before =
    ids_join s db over mid end low high before ((rising_is s of mid end db rows shows).0 (subst AreRising is (told e)))

pub ids_all : (s : Source) → IsOfIds s → (db : Database) → HasNoneOutside s db → AreIdsIn (is_within least greatest) s db → IsTrue true ↔ AreIdsApart s db
ids_all s of db none ids = ((λ _. (apart_is s of db).0 (ids_whole s db none ids)), (λ _. refl))

pub entities_fail : (serial : ℕ) (subs : List SubGroup) (db : Database) (over end : ℤ) (b : Bool) → b ≡ false → IsTrue b ↔ HasEntities serial subs (is_within over end) db → IsTrue false ↔ HasEntities serial subs any_value db
entities_fail serial subs db over end b e told = ((λ no. absurd (let bad = no in cc)), (λ all. absurd (not_rising b e (told.1 (entities_part serial subs db (is_within over end) all)))))

pub entities_more : (serial : ℕ) (subs : List SubGroup) (db : Database) (over mid end : ℤ) (b : Bool) → over ≤ℤ mid → mid ≤ℤ end → b ≡ true → IsTrue b ↔ HasEntities serial subs (is_within mid end) db
    → HasEntities serial subs (is_within over mid) db → HasEntities serial subs (is_within over end) db
entities_more serial subs db over mid end b low high e told before = entities_join serial subs db over mid end low high before (told.0 e)

pub entities_all : (serial : ℕ) (subs : List SubGroup) (db : Database) → HasNoOtherEntities db → HasEntities serial subs (is_within least greatest) db → IsTrue true ↔ HasEntities serial subs any_value db
entities_all serial subs db none all = ((λ _. entities_whole serial subs db none all), (λ _. refl))

-- ---- ascending numbers

both : (a b : Bool) → T a → T b → T (a && b)
both true b p q = q
both false b p q = p

below : (num : ℤ) (ns : List Numbered) → AllByRecursion (λ n. int_cmp num n ≡ Less) (nums_of ns) → T (below_all int_cmp num (map number_pair ns))
below num [] all = tt
below num (n ∷ ns) all = both (is_lt (int_cmp num n.num)) _ (subst (λ (c : Ordering). T (is_lt c)) (sym all.0) tt) (below num ns all.1)

pub numbers_rise : (ns : List Numbered) → IsAscending (λ m n. int_cmp m n ≡ Less) (nums_of ns) → Rise int_cmp number_pair ns
numbers_rise [] up = tt
numbers_rise (n ∷ ns) up = both (below_all int_cmp n.num (map number_pair ns)) _ (below n.num ns up.0) (numbers_rise ns up.1)
