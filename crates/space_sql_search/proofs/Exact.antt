-- Proofs that the candidates that meet are exactly the entities and the subscriptions that meet.
use Rattle.std.proofs.Common.{◌≡◌, inl, inr, ℕ, suc, ℤ, pos, ◌≤◌, List, [], ◌∷◌, map, flat_map, filter, Bool, true, Option, refl, sym, ap, subst, ◌∙◌, arith, Ordering}
use Rattle.std.specs.Prelude.{◌≤ℤ◌, IsPermutation}
use Rattle.std.specs.Cmp.{IsTotalOrder}
use Rattle.std.specs.FinMap.{FinMap, IsAntisymmetric, entries, entries_sorted, nat_cmp-IsAntisymmetric}
use Rattle.std.specs.List.{AllByRecursion}
use Rattle.std.specs.Ordering.{nat_cmp}
use Rattle.std.proofs.lemmas.Int.{ints}
use Rattle.std.proofs.lemmas.Bool.{and_parts, or_left}
use Rattle.std.proofs.lemmas.Cmp.{nat_cmp_total, on_total}
use Rattle.sqlite_value.specs.Order.{Row, column}
use Rattle.sqlite_rules.specs.Lists.{Has}
use Rattle.sqlite_rules.proofs.ListLemmas.{all_has, any_has, has_filtered, has_kept, some_has}
use Rattle.sqlite_keyed.proofs.ListLemmas.{ascending-filter}
use Rattle.sqlite.specs.Effect.{Database}
use Rattle.grid_core.specs.Cell.{Cell, IsCell, Touch, lo_of, hi_of, parent_of}
use Rattle.grid_core.specs.Extent.{Extent, Region, any_meet, meets, region_of}
use Rattle.grid_core.specs.Laws.{IsAbove}
use Rattle.grid_core.specs.Volumes.{meets_some}
use Rattle.grid_core.proofs.IndexLaws.{found_by_index_lem}
use Rattle.grid_core.proofs.Meets.{meet_from}
use Rattle.entity_core.specs.declared.entity.Entity.{Entity}
use Rattle.entity_core.specs.declared.nature.Kind.{Kind}
use Rattle.entity_core.specs.declared.subscription.Sub.{Sub}
use Rattle.entity_core.specs.Airspace.{Airspace, Entities, EntityKey, Subscriptions, key_cmp}
use Rattle.entity_core.specs.Entity.{subscription_of}
use Rattle.entity_core.specs.IdTexts.{same_text}
use Rattle.entity_core.specs.Search.{has_kind, is_for_near, is_not, is_own_near, is_sought, meeting_in, subscribers_in, subscriptions_in}
use Rattle.entity_core.specs.Subscription.{wants}
use Rattle.entity_core.proofs.Keys.{key_exact, key_total}
use Rattle.space_rows.specs.Rows.{PlacedCell, IsCellRow, IsVolume, SpellsEntity, placed, placed_cells, all_cells}
use Rattle.space_rows.specs.Subs.{IsSubCellRow, SpellsSub}
use Rattle.space_sql_schema.specs.Spelling.{Group, IsGroup, IsSubGroup, Spells, SubGroup, cell_values, five_columns, six_columns, sub_cell_values}
use Rattle.space_sql_schema.proofs.OneAirspace.{EntryLess, entries_rise}
use Rattle.space_sql_search.specs.declared.search_ranges.SearchRanges.{SearchRanges}
use Rattle.space_sql_search.specs.declared.cell_table.CellTable.{CellTable}
use Rattle.space_sql_search.specs.declared.cell_table.CellTable.TheVariants.{OfEntities, OfSubscriptions}
use Rattle.space_sql_search.specs.declared.cell_table.RangeMatch.TheVariants.{Within, Exactly}
use Rattle.space_sql_search.specs.SearchRanges.{AsksFor, AsksForAll, HasAncestors, interval_of}
use Rattle.space_sql_search.specs.CellTable.{StoredCell, stored_columns, stored_values, tree_of}
use Rattle.space_sql_search.specs.Numbers.{IsCellIn, HasNumbers, FindsNumbers}
use Rattle.space_sql_search.specs.Candidates.{HoldsNear, HoldsNumbered, spelt_entities, spelt_subs}
use Rattle.space_sql_search.proofs.Lists.{has_map, map_has, flat_has, has_moved, zip_has, one_list}
use Rattle.space_sql_search.proofs.Found.{got_has, has_got, near_found}

above : (m n : ℕ) → m ≤ n → pos m ≤ℤ pos n
above m n h = grind (arith, ints, h)

-- ---- every item with a cell that touches a requested cell is found

-- Holds if a row of the table has this number and this cell's interval.
abbrev IsStored : CellTable → Database → ℤ → Cell → Type 0
IsStored table db num c = IsCellIn table db (record { num = num; lo = pos (lo_of c); hi = pos (hi_of c) })

module _ (table : CellTable) (db : Database) (num : ℤ) (v : Extent) (valid : AllByRecursion IsCell v.cells) (stored : (c : Cell) → Has v.cells c → IsStored table db num c) (searched : SearchRanges) (numbers : List ℤ) (finds : FindsNumbers table searched db numbers) where
  found_in_range : (c d : Cell) → Has v.cells c → Has searched.ranges.items (interval_of d) → lo_of d ≤ lo_of c → lo_of c ≤ hi_of d → Has numbers num
  found_in_range c d here asks least most =
      all_has (HasNumbers table Within db numbers) searched.ranges.items (interval_of d) finds.in_ranges asks _ (stored c here) (above (lo_of d) (lo_of c) least, above (lo_of c) (hi_of d) most)

  found_above : (c d : Cell) → Has v.cells c → HasAncestors searched.ancestors.items d → IsAbove c d → Has numbers num
  found_above c d here asks up =
      all_has (HasNumbers table Exactly db numbers) searched.ancestors.items (interval_of (parent_of d up.0)) finds.above (asks up.0 up.1 up.2) _ (stored c here) (ap pos up.3, ap pos up.4)

  found_touching : (c d : Cell) → Has v.cells c → AsksFor searched d → Touch c d → Has numbers num
  found_touching c d here asks touch =
      elim ((found_by_index_lem d c asks.is_cell (all_has IsCell v.cells c valid here)).0 touch) [
        | inl p ↦ found_in_range c d here asks.range p.0 p.1
        | inr up ↦ found_above c d here asks.ancestors up
      ]

  found_meeting : (areas : List Region) → AsksForAll searched areas → meets_some v areas ≡ true → Has numbers num
  found_meeting areas asks some =
      let area = some_has (λ (r : Region). meets (region_of v) r) areas some in
      let cell = any_has _ v.cells (meet_from (region_of v) area.0 area.2).cells in
      let other = any_has _ area.0.cells cell.2 in
      found_touching cell.0 other.0 cell.1 (all_has (AsksFor searched) area.0.cells other.0 (all_has _ areas area.0 asks area.1) other.1) other.2

-- ---- the rows of a cell

-- If rows show these columns, others show some of them.
row_shown : (table : CellTable) (columns pick : Row → Row) (rows : List Row) (values : Row) (c : StoredCell) → ((r : Row) → stored_columns table r ≡ pick (columns r)) → pick values ≡ stored_values c → Has (map columns rows) values → Has (map (stored_columns table) rows) (stored_values c)
row_shown table columns pick rows values c picks is there =
    let from = has_map columns rows values there in
    subst (Has (map (stored_columns table) rows)) (picks from.0 ∙ (ap pick (sym from.2) ∙ is)) (map_has (stored_columns table) rows from.0 from.1)

-- Every element of a list has a position.
placed_has : {X : Type 0} (n : ℕ) (xs : List X) (x : X) → Has xs x → (k : ℕ) × Has (placed n xs) (k, x)
placed_has n [] x h = absurd h
placed_has {X} n (y ∷ xs) x (inl e) = (n, inl (ap (λ (z : X). (n, z)) e))
placed_has n (y ∷ xs) x (inr h) = let r = placed_has (suc n) xs x h in (r.0, inr r.1)

cell_placed : (vs : List Extent) (v : Extent) (c : Cell) → Has vs v → Has v.cells c → (p : PlacedCell) × Has (all_cells vs) p × (p.cell ≡ c)
cell_placed vs v c there here =
    let w = placed_has 0 vs v there in
    let d = placed_has 0 v.cells c here in (
      record { volume = w.0; place = d.0; cell = c },
      flat_has placed_cells (placed 0 vs) (w.0, v) _ w.1 (map_has (λ (x : ℕ × Cell). record { volume = w.0; place = x.0; cell = x.1 }) (placed 0 v.cells) (d.0, c) d.1),
      refl,
    )

same_stored : (c d : StoredCell) → c.num ≡ d.num → c.lo ≡ d.lo → c.hi ≡ d.hi → stored_values c ≡ stored_values d
same_stored c d num lo hi = cc

-- A row of cells of a group, among those of all groups, is in the table.
cell_stored : {G C : Type 0} (table : CellTable) (columns pick : Row → Row) → ((r : Row) → stored_columns table r ≡ pick (columns r)) → (values : C → Row) (cells : G → List C) (gs : List G) (db : Database) → IsPermutation (flat_map (λ g. map values (cells g)) gs) (map columns (db.trees (tree_of table))) → (g : G) → Has gs g → (r : C) → Has (cells g) r → (c : StoredCell) → pick (values r) ≡ stored_values c → IsCellIn table db c
cell_stored table columns pick picks values cells gs db moved g there r own c is =
    let listed = flat_has (λ g. map values (cells g)) gs g (values r) there (map_has values (cells g) r own) in
    row_shown table columns pick (db.trees (tree_of table)) (values r) c picks is (has_moved _ _ (values r) moved listed)

module _ (db : Database) (a : Airspace) (s : Spells db a) (areas : List Region) (searched : SearchRanges) (asks : AsksForAll searched areas) (numbers : List ℤ) where
  -- ---- entities

  entity_found : FindsNumbers OfEntities searched db numbers → (g : Group) → Has s.groups g → any_meet g.entity.volumes areas ≡ true → Has numbers g.row.num
  entity_found finds g there some =
      let own : SpellsEntity g.row g.volumes g.cells (subscription_of g.entity.nature) g.entity = (all_has (IsGroup a.serial s.subs) s.groups g s.each there).spelt in
      let v = some_has (λ (v : Extent). meets_some v areas) g.entity.volumes some in
      let stored : (c : Cell) → Has v.0.cells c → IsStored OfEntities db g.row.num c = λ c here.
      let p = cell_placed g.entity.volumes v.0 c v.1 here in
      let r = zip_has (IsCellRow g.row.num) g.cells (all_cells g.entity.volumes) p.0 own.cells_are p.1 in
      cell_stored OfEntities six_columns (λ l. column l 0 ∷ column l 4 ∷ column l 5 ∷ []) (λ x. refl) cell_values (λ (h : Group). h.cells) s.groups db s.cells g there r.0 r.1 _
      (same_stored (record { num = r.0.entity; lo = r.0.lo; hi = r.0.hi }) (record { num = g.row.num; lo = pos (lo_of c); hi = pos (hi_of c) }) r.2.entity (r.2.lo ∙ ap (λ (x : Cell). pos (lo_of x)) p.2) (r.2.hi ∙ ap (λ (x : Cell). pos (hi_of x)) p.2)) in
      found_meeting OfEntities db g.row.num v.0 (all_has IsVolume g.entity.volumes v.0 own.kept.volumes v.1).cells stored searched numbers finds areas asks v.2

  pub near_entities : FindsNumbers OfEntities searched db numbers → (found : Entities) → HoldsNumbered (spelt_entities s) numbers found → HoldsNear (λ (e : Entity). any_meet e.volumes areas) a.entities found
  near_entities finds found held = near_found key_cmp key_total key_exact (spelt_entities s) s.kept (λ (e : Entity). any_meet e.volumes areas) numbers found (entity_found finds) held

  -- ---- subscriptions

  sub_found : FindsNumbers OfSubscriptions searched db numbers → (g : SubGroup) → Has s.subs g → meets_some g.sub.volume areas ≡ true → Has numbers g.row.num
  sub_found finds g there some =
      let own : SpellsSub g.row g.cells g.sub = (all_has (IsSubGroup a.serial) s.subs g s.each_sub there).spelt in
      let stored : (c : Cell) → Has g.sub.volume.cells c → IsStored OfSubscriptions db g.row.num c = λ c here.
      let p = placed_has 0 g.sub.volume.cells c here in
      let r = zip_has (IsSubCellRow g.row.num) g.cells (placed 0 g.sub.volume.cells) (p.0, c) own.cells_are p.1 in
      cell_stored OfSubscriptions five_columns (λ l. column l 0 ∷ column l 3 ∷ column l 4 ∷ []) (λ x. refl) sub_cell_values (λ (h : SubGroup). h.cells) s.subs db s.sub_cells g there r.0 r.1 _
      (same_stored (record { num = r.0.subscription; lo = r.0.lo; hi = r.0.hi }) (record { num = g.row.num; lo = pos (lo_of c); hi = pos (hi_of c) }) r.2.subscription r.2.lo r.2.hi) in
      found_meeting OfSubscriptions db g.row.num g.sub.volume own.kept.volume.cells stored searched numbers finds areas asks some

  pub near_subs : FindsNumbers OfSubscriptions searched db numbers → (found : Subscriptions) → HoldsNumbered (spelt_subs s) numbers found → HoldsNear (λ (s : Sub). meets_some s.volume areas) a.subscriptions found
  near_subs finds found held = near_found nat_cmp nat_cmp_total nat_cmp-IsAntisymmetric (spelt_subs s) s.subs_kept (λ (s : Sub). meets_some s.volume areas) numbers found (sub_found finds) held

-- ---- a part that has every element that passes a test

module _ {K X : Type 0} (R : K → K → Ordering) (total : IsTotalOrder R) (exact : IsAntisymmetric R) where
  pub one_filtered : (test : K × X → Bool) (part all : FinMap R X) → (is_near : X → Bool) → HoldsNear is_near all part → ((k : K) (x : X) → test (k, x) ≡ true → is_near x ≡ true) → filter test (entries part) ≡ filter test (entries all)
  one_filtered test part all is_near held only =
      one_list (λ (p q : K × X). R p.0 q.0) (on_total (λ (p : K × X). p.0) total) (filter test (entries part)) (filter test (entries all))
      (ascending-filter (EntryLess R) test (entries part) (entries_rise R (entries part) (entries_sorted part)))
      (ascending-filter (EntryLess R) test (entries all) (entries_rise R (entries all) (entries_sorted all)))
      (λ p h.
      let t = has_filtered test (entries part) p h in
      has_kept test (entries all) p (got_has R total exact all p.0 p.1 (held.part p.0 p.1 (has_got R total exact part p.0 p.1 t.0))) t.1)
      (λ p h.
      let t = has_filtered test (entries all) p h in
      has_kept test (entries part) p (got_has R total exact part p.0 p.1 (held.whole p.0 p.1 (has_got R total exact all p.0 p.1 t.0) (only p.0 p.1 t.1))) t.1)

-- ---- the search within it

pub one_meeting : (kind : Kind) (areas : List Region) (except : Option ℕ) (part all : Entities) → HoldsNear (λ (e : Entity). any_meet e.volumes areas) all part → meeting_in part kind areas except ≡ meeting_in all kind areas except
unfolding meeting_in
one_meeting kind areas except part all near =
    ap (map (λ (e : EntityKey × Entity). e.1)) (one_filtered key_cmp key_total key_exact (is_sought kind areas except) part all _ near
    (λ k e t. (and_parts (is_not except k) _ (and_parts (has_kind kind k) _ t).1).1))

pub one_own : (uss : List ℕ) (area : Region) (part all : Subscriptions) → HoldsNear (λ (s : Sub). meets_some s.volume (area ∷ [])) all part → subscriptions_in part uss area ≡ subscriptions_in all uss area
unfolding subscriptions_in
one_own uss area part all near =
    ap (map (λ (s : ℕ × Sub). s.1)) (one_filtered nat_cmp nat_cmp_total nat_cmp-IsAntisymmetric (is_own_near uss area) part all _ near
    (λ id s t. or_left (meets (region_of s.volume) area) _ (and_parts (same_text s.manager uss) _ t).1))

pub one_wanting : (kind : Kind) (areas : List Region) (part all : Subscriptions) → HoldsNear (λ (s : Sub). meets_some s.volume areas) all part → subscribers_in part kind areas ≡ subscribers_in all kind areas
unfolding subscribers_in
one_wanting kind areas part all near =
    ap (map (λ (s : ℕ × Sub). s.1)) (one_filtered nat_cmp nat_cmp_total nat_cmp-IsAntisymmetric (is_for_near kind areas) part all _ near
    (λ id s t. (and_parts (wants s.interest kind) _ t).1))
