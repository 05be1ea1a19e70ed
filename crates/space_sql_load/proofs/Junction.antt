-- A proof that an airspace is listed by the rows exactly if the tables represent it.
use Rattle.std.proofs.Common.{◌≡◌, ℕ, ℤ, pos, List, [], ◌∷◌, ◌++◌, map, flat_map, refl, sym, ap, ap₂, subst, subst₂, ◌∙◌, arith, Less, append-nil}
use Rattle.std.specs.Prelude.{IsPermutation}
use Rattle.std.specs.List.{AllByRecursion}
use Rattle.std.specs.Ordering.{int_cmp, nat_cmp}
use Rattle.std.specs.FinMap.{empty, entries, insert}
use Rattle.std.proofs.lemmas.Int.{ints}
use Rattle.std.proofs.lemmas.Cmp.{nat_list_cmp_total}
use Rattle.std.proofs.lemmas.List.Sorted.{IsPermutation-map, IsPermutation-trans, IsPermutation-sym, All-permutation}
use Rattle.std.proofs.lemmas.List.Elements.{All-from_recursion, recursion_from_All}
use Rattle.sqlite_keyed.proofs.ListLemmas.{map-map, map_back, map-flat_map, IsPermutation-same, ascending-map}
use Rattle.sqlite_keyed.proofs.KeyedLemmas.{Less-from_lt}
use Rattle.sqlite_trees.specs.Tree.{rowid}
use Rattle.sqlite_value.specs.declared.value.Value.TheVariants.{Int}
use Rattle.sqlite.specs.Order.{Row, column}
use Rattle.sqlite.specs.Effect.{Database}
use Rattle.sqlite.proofs.Callers.{one_permutation}
use Rattle.entity_core.specs.Airspace.{Airspace, Availabilities, VersionedAvailability, key_cmp, text_cmp}
use Rattle.space_rows.proofs.Chunks.{all_turned}
use Rattle.space_sql_schema.specs.Tables.{dss_schema}
use Rattle.space_sql_schema.specs.Spelling.{Spells, SubGroup, IsSubGroup, Group, IsGroup, IsStated, AreApart, sub_pair_of, pair_of, availability_values, meta_values, entity_values, volume_values, cell_values, sub_values, sub_cell_values, meta_columns, entity_columns, six_columns, three_columns, sub_columns, five_columns, two_columns}
use Rattle.space_sql_schema.proofs.Rising.{all_volumes_rise, all_cells_rise, all_sub_cells_rise}
use Rattle.space_sql_schema.proofs.OneAirspace.{stated_of_values, stated_back, one_map}
use Rattle.space_sql_schema.proofs.Making.{no_entries}
use Rattle.space_sql_load.specs.declared.naming.Numbered.{Numbered}
use Rattle.space_sql_load.specs.declared.tables.Tables.{Tables}
use Rattle.space_sql_select.specs.Rows.{entity_order, sub_order, number_values, values_of_naming}
use Rattle.space_sql_load.specs.Showing.{rowid_column, ShowsTables, ShowsIds}
use Rattle.space_sql_load.specs.Gathering.{Gathers, ListsEntities, ListsSubs, Parts, ReadsAvailabilities, AreRising, IsListed}
use Rattle.space_sql_select.proofs.MapEntries.{new_key, moves_in}
use Rattle.space_sql_load.proofs.SubGroups.{numbers_of, sub_groups_from, gathers_subs_from}
use Rattle.space_sql_load.proofs.Groups.{groups_from, gathers_from, parts_in, naming_list_of, namings_as_rows, namings_rise}

-- ---- availabilities

pub settled_from : (rows : List Row) (m all : Availabilities) → ReadsAvailabilities rows m all → (ss : List (List ℕ × VersionedAvailability)) × (rows ≡ map availability_values ss) × AllByRecursion IsStated ss × IsPermutation (ss ++ entries m) (entries all)
settled_from [] m all h = ([], refl, tt, IsPermutation-same _ _ (ap entries h))
settled_from (r ∷ rows) m all h =
    let more = settled_from rows (insert m h.0.0 h.0.1) all h.2 in (
      h.0 ∷ more.0,
      ap₂ ◌∷◌ h.1.says.values more.1,
      (h.1.says.stated, more.2),
      IsPermutation-trans _ _ _ (IsPermutation-sym _ _ (moves_in text_cmp nat_list_cmp_total m h.0 more.0 h.1.new)) more.3,
    )

pub settles_from : (ss : List (List ℕ × VersionedAvailability)) (m all : Availabilities) → AllByRecursion IsStated ss → IsPermutation (ss ++ entries m) (entries all) → ReadsAvailabilities (map availability_values ss) m all
settles_from [] m all each same = one_map text_cmp nat_list_cmp_total m all same
settles_from (s ∷ ss) m all each same =
    let new = new_key text_cmp nat_list_cmp_total m all s ss same in (
      s,
      record { says = record { values = refl; stated = each.0 }; new = new },
      settles_from ss (insert m s.0 s.1) all each.1 (IsPermutation-trans _ _ _ (moves_in text_cmp nat_list_cmp_total m s ss new) same),
    )

-- The rows of a list in another order are those of the reordered list.
pub swapped_back : {X : Type 0} (f : X → Row) (g : Row → X) → ((x : X) → g (f x) ≡ x) → (xs : List X) (ys : List Row) → IsPermutation (map f xs) ys → (ys ≡ map f (map g ys)) × IsPermutation xs (map g ys)
swapped_back f g back xs ys same =
    let all = recursion_from_All (λ y. y ≡ f (g y)) ys (All-permutation (λ y. y ≡ f (g y)) (map f xs) ys same (All-from_recursion (λ y. y ≡ f (g y)) (map f xs) (each xs))) in
    (whole ys all, subst (λ l. IsPermutation l (map g ys)) (map_back f g back xs) (IsPermutation-map g _ _ same))
  where
    each : (xs : List _) → AllByRecursion (λ y. y ≡ f (g y)) (map f xs)
    each [] = tt
    each (x ∷ xs) = (ap f (sym (back x)), each xs)

    whole : (ys : List Row) → AllByRecursion (λ y. y ≡ f (g y)) ys → ys ≡ map f (map g ys)
    whole [] all = refl
    whole (y ∷ ys) all = ap₂ ◌∷◌ all.0 (whole ys all.1)

pub all_stated : (ss es : List (List ℕ × VersionedAvailability)) → IsPermutation ss es → AllByRecursion IsStated ss → AllByRecursion IsStated es
all_stated ss es same all = recursion_from_All IsStated es (All-permutation IsStated ss es same (All-from_recursion IsStated ss all))

-- ---- rowids

heads_of : (ids : List ℤ) → map (λ r. column r 0) (map number_values ids) ≡ map (λ n. Int n) ids
heads_of [] = refl
heads_of (n ∷ ids) = ap (λ l. Int n ∷ l) (heads_of ids)

apart_from : (tree : ℕ) (db : Database) (rows : List Row) → ShowsIds tree db rows → AreRising rows → AreApart (db.trees tree)
apart_from tree db rows shown up =
    let same = subst (IsPermutation (map rowid_column (db.trees tree))) up.1 shown.all in
    (up.0, up.2, subst₂ (λ a b. IsPermutation a b) (heads_of up.0) (map-map (λ r. column r 0) rowid_column (db.trees tree)) (IsPermutation-map (λ r. column r 0) _ _ (IsPermutation-sym _ _ same)))

rising_from : (tree : ℕ) (db : Database) (rows : List Row) → ShowsIds tree db rows → AreApart (db.trees tree) → AreRising rows
rising_from tree db rows shown apart =
    let same = subst₂ (λ a b. IsPermutation a b) (map-map (λ v. v ∷ []) (λ n. Int n) apart.0) (map-map (λ v. v ∷ []) rowid (db.trees tree)) (IsPermutation-map (λ v. v ∷ []) _ _ apart.2) in
    (apart.0, shown.rising apart.0 apart.1 same, apart.1)

-- ---- all tables

module _ (db : Database) (t : Tables) (a : Airspace) (has : db.schema ≡ dss_schema) (r : ShowsTables db t) where
  pub spelt_if_listed : IsListed t a → Spells db a
  spelt_if_listed l =
      let q = sub_groups_from a.serial (pos 0) l.subscriptions.rows l.subscriptions.cells (empty, []) (a.subscriptions, l.numbers) l.subscriptions.gathered in
      let gathered = subst (λ (n : List Numbered). Gathers a.serial n (pos 0) l.entities.rows l.entities.parts empty a.entities) (sym q.numbers_are) l.entities.gathered in
      let g = groups_from a.serial q.groups (pos 0) l.entities.rows l.entities.parts empty a.entities gathered in
      let s = settled_from t.settings.items empty a.availabilities l.availabilities in
      let qs = subst (λ m. IsPermutation (map sub_pair_of q.groups ++ m) (entries a.subscriptions)) (no_entries nat_cmp) q.is in
      let es = subst (λ m. IsPermutation (map pair_of g.groups ++ m) (entries a.entities)) (no_entries key_cmp) g.is in
      let ss = subst (λ m. IsPermutation (s.0 ++ m) (entries a.availabilities)) (no_entries text_cmp) s.3 in
      let stated : IsPermutation s.0 (entries a.availabilities) = subst (λ k. IsPermutation k (entries a.availabilities)) (append-nil s.0) ss in
      record {
        schema = has;
        meta = one_permutation (meta_values 2 a.serial) (map meta_columns (db.trees 0)) (IsPermutation-sym _ _ (subst (IsPermutation (map meta_columns (db.trees 0))) l.meta r.metas));
        most = l.most;
        subs = q.groups;
        subs_rising = q.rising;
        each_sub = q.each;
        sub_rows = IsPermutation-sym _ _ (subst (IsPermutation (map sub_columns (db.trees 9))) (l.subscriptions.rows_are ∙ (ap (map sub_values) (sym q.rows_are) ∙ map-map sub_values (λ (x : SubGroup). x.row) q.groups)) r.subscriptions.subscriptions.all);
        sub_cells = IsPermutation-sym _ _ (subst (IsPermutation (map five_columns (db.trees 11))) (l.subscriptions.cells_are ∙ (ap (map sub_cell_values) (sym q.cells_are) ∙ map-flat_map sub_cell_values (λ (x : SubGroup). x.cells) q.groups)) r.subscriptions.cells.all);
        subs_kept = subst (λ k. IsPermutation k (entries a.subscriptions)) (append-nil (map sub_pair_of q.groups)) qs;
        groups = g.groups;
        rising = g.rising;
        each = g.each;
        entities = IsPermutation-sym _ _ (subst (IsPermutation (map entity_columns (db.trees 1))) (l.entities.rows_are ∙ (ap (map entity_values) (sym g.rows_are) ∙ map-map entity_values (λ (x : Group). x.row) g.groups)) r.entities.entities.all);
        volumes = IsPermutation-sym _ _ (subst (IsPermutation (map six_columns (db.trees 3))) (l.entities.volumes_are ∙ (ap (λ (p : Parts). map volume_values p.volumes) (sym g.parts_are) ∙ map-flat_map volume_values (λ (x : Group). x.volumes) g.groups)) r.entities.volumes.all);
        cells = IsPermutation-sym _ _ (subst (IsPermutation (map six_columns (db.trees 5))) (l.entities.cells_are ∙ (ap (λ (p : Parts). map cell_values p.cells) (sym g.parts_are) ∙ map-flat_map cell_values (λ (x : Group). x.cells) g.groups)) r.entities.cells.all);
        namings = IsPermutation-sym _ _ (subst (IsPermutation (map two_columns (db.trees 13))) (l.entities.namings_are ∙ (ap (λ (p : Parts). map values_of_naming p.namings) (sym g.parts_are) ∙ sym (namings_as_rows g.groups))) r.entities.namings.all);
        kept = subst (λ k. IsPermutation k (entries a.entities)) (append-nil (map pair_of g.groups)) es;
        availabilities = IsPermutation-sym _ _ (IsPermutation-trans _ _ _ (subst (IsPermutation (map three_columns (db.trees 7))) s.1 r.settings) (IsPermutation-map availability_values _ _ stated));
        stated = all_stated s.0 (entries a.availabilities) stated s.2;
        apart = (apart_from 3 db t.rowids.volumes.items r.rowids.volumes l.rising.0, apart_from 5 db t.rowids.cells.items r.rowids.cells l.rising.1, apart_from 7 db t.rowids.settings.items r.rowids.settings l.rising.2, apart_from 11 db t.rowids.sub_cells.items r.rowids.sub_cells l.rising.3);
      }

  subs_above_zero : (gs : List SubGroup) → AllByRecursion (IsSubGroup a.serial) gs → AllByRecursion (λ (g : SubGroup). int_cmp (pos 0) g.row.num ≡ Less) gs
  subs_above_zero gs each = all_turned (IsSubGroup a.serial) (λ g. int_cmp (pos 0) g.row.num ≡ Less) (λ g p. Less-from_lt (pos 0) g.row.num (let low = p.spelt.sub.least in omega (arith, ints, low))) gs each

  above_zero : (subs : List SubGroup) (gs : List Group) → AllByRecursion (IsGroup a.serial subs) gs → AllByRecursion (λ (g : Group). int_cmp (pos 0) g.row.num ≡ Less) gs
  above_zero subs gs each = all_turned (IsGroup a.serial subs) (λ g. int_cmp (pos 0) g.row.num ≡ Less) (λ g p. Less-from_lt (pos 0) g.row.num (let low = p.spelt.entity.least in omega (arith, ints, low))) gs each

  listed_subs : (p : Spells db a) → ListsSubs a.serial t.subscriptions (a.subscriptions, numbers_of p.subs)
  listed_subs p =
      let rows = map (λ (g : SubGroup). g.row) p.subs in
      let cells = flat_map (λ (g : SubGroup). g.cells) p.subs in
      record {
        rows = rows;
        cells = cells;
        rows_are = r.subscriptions.subscriptions.rising rows (ascending-map (λ x y. sub_order x y ≡ Less) (λ (g : SubGroup). g.row) p.subs p.subs_rising)
            (subst (λ l. IsPermutation l (map sub_columns (db.trees 9))) (sym (map-map sub_values (λ (g : SubGroup). g.row) p.subs)) p.sub_rows);
        cells_are = r.subscriptions.cells.rising cells (all_sub_cells_rise a.serial p.subs p.each_sub p.subs_rising)
            (subst (λ l. IsPermutation l (map five_columns (db.trees 11))) (sym (map-flat_map sub_cell_values (λ (g : SubGroup). g.cells) p.subs)) p.sub_cells);
        gathered = gathers_subs_from a.serial (pos 0) p.subs (empty, []) (a.subscriptions, numbers_of p.subs) p.each_sub p.subs_rising (subs_above_zero p.subs p.each_sub)
            (subst (λ m. IsPermutation (map sub_pair_of p.subs ++ m) (entries a.subscriptions)) (sym (no_entries nat_cmp)) (subst (λ k. IsPermutation k (entries a.subscriptions)) (sym (append-nil (map sub_pair_of p.subs))) p.subs_kept)) refl;
      }

  listed_entities : (p : Spells db a) → ListsEntities a.serial (numbers_of p.subs) t.entities a.entities
  listed_entities p =
      let rows = map (λ (g : Group). g.row) p.groups in
      record {
        rows = rows;
        parts = parts_in p.groups;
        rows_are = r.entities.entities.rising rows (ascending-map (λ x y. entity_order x y ≡ Less) (λ (g : Group). g.row) p.groups p.rising)
            (subst (λ l. IsPermutation l (map entity_columns (db.trees 1))) (sym (map-map entity_values (λ (g : Group). g.row) p.groups)) p.entities);
        volumes_are = r.entities.volumes.rising (flat_map (λ (g : Group). g.volumes) p.groups) (all_volumes_rise a.serial p.subs p.groups p.each p.rising)
            (subst (λ l. IsPermutation l (map six_columns (db.trees 3))) (sym (map-flat_map volume_values (λ (g : Group). g.volumes) p.groups)) p.volumes);
        cells_are = r.entities.cells.rising (flat_map (λ (g : Group). g.cells) p.groups) (all_cells_rise a.serial p.subs p.groups p.each p.rising)
            (subst (λ l. IsPermutation l (map six_columns (db.trees 5))) (sym (map-flat_map cell_values (λ (g : Group). g.cells) p.groups)) p.cells);
        namings_are = r.entities.namings.rising (flat_map naming_list_of p.groups) (namings_rise p.groups p.rising)
            (subst (λ l. IsPermutation l (map two_columns (db.trees 13))) (namings_as_rows p.groups) p.namings);
        gathered = gathers_from a.serial p.subs p.subs_rising (pos 0) p.groups empty a.entities p.each p.rising (above_zero p.subs p.groups p.each)
            (subst (λ m. IsPermutation (map pair_of p.groups ++ m) (entries a.entities)) (sym (no_entries key_cmp)) (subst (λ k. IsPermutation k (entries a.entities)) (sym (append-nil (map pair_of p.groups))) p.kept));
      }

  pub listed_if_spelt : Spells db a → IsListed t a
  listed_if_spelt p =
      let back = swapped_back availability_values stated_of_values stated_back (entries a.availabilities) t.settings.items (IsPermutation-trans _ _ _ p.availabilities r.settings) in
      let settled = settles_from (map stated_of_values t.settings.items) empty a.availabilities (all_stated (entries a.availabilities) (map stated_of_values t.settings.items) back.1 p.stated)
      (subst (λ m. IsPermutation (map stated_of_values t.settings.items ++ m) (entries a.availabilities)) (sym (no_entries text_cmp)) (subst (λ k. IsPermutation k (entries a.availabilities)) (sym (append-nil _)) (IsPermutation-sym _ _ back.1))) in
      record {
        meta = one_permutation (meta_values 2 a.serial) t.metas.items (subst (λ l. IsPermutation l t.metas.items) p.meta r.metas);
        most = p.most;
        numbers = numbers_of p.subs;
        subscriptions = listed_subs p;
        entities = listed_entities p;
        availabilities = subst (λ rs. ReadsAvailabilities rs empty a.availabilities) (sym back.0) settled;
        rising = (rising_from 3 db t.rowids.volumes.items r.rowids.volumes p.apart.0, rising_from 5 db t.rowids.cells.items r.rowids.cells p.apart.1, rising_from 7 db t.rowids.settings.items r.rowids.settings p.apart.2, rising_from 11 db t.rowids.sub_cells.items r.rowids.sub_cells p.apart.3);
      }
