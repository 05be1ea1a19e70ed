-- Proofs that the rows of a range list entities exactly if they represent them.
use Rattle.std.proofs.Common.{◌≡◌, ℕ, ℤ, pos, List, ◌++◌, map, flat_map, sym, ap, subst, ◌∙◌, arith, append-nil, Less}
use Rattle.std.specs.Prelude.{IsPermutation}
use Rattle.std.specs.List.{AllByRecursion}
use Rattle.std.specs.Ordering.{int_cmp}
use Rattle.std.specs.FinMap.{empty, entries}
use Rattle.std.proofs.lemmas.Int.{ints}
use Rattle.std.proofs.lemmas.List.Sorted.{IsPermutation-sym}
use Rattle.sqlite_keyed.proofs.ListLemmas.{map-map, map-flat_map, ascending-map}
use Rattle.sqlite_keyed.proofs.KeyedLemmas.{Less-from_lt}
use Rattle.sqlite_trees.specs.Tree.{IsAscending}
use Rattle.sqlite.specs.Effect.{Database, IsDatabase}
use Rattle.entity_core.specs.Airspace.{Entities as Map, key_cmp}
use Rattle.space_rows.proofs.Chunks.{all_turned}
use Rattle.space_sql_schema.specs.Tables.{dss_schema}
use Rattle.space_sql_schema.specs.Spelling.{Group, IsGroup, SubGroup, IsSubBefore, pair_of, entity_values, volume_values, cell_values}
use Rattle.space_sql_schema.proofs.Rising.{all_volumes_rise, all_cells_rise}
use Rattle.space_sql_schema.proofs.Making.{no_entries}
use Rattle.space_sql_select.specs.Rows.{entity_order, values_of_naming}
use Rattle.space_sql_load.specs.declared.tables.EntityTables.{EntityTables}
use Rattle.space_sql_load.specs.Gathering.{ListsEntities, Parts}
use Rattle.space_sql_load.proofs.Groups.{groups_from, gathers_from, parts_in, naming_list_of, namings_as_rows, namings_rise}
use Rattle.space_sql_check.specs.declared.source.Source.TheVariants.{Entities, Volumes, Cells, Namings}
use Rattle.space_sql_check.specs.Parts.{AreEntities, HasEntities, ShowsEntityTables, is_within, numbers_of, rows_where}
use Rattle.space_sql_check.proofs.Keys.{entity_map_of}

module _ (serial : ℕ) (subs : List SubGroup) (subs_rise : IsAscending IsSubBefore subs) (db : Database) (over end : ℤ) (t : EntityTables) (r : ShowsEntityTables over end db t) where
  pub entities_listed : (m : Map) → ListsEntities serial (numbers_of subs) t m → HasEntities serial subs (is_within over end) db
  entities_listed m l =
      let g = groups_from serial subs (pos 0) l.rows l.parts empty m l.gathered in (
        g.groups,
        record {
          rising = g.rising;
          each = g.each;
          rows = IsPermutation-sym _ _ (subst (IsPermutation (rows_where (is_within over end) Entities db)) (l.rows_are ∙ (ap (map entity_values) (sym g.rows_are) ∙ map-map entity_values (λ (x : Group). x.row) g.groups)) r.entities.all);
          volumes = IsPermutation-sym _ _ (subst (IsPermutation (rows_where (is_within over end) Volumes db)) (l.volumes_are ∙ (ap (λ (p : Parts). map volume_values p.volumes) (sym g.parts_are) ∙ map-flat_map volume_values (λ (x : Group). x.volumes) g.groups)) r.volumes.all);
          cells = IsPermutation-sym _ _ (subst (IsPermutation (rows_where (is_within over end) Cells db)) (l.cells_are ∙ (ap (λ (p : Parts). map cell_values p.cells) (sym g.parts_are) ∙ map-flat_map cell_values (λ (x : Group). x.cells) g.groups)) r.cells.all);
          namings = IsPermutation-sym _ _ (subst (IsPermutation (rows_where (is_within over end) Namings db)) (l.namings_are ∙ (ap (λ (p : Parts). map values_of_naming p.namings) (sym g.parts_are) ∙ sym (namings_as_rows g.groups))) r.namings.all);
        },
      )

  above_zero : (gs : List Group) → AllByRecursion (IsGroup serial subs) gs → AllByRecursion (λ (g : Group). int_cmp (pos 0) g.row.num ≡ Less) gs
  above_zero gs each = all_turned (IsGroup serial subs) (λ g. int_cmp (pos 0) g.row.num ≡ Less) (λ g p. Less-from_lt (pos 0) g.row.num (let low = p.spelt.entity.least in omega (arith, ints, low))) gs each

  listed_entities : (gs : List Group) (m : Map) → AreEntities serial subs (is_within over end) db gs → IsPermutation (map pair_of gs) (entries m) → ListsEntities serial (numbers_of subs) t m
  listed_entities gs m p is =
      let rows = map (λ (g : Group). g.row) gs in
      record {
        rows = rows;
        parts = parts_in gs;
        rows_are = r.entities.rising rows (ascending-map (λ x y. entity_order x y ≡ Less) (λ (g : Group). g.row) gs p.rising)
            (subst (λ l. IsPermutation l (rows_where (is_within over end) Entities db)) (sym (map-map entity_values (λ (g : Group). g.row) gs)) p.rows);
        volumes_are = r.volumes.rising (flat_map (λ (g : Group). g.volumes) gs) (all_volumes_rise serial subs gs p.each p.rising)
            (subst (λ l. IsPermutation l (rows_where (is_within over end) Volumes db)) (sym (map-flat_map volume_values (λ (g : Group). g.volumes) gs)) p.volumes);
        cells_are = r.cells.rising (flat_map (λ (g : Group). g.cells) gs) (all_cells_rise serial subs gs p.each p.rising)
            (subst (λ l. IsPermutation l (rows_where (is_within over end) Cells db)) (sym (map-flat_map cell_values (λ (g : Group). g.cells) gs)) p.cells);
        namings_are = r.namings.rising (flat_map naming_list_of gs) (namings_rise gs p.rising)
            (subst (λ l. IsPermutation l (rows_where (is_within over end) Namings db)) (namings_as_rows gs) p.namings);
        gathered = gathers_from serial subs subs_rise (pos 0) gs empty m p.each p.rising (above_zero gs p.each)
            (subst (λ k. IsPermutation (map pair_of gs ++ k) (entries m)) (sym (no_entries key_cmp)) (subst (λ k. IsPermutation k (entries m)) (sym (append-nil (map pair_of gs))) is));
      }

  -- If the rows list none, they represent none.
  pub none_listed : db.schema ≡ dss_schema → IsDatabase db → ((m : Map) → ¬ ListsEntities serial (numbers_of subs) t m) → ¬ HasEntities serial subs (is_within over end) db
  none_listed has sound none (gs, p) =
      let m = entity_map_of db has sound serial subs (is_within over end) gs p in
      none m.0 (listed_entities gs m.0 p m.1)
