-- Proofs that the rows of a range list subscriptions exactly if they represent them.
use Rattle.std.proofs.Common.{◌≡◌, ℕ, ℤ, pos, List, [], ◌++◌, map, flat_map, refl, sym, ap, subst, ◌∙◌, arith, append-nil, Less}
use Rattle.std.specs.Prelude.{IsPermutation}
use Rattle.std.specs.List.{AllByRecursion}
use Rattle.std.specs.Ordering.{int_cmp, nat_cmp}
use Rattle.std.specs.FinMap.{empty, entries}
use Rattle.std.proofs.lemmas.Int.{ints}
use Rattle.std.proofs.lemmas.List.Sorted.{IsPermutation-sym}
use Rattle.sqlite_keyed.proofs.ListLemmas.{map-map, map-flat_map, ascending-map}
use Rattle.sqlite_keyed.proofs.KeyedLemmas.{Less-from_lt}
use Rattle.sqlite.specs.Effect.{Database, IsDatabase}
use Rattle.entity_core.specs.Airspace.{Subscriptions as Map}
use Rattle.space_rows.proofs.Chunks.{all_turned}
use Rattle.space_sql_schema.specs.Tables.{dss_schema}
use Rattle.space_sql_schema.specs.Spelling.{SubGroup, IsSubGroup, sub_pair_of, sub_values, sub_cell_values}
use Rattle.space_sql_schema.proofs.Rising.{all_sub_cells_rise}
use Rattle.space_sql_schema.proofs.Making.{no_entries}
use Rattle.space_sql_select.specs.Rows.{sub_order}
use Rattle.space_sql_load.specs.declared.tables.SubTables.{SubTables}
use Rattle.space_sql_load.specs.Gathering.{ListsSubs, Subs}
use Rattle.space_sql_load.proofs.SubGroups.{sub_groups_from, gathers_subs_from}
use Rattle.space_sql_check.specs.declared.source.Source.TheVariants.{Subscriptions, SubCells}
use Rattle.space_sql_check.specs.Parts.{AreSubs, HasSubs, ShowsWithin, is_within, numbers_of, rows_where}
use Rattle.space_sql_check.proofs.Keys.{sub_map_of}

module _ (serial : ℕ) (db : Database) (over end : ℤ) (t : SubTables) (r : ShowsWithin over end Subscriptions db t.subscriptions.items) (c : ShowsWithin over end SubCells db t.cells.items) where
  pub subs_listed : (a : Subs) → ListsSubs serial t a → HasSubs serial (is_within over end) db a.1
  subs_listed a l =
      let q = sub_groups_from serial (pos 0) l.rows l.cells (empty, []) a l.gathered in
      record {
        subs = q.groups;
        are = record {
          rising = q.rising;
          each = q.each;
          rows = IsPermutation-sym _ _ (subst (IsPermutation (rows_where (is_within over end) Subscriptions db)) (l.rows_are ∙ (ap (map sub_values) (sym q.rows_are) ∙ map-map sub_values (λ (x : SubGroup). x.row) q.groups)) r.all);
          cells = IsPermutation-sym _ _ (subst (IsPermutation (rows_where (is_within over end) SubCells db)) (l.cells_are ∙ (ap (map sub_cell_values) (sym q.cells_are) ∙ map-flat_map sub_cell_values (λ (x : SubGroup). x.cells) q.groups)) c.all);
        };
        numbers_are = sym q.numbers_are;
      }

  above_zero : (gs : List SubGroup) → AllByRecursion (IsSubGroup serial) gs → AllByRecursion (λ (g : SubGroup). int_cmp (pos 0) g.row.num ≡ Less) gs
  above_zero gs each = all_turned (IsSubGroup serial) (λ g. int_cmp (pos 0) g.row.num ≡ Less) (λ g p. Less-from_lt (pos 0) g.row.num (let low = p.spelt.sub.least in omega (arith, ints, low))) gs each

  pub listed_subs : (subs : List SubGroup) (m : Map) → AreSubs serial (is_within over end) db subs → IsPermutation (map sub_pair_of subs) (entries m) → ListsSubs serial t (m, numbers_of subs)
  listed_subs subs m p is =
      let rows = map (λ (g : SubGroup). g.row) subs in
      let cells = flat_map (λ (g : SubGroup). g.cells) subs in
      record {
        rows = rows;
        cells = cells;
        rows_are = r.rising rows (ascending-map (λ x y. sub_order x y ≡ Less) (λ (g : SubGroup). g.row) subs p.rising)
            (subst (λ l. IsPermutation l (rows_where (is_within over end) Subscriptions db)) (sym (map-map sub_values (λ (g : SubGroup). g.row) subs)) p.rows);
        cells_are = c.rising cells (all_sub_cells_rise serial subs p.each p.rising)
            (subst (λ l. IsPermutation l (rows_where (is_within over end) SubCells db)) (sym (map-flat_map sub_cell_values (λ (g : SubGroup). g.cells) subs)) p.cells);
        gathered = gathers_subs_from serial (pos 0) subs (empty, []) (m, numbers_of subs) p.each p.rising (above_zero subs p.each)
            (subst (λ k. IsPermutation (map sub_pair_of subs ++ k) (entries m)) (sym (no_entries nat_cmp)) (subst (λ k. IsPermutation k (entries m)) (sym (append-nil (map sub_pair_of subs))) is)) refl;
      }

  -- If the rows list none, they represent none.
  pub none_listed : db.schema ≡ dss_schema → IsDatabase db → ((a : Subs) → ¬ ListsSubs serial t a) → (subs : List SubGroup) → ¬ AreSubs serial (is_within over end) db subs
  none_listed has sound none subs p =
      let m = sub_map_of db has sound serial (is_within over end) subs p in
      none (m.0, numbers_of subs) (listed_subs subs m.0 p m.1)
