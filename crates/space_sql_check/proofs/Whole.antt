-- Proofs that the tables represent an airspace exactly if all that is checked holds.
use Rattle.std.proofs.Common.{◌≡◌, ℕ, List, [], ◌∷◌, map, flat_map, refl, sym, subst}
use Rattle.std.specs.Prelude.{IsPermutation, ◌≤◌}
use Rattle.std.proofs.lemmas.List.Sorted.{IsPermutation-sym}
use Rattle.sqlite_keyed.proofs.ListLemmas.{map-map, map-flat_map}
use Rattle.sqlite.specs.Order.{Row}
use Rattle.sqlite.specs.Effect.{Database, IsDatabase}
use Rattle.sqlite.proofs.Callers.{one_permutation}
use Rattle.entity_core.specs.Airspace.{Airspace}
use Rattle.entity_core.specs.Serial.{max_serial}
use Rattle.space_sql_schema.specs.Tables.{dss_schema}
use Rattle.space_sql_schema.specs.Spelling.{Spells, Group, SubGroup, entity_values, volume_values, cell_values, naming_rows_of, sub_values, sub_cell_values, meta_columns, meta_values}
use Rattle.space_sql_schema.proofs.OneAirspace.{one_subs, one_table, sub_of_values, sub_back, sub_cell_of_values, sub_cell_back}
use Rattle.space_sql_select.specs.Meta.{ShowsMeta}
use Rattle.space_sql_select.proofs.Metas.{one_serial}
use Rattle.space_sql_check.specs.declared.source.Source.TheVariants.{Entities, Volumes, Cells, Namings, Subscriptions, SubCells}
use Rattle.space_sql_check.specs.Parts.{AreSubs, any_value, rows_where}
use Rattle.space_sql_check.specs.Checking.{HasAll, HasItems, HasSerial}
use Rattle.space_sql_check.proofs.Keys.{entity_map_of, sub_map_of}
use Rattle.space_sql_check.proofs.Parting.{any_rows}

pub serial_shown : (db : Database) (rows : List Row) (serial : ℕ) → ShowsMeta db rows → rows ≡ meta_values 2 serial ∷ [] → HasSerial serial db
serial_shown db rows serial shows is = one_permutation (meta_values 2 serial) (map meta_columns (db.trees 0)) (IsPermutation-sym _ _ (subst (IsPermutation (map meta_columns (db.trees 0))) is shows))

-- The rows represent at most one list of subscriptions.
pub one_list : (serial : ℕ) (db : Database) (xs ys : List SubGroup) → AreSubs serial any_value db xs → AreSubs serial any_value db ys → xs ≡ ys
one_list serial db xs ys p q =
    one_subs serial serial xs ys p.each q.each p.rising q.rising
    (one_table sub_values sub_of_values sub_back (map (λ (g : SubGroup). g.row) xs) (map (λ (g : SubGroup). g.row) ys) _ _ refl (subst (λ l. IsPermutation l (rows_where any_value Subscriptions db)) (sym (map-map sub_values (λ (g : SubGroup). g.row) xs)) p.rows) (subst (λ l. IsPermutation l (rows_where any_value Subscriptions db)) (sym (map-map sub_values (λ (g : SubGroup). g.row) ys)) q.rows))
    (one_table sub_cell_values sub_cell_of_values sub_cell_back (flat_map (λ (g : SubGroup). g.cells) xs) (flat_map (λ (g : SubGroup). g.cells) ys) _ _ refl (subst (λ l. IsPermutation l (rows_where any_value SubCells db)) (sym (map-flat_map sub_cell_values (λ (g : SubGroup). g.cells) xs)) p.cells) (subst (λ l. IsPermutation l (rows_where any_value SubCells db)) (sym (map-flat_map sub_cell_values (λ (g : SubGroup). g.cells) ys)) q.cells))

module _ (db : Database) (has : db.schema ≡ dss_schema) (serial : ℕ) (is : HasSerial serial db) where
  pub spells_all : IsDatabase db → serial ≤ max_serial → HasAll serial db → (a : Airspace) × Spells db a
  spells_all sound most h =
      let subs = h.items.subs in
      let p = h.items.are_subs in
      let gs = h.items.entities.0 in
      let q = h.items.entities.1 in
      let m = sub_map_of db has sound serial any_value subs p in
      let n = entity_map_of db has sound serial subs any_value gs q in
      let a : Airspace = record { entities = n.0; subscriptions = m.0; availabilities = h.others.settings.all; serial = serial } in (
        a,
        record {
          schema = has;
          meta = is;
          most = most;
          subs = subs;
          subs_rising = p.rising;
          each_sub = p.each;
          sub_rows = subst (IsPermutation (map (λ (g : SubGroup). sub_values g.row) subs)) (any_rows Subscriptions db) p.rows;
          sub_cells = subst (IsPermutation (flat_map (λ (g : SubGroup). map sub_cell_values g.cells) subs)) (any_rows SubCells db) p.cells;
          subs_kept = m.1;
          groups = gs;
          rising = q.rising;
          each = q.each;
          entities = subst (IsPermutation (map (λ (g : Group). entity_values g.row) gs)) (any_rows Entities db) q.rows;
          volumes = subst (IsPermutation (flat_map (λ (g : Group). map volume_values g.volumes) gs)) (any_rows Volumes db) q.volumes;
          cells = subst (IsPermutation (flat_map (λ (g : Group). map cell_values g.cells) gs)) (any_rows Cells db) q.cells;
          namings = subst (IsPermutation (flat_map naming_rows_of gs)) (any_rows Namings db) q.namings;
          kept = n.1;
          availabilities = h.others.settings.rows;
          stated = h.others.settings.stated;
          apart = h.others.apart;
        },
      )

  pub all_spelt : (a : Airspace) → Spells db a → HasAll serial db
  all_spelt a s =
      let same = one_serial (map meta_columns (db.trees 0)) a.serial serial s.meta is in
      let items : HasItems a.serial db = record {
        subs = s.subs;
        are_subs = record {
          rising = s.subs_rising;
          each = s.each_sub;
          rows = subst (IsPermutation (map (λ (g : SubGroup). sub_values g.row) s.subs)) (sym (any_rows Subscriptions db)) s.sub_rows;
          cells = subst (IsPermutation (flat_map (λ (g : SubGroup). map sub_cell_values g.cells) s.subs)) (sym (any_rows SubCells db)) s.sub_cells;
        };
        entities = (
          s.groups,
          record {
            rising = s.rising;
            each = s.each;
            rows = subst (IsPermutation (map (λ (g : Group). entity_values g.row) s.groups)) (sym (any_rows Entities db)) s.entities;
            volumes = subst (IsPermutation (flat_map (λ (g : Group). map volume_values g.volumes) s.groups)) (sym (any_rows Volumes db)) s.volumes;
            cells = subst (IsPermutation (flat_map (λ (g : Group). map cell_values g.cells) s.groups)) (sym (any_rows Cells db)) s.cells;
            namings = subst (IsPermutation (flat_map naming_rows_of s.groups)) (sym (any_rows Namings db)) s.namings;
          },
        );
      } in
      record {
        items = subst (λ (n : ℕ). HasItems n db) same items;
        others = record { settings = record { all = a.availabilities; rows = s.availabilities; stated = s.stated }; apart = s.apart };
      }
