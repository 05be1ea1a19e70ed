-- Proofs about the airspace without a removed entity.
use Rattle.std.proofs.Common.{◌≡◌, ℕ, ◌<◌, ℤ, List, [], filter, not, Option, Some, None, refl, sym, subst, arith, int_eq}
use Rattle.std.specs.Prelude.{IsSome}
use Rattle.std.specs.List.{AllByRecursion}
use Rattle.std.specs.FinMap.{get, remove}
use Rattle.sqlite_keyed.proofs.ListLemmas.{all-filter, all_of, ascending-filter}
use Rattle.sqlite.specs.Effect.{Database}
use Rattle.entity_core.specs.declared.nature.Kind.{Kind}
use Rattle.entity_core.specs.Airspace.{Airspace, Entities, EntityKey, key_cmp, without_entity}
use Rattle.entity_core.specs.Serial.{max_serial}
use Rattle.entity_core.proofs.Keys.{key_total, key_exact}
use Rattle.entity_purge.specs.declared.purge_item.PurgeItem.TheVariants.{Entity}
use Rattle.entity_purge.specs.Purge.{less_entity}
use Rattle.space_core.specs.declared.space.Change.TheVariants.{Remove}
use Rattle.space_rows.specs.declared.rows.EntityRow.{EntityRow}
use Rattle.space_rows.specs.declared.rows.VolumeRow.{VolumeRow}
use Rattle.space_rows.specs.declared.rows.CellRow.{CellRow}
use Rattle.space_rows.proofs.Chunks.{Borne}
use Rattle.space_sql_schema.specs.Spelling.{Group, IsBefore, IsGroup, Spells, SubGroup, pair_of}
use Rattle.space_sql_schema.proofs.OneAirspace.{volumes_borne, cells_borne}
use Rattle.space_sql_write.specs.Layout.{Always, LaysOut, IsNumberOf, Naming, layout_of, namings_of, without_rows, with_next_serial}
use Rattle.space_sql_write.specs.Statements.{FindsNumber, RelaysSound, MakesChange, MakesLess}
use Rattle.space_sql_write.proofs.Groups.{heads_left, is_other, kept_left, left_at, others_left}
use Rattle.space_sql_write.proofs.Numbered.{at_of, made, made_untold, number, of_at}
use Rattle.space_sql_write.proofs.Spelt.{AreEntities, entities_later, lay_out, own_entities, own_namings, own_stated, own_subs, subs_later}

own_number : (num : ℤ) (named : Option ℤ) → AllByRecursion (λ (n : Naming). n.0 ≡ num) (namings_of num named)
own_number num None = tt
own_number num (Some subscription) = (refl, tt)

namings_borne : (gs : List Group) → Borne (λ (n : Naming). n.0) number own_namings gs
namings_borne gs = all_of _ (λ (g : Group). own_number g.row.num g.naming) gs

-- The remaining rows are those of the other entities.
pub entities_left : (n : ℕ) (ss : List SubGroup) (rows : List EntityRow) (volumes : List VolumeRow) (cells : List CellRow) (namings : List Naming) (gs : List Group) (m : Entities) (num : ℤ) (k : EntityKey) → AreEntities n ss rows volumes cells namings gs m → IsNumberOf num k gs
    → AreEntities n ss (filter (λ (e : EntityRow). not (int_eq e.num num)) rows) (filter (λ (v : VolumeRow). not (int_eq v.entity num)) volumes) (filter (λ (c : CellRow). not (int_eq c.entity num)) cells) (filter (λ (n : Naming). not (int_eq n.0 num)) namings)
    (filter (is_other number num) gs) (remove m k)
entities_left n ss rows volumes cells namings gs m num k are it = record {
  rising = ascending-filter IsBefore _ gs are.rising;
  each = all-filter (IsGroup n ss) _ gs are.each;
  rows_are = heads_left (λ (e : EntityRow). e.num) (λ (g : Group). g.row) num gs rows are.rows_are;
  volumes_are = others_left number (λ (v : VolumeRow). v.entity) (λ (g : Group). g.volumes) num gs volumes (volumes_borne n ss gs are.each) are.volumes_are;
  cells_are = others_left number (λ (c : CellRow). c.entity) (λ (g : Group). g.cells) num gs cells (cells_borne n ss gs are.each) are.cells_are;
  namings_are = others_left number (λ (n : Naming). n.0) own_namings num gs namings (namings_borne gs) are.namings_are;
  kept = kept_left number pair_of key_cmp key_total key_exact gs are.rising m are.kept num k (it.group, it.there, it.number, it.key);
}

-- The remaining entities keep their numbers.
numbers_left : (db : Database) (a : Airspace) (p : Spells db a) (num : ℤ) (k : EntityKey) → IsNumberOf num k p.groups → (n : ℤ) (j : EntityKey) → IsNumberOf n j p.groups → IsSome (get (remove a.entities k) j) → IsNumberOf n j (filter (is_other number num) p.groups)
numbers_left db a p num k it n j at there = of_at n j _ (left_at number pair_of key_cmp key_total key_exact p.groups p.rising num k (at_of num k p.groups it) a.entities n j (at_of n j p.groups at) there)

-- If the number is found and its rows are removed, the entity is purged. The serial stays.
pub lets_entity_go : (old found new : Database) (kind : Kind) (id : ℕ) (num : ℤ) → FindsNumber (kind, id) (Some num) old found → RelaysSound Always (without_rows num) found new → MakesLess (Entity kind id) old new
lets_entity_go old found new kind id num finds clears a p can =
    let it = finds a p in
    let l = layout_of old a p in
    let has = subst (λ db. LaysOut db l) (sym it.0) (lay_out old a p) in
    made old new a (less_entity a (kind, id)) p (without_rows num l) p.subs (filter (is_other number num) p.groups) (clears.0 l tt has) (clears.1 l tt has) (record {
      serial = refl;
      most = p.most;
      subs = own_subs old a p;
      entities = entities_left _ _ _ _ _ _ _ _ num (kind, id) (own_entities old a p) it.1;
      stated = own_stated old a p;
    }) (numbers_left old a p num (kind, id) it.1) (λ n k at there. at)

-- If the number is found, its rows are removed and the serial increases by one, the entity is
-- removed.
pub removes_entity : (old found new : Database) (kind : Kind) (id : ℕ) (num : ℤ) → FindsNumber (kind, id) (Some num) old found → RelaysSound (λ l. l.serial < max_serial) (λ l. with_next_serial (without_rows num l)) found new
    → MakesChange (Remove kind id) [] old new
removes_entity old found new kind id num finds removes a p fits =
    let it = finds a p in
    let l = layout_of old a p in
    let has = subst (λ db. LaysOut db l) (sym it.0) (lay_out old a p) in
    let left = without_entity a (kind, id) in
    made_untold old new a left (made old new a left p (with_next_serial (without_rows num l)) p.subs (filter (is_other number num) p.groups) (removes.0 l fits.room has) (removes.1 l fits.room has) (record {
      serial = refl;
      most = let room = fits.room in omega (arith, room);
      subs = subs_later _ _ _ _ _ (own_subs old a p);
      entities = entities_left _ _ _ _ _ _ _ _ num (kind, id) (entities_later _ _ _ _ _ _ _ _ (own_entities old a p)) it.1;
      stated = own_stated old a p;
    }) (numbers_left old a p num (kind, id) it.1) (λ n k at there. at))
