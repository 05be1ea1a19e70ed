-- Proofs about the airspace with a stored entity.
use Rattle.std.proofs.Common.{◌≡◌, inl, inr, ℕ, ◌+◌, ◌<◌, ◌≤◌, ℤ, pos, List, [], ◌∷◌, ◌++◌, false, Option, Some, None, refl, sym, subst, arith, int_eq, is_eq, ap, ◌≤ℤ◌}
use Rattle.std.specs.List.{AllByRecursion}
use Rattle.std.specs.FinMap.{insert, remove}
use Rattle.std.proofs.lemmas.Int.{ints}
use Rattle.sqlite_keyed.proofs.KeyedLemmas.{Less-from_lt}
use Rattle.sqlite.specs.Effect.{Database}
use Rattle.entity_core.specs.declared.entity.Entity.{Entity}
use Rattle.entity_core.specs.Entity.{subscription_of}
use Rattle.entity_core.specs.Airspace.{Airspace, Entities, EntityKey, is_one_of, key_cmp, key_of, with_entity, with_notified_subs}
use Rattle.entity_core.specs.Serial.{max_serial}
use Rattle.entity_core.proofs.Keys.{key_total, key_exact}
use Rattle.space_core.specs.declared.space.Change.TheVariants.{Put}
use Rattle.space_core.specs.Space.{Fits}
use Rattle.space_rows.specs.declared.rows.EntityRow.{EntityRow}
use Rattle.space_rows.specs.declared.rows.VolumeRow.{VolumeRow}
use Rattle.space_rows.specs.declared.rows.CellRow.{CellRow}
use Rattle.space_rows.specs.Rows.{SpellsEntity}
use Rattle.space_rows.proofs.Chunks.{all_turned}
use Rattle.space_sql_schema.specs.Spelling.{Spells, Group, IsGroup, IsSubNumber, Names, SubGroup, pair_of}
use Rattle.space_sql_write.specs.Layout.{Always, Layout, LaysOut, IsNumberOf, Naming, Relays, layout_of, namings_of, with_next_serial, with_rows, without_rows}
use Rattle.space_sql_write.specs.Numbering.{Makes}
use Rattle.space_sql_write.specs.Statements.{FindsNumber, FindsSubNumber, RelaysSound, MakesChange}
use Rattle.space_sql_write.specs.Putting.{FindsNaming, InsertsEntity, MakesRoom}
use Rattle.space_sql_write.proofs.Groups.{beside, head_beside, kept_joined, kept_stand, placed, placed_at, replaced_at}
use Rattle.space_sql_write.proofs.Joining.{all_put, put_rises}
use Rattle.space_sql_write.proofs.Numbered.{at_of, made, made_untold, number, of_at}
use Rattle.space_sql_write.proofs.Removed.{entities_left}
use Rattle.space_sql_write.proofs.Rows.{none_left_of}
use Rattle.space_sql_write.proofs.Spelt.{AreEntities, AreStated, AreSubs, entities_later, lay_out, own_entities, own_namings, own_stated, own_subs, subs_later}

-- After the rows of a number are removed, there is room for the entity.

pub room_left : (e : Entity) (num : ℤ) (old found new : Database) → FindsNumber (key_of e) (Some num) old found → Relays Always (without_rows num) found new → MakesRoom e num old new
room_left e num old found new finds clears a p =
    let it = finds a p in
    inl (it.1, clears (layout_of old a p) tt (subst (λ db. LaysOut db (layout_of old a p)) (sym it.0) (lay_out old a p)))

pub room_there : (e : Entity) (num : ℤ) (old new : Database) → num ≡ pos e.serial → FindsNumber (key_of e) None old new → MakesRoom e num old new
room_there e num old new is finds a p = let it = finds a p in inr (it.1, is, subst (λ db. LaysOut db (layout_of old a p)) (sym it.0) (lay_out old a p))

-- ---- a new entity

module _ (n : ℕ) (ss : List SubGroup) (rows : List EntityRow) (volumes : List VolumeRow) (cells : List CellRow) (namings : List Naming) (gs : List Group) (m : Entities) where
  -- If no group has the key, the rows are those of the entities without it.
  pub entities_stand : (k : EntityKey) → AreEntities n ss rows volumes cells namings gs m → ((num : ℤ) → ¬ IsNumberOf num k gs) → AreEntities n ss rows volumes cells namings gs (remove m k)
  entities_stand k are none = record {
    rising = are.rising;
    each = are.each;
    rows_are = are.rows_are;
    volumes_are = are.volumes_are;
    cells_are = are.cells_are;
    namings_are = are.namings_are;
    kept = kept_stand number pair_of key_cmp key_total key_exact gs m are.kept k (λ num it. none num (record { group = it.0; there = it.1; number = it.2; key = it.3 }));
  }

  -- ---- the rows of the entity beside the others

  module _ (e : Entity) (row : EntityRow) (vs : List VolumeRow) (cs : List CellRow) (named : Option ℤ) where
    abbrev new_group : Group
    new_group = record { row = row; volumes = vs; cells = cs; naming = named; entity = e }

    pub entities_joined : AreEntities n ss rows volumes cells namings gs (remove m (key_of e)) → AllByRecursion (λ (g : Group). int_eq g.row.num row.num ≡ false) gs → SpellsEntity row vs cs (subscription_of e.nature) e → Names ss named (subscription_of e.nature) → e.serial ≤ n
        → AreEntities n ss (rows ++ row ∷ []) (volumes ++ vs) (cells ++ cs) (namings ++ namings_of row.num named) (placed number new_group gs) (insert m (key_of e) e)
    entities_joined are other spelt names most = record {
      rising = put_rises number new_group gs other are.rising;
      each = all_put number (IsGroup n ss) new_group gs (record { spelt = spelt; names = names; most = most }) are.each;
      rows_are = head_beside number new_group gs (λ (g : Group). g.row) rows are.rows_are;
      volumes_are = beside number new_group gs (λ (g : Group). g.volumes) volumes are.volumes_are;
      cells_are = beside number new_group gs (λ (g : Group). g.cells) cells are.cells_are;
      namings_are = beside number new_group gs own_namings namings are.namings_are;
      kept = kept_joined number pair_of key_cmp key_total key_exact new_group gs m are.kept;
    }

pub lower_differs : (m : ℤ) (n s t : ℕ) → m ≤ℤ pos n → n ≤ s → t ≡ s + 1 → int_eq m (pos t) ≡ false
lower_differs m n s t low under is = ap is_eq (Less-from_lt m (pos t) (omega (arith, ints, low, under, is)))

-- No number equals a later serial.
numbers_below : (s t : ℕ) (ss : List SubGroup) (gs : List Group) → t ≡ s + 1 → AllByRecursion (IsGroup s ss) gs → AllByRecursion (λ (g : Group). int_eq g.row.num (pos t) ≡ false) gs
numbers_below s t ss gs is = all_turned (IsGroup s ss) (λ (g : Group). int_eq g.row.num (pos t) ≡ false) (λ g h. lower_differs g.row.num g.entity.serial s t h.spelt.entity.most h.most is) gs

-- ---- storing an entity

module _ (e : Entity) (num : ℤ) (named : Option ℤ) (old found room rows new : Database) (finds : FindsNaming e named old found) (makes : MakesRoom e num found room) (inserts : InsertsEntity e num named room rows) (raises : RelaysSound (λ l. l.serial < max_serial) with_next_serial rows new) where
  puts_beside : (a : Airspace) (l : Layout) (ss : List SubGroup) (gs : List Group) → Fits (Put e) [] a → l.serial ≡ a.serial → LaysOut room l → Names ss named (subscription_of e.nature) → AreSubs (a.serial + 1) l.subs l.sub_cells ss a.subscriptions
      → AreEntities (a.serial + 1) ss l.entities l.volumes l.cells l.namings gs (remove a.entities (key_of e)) → AreStated l.availabilities a.availabilities → AllByRecursion (λ (g : Group). int_eq g.row.num num ≡ false) gs → (p : Spells old a) → p.subs ≡ ss
      → ((n : ℤ) (k : EntityKey) → IsNumberOf n k p.groups → IsNumberOf n k (placed number (record { row = inserts.row; volumes = inserts.volumes; cells = inserts.cells; naming = named; entity = e }) gs)) → Makes a (with_notified_subs (with_entity a e) (is_one_of [])) old new
  puts_beside a l ss gs fits serial has names subs entities stated other p own keeps =
      let with = with_rows inserts.row inserts.volumes inserts.cells named l in
      let low : l.serial < max_serial = subst (λ n. n < max_serial) (sym serial) fits.room in
      let laid = inserts.relays l tt has in
      let others = subst (λ n. AllByRecursion (λ (g : Group). int_eq g.row.num n ≡ false) gs) (sym inserts.number) other in
      let next = fits.due.0 in
      let joined = entities_joined (a.serial + 1) ss l.entities l.volumes l.cells l.namings gs a.entities e inserts.row inserts.volumes inserts.cells named entities others inserts.spelt names (omega (arith, next)) in
      made_untold old new a (with_entity a e) (made old new a (with_entity a e) p (with_next_serial with) ss _ (raises.0 with low laid) (raises.1 with low laid) (record {
        serial = ap (λ n. n + 1) serial;
        most = let room = fits.room in omega (arith, room);
        subs = subs;
        entities = joined;
        stated = stated;
      }) (λ n k at there. keeps n k at) (λ n k at there. subst (λ ts. IsSubNumber ts n k) own at))

  pub puts_entity : MakesChange (Put e) [] old new
  puts_entity a p fits =
      let same = finds a p in
      let l = layout_of old a p in
      let subs = subs_later _ _ _ _ _ (own_subs old a p) in
      let entities = entities_later _ _ _ _ _ _ _ _ (own_entities old a p) in
      let stated = own_stated old a p in
      elim (subst (λ db. MakesRoom e num db room) same.0 makes a p) [
        | inl there ↦ puts_beside a (without_rows num l) p.subs _ fits refl there.1 same.1 subs (entities_left _ _ _ _ _ _ _ _ num (key_of e) entities there.0) stated (none_left_of number num p.groups) p refl
            (λ n k at. of_at n k _ (replaced_at number pair_of key_cmp key_total key_exact p.groups p.rising num (key_of e) (at_of num (key_of e) p.groups there.0) _ inserts.number refl n k (at_of n k p.groups at)))
        | inr none ↦ puts_beside a l p.subs p.groups fits refl none.2 same.1 subs (entities_stand _ _ _ _ _ _ _ _ (key_of e) entities none.0) stated
            (subst (λ n. AllByRecursion (λ (g : Group). int_eq g.row.num n ≡ false) p.groups) (sym none.1) (numbers_below a.serial e.serial p.subs p.groups fits.due.0 p.each)) p refl (λ n k at. of_at n k _ (placed_at number pair_of key_cmp key_total key_exact _ p.groups n k (at_of n k p.groups at)))
      ]

-- ---- the number of the referenced subscription

pub names_one : (e : Entity) (id : ℕ) (num : ℤ) (old new : Database) → subscription_of e.nature ≡ Some id → FindsSubNumber id (Some num) old new → FindsNaming e (Some num) old new
names_one e id num old new is finds a p = let it = finds a p in (it.0, subst (Names p.subs (Some num)) (sym is) it.1)

pub names_none : (e : Entity) (db : Database) → subscription_of e.nature ≡ None → FindsNaming e None db db
names_none e db is a p = (refl, subst (Names p.subs None) (sym is) tt)
