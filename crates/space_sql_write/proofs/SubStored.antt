-- Proofs about the airspace with a stored subscription.
use Rattle.std.proofs.Common.{◌≡◌, inl, inr, ℕ, ◌+◌, ◌<◌, ◌≤◌, ℤ, pos, List, [], ◌∷◌, ◌++◌, map, filter, false, Option, Some, None, refl, sym, subst, ◌∙◌, ap, arith, int_eq}
use Rattle.std.specs.List.{AllByRecursion}
use Rattle.std.specs.Ordering.{nat_cmp}
use Rattle.std.specs.FinMap.{insert, nat_cmp-IsAntisymmetric, remove}
use Rattle.std.proofs.lemmas.Cmp.{nat_cmp_total}
use Rattle.sqlite_keyed.proofs.ListLemmas.{filter-map}
use Rattle.sqlite.specs.Effect.{Database}
use Rattle.entity_core.specs.Airspace.{Airspace, Subscriptions, with_subscription}
use Rattle.entity_core.specs.declared.subscription.Sub.{Sub}
use Rattle.entity_core.specs.Entity.{subscription_of}
use Rattle.entity_core.specs.Serial.{max_serial}
use Rattle.space_core.specs.declared.space.Change.TheVariants.{PutSub}
use Rattle.space_core.specs.Space.{Fits}
use Rattle.space_rows.specs.declared.rows.SubRow.{SubRow}
use Rattle.space_rows.specs.declared.rows.SubCellRow.{SubCellRow}
use Rattle.space_rows.specs.Subs.{SpellsSub}
use Rattle.space_rows.proofs.Chunks.{all_turned}
use Rattle.space_sql_schema.specs.Spelling.{Spells, IsSubGroup, IsSubNumber, Names, SubGroup, sub_pair_of}
use Rattle.space_sql_write.specs.Layout.{Always, HasSub, LaysOut, Relays, layout_of, with_next_serial, with_sub_cells, with_sub_row, with_sub_rows, without_sub_cells, without_sub_row, without_sub_rows}
use Rattle.space_sql_write.specs.Numbering.{Makes}
use Rattle.space_sql_write.specs.Statements.{FindsSubNumber, RelaysSound, MakesChange}
use Rattle.space_sql_write.specs.SubPutting.{InsertsSub, ReplacesSub, StoresSub}
use Rattle.space_sql_write.proofs.Groups.{alone_of_number, beside, head_beside, is_other, kept_joined, kept_stand, placed, placed_at, replaced_at}
use Rattle.space_sql_write.proofs.Joining.{all_put, put_rises}
use Rattle.space_sql_write.proofs.Putting.{lower_differs}
use Rattle.space_sql_write.proofs.Rows.{none_left_of}
use Rattle.space_sql_write.proofs.Numbered.{at_from, made, number_from, sub_number}
use Rattle.space_sql_write.proofs.SubRemoved.{entities_turned, subs_left}
use Rattle.space_sql_write.proofs.Spelt.{AreEntities, AreSubs, entities_later, lay_out, own_entities, own_stated, own_subs, subs_later}

-- ---- the row of a subscription

-- Only one row has the number.
has_sub : (db : Database) (a : Airspace) (p : Spells db a) (num : ℤ) (id : ℕ) → IsSubNumber p.subs num id → HasSub num (layout_of db a p)
has_sub db a p num id there =
    let it = at_from num id p.subs there in
    record {
      row = it.0.row;
      alone = subst (λ n. filter (λ (s : SubRow). int_eq s.num n) (map (λ (s : SubGroup). s.row) p.subs) ≡ it.0.row ∷ []) it.2
          (filter-map (λ (s : SubRow). int_eq s.num it.0.row.num) (λ (s : SubGroup). s.row) p.subs ∙ ap (map (λ (s : SubGroup). s.row)) (alone_of_number sub_number sub_pair_of nat_cmp nat_cmp_total nat_cmp-IsAntisymmetric p.subs p.subs_rising it.0 it.1));
    }

pub finds_stored : (s : Sub) (num : ℤ) (old found new : Database) → FindsSubNumber s.id (Some num) old found → ReplacesSub s num found new → StoresSub s old new
finds_stored s num old found new finds replaces a p = let it = finds a p in inl (num, it.1, subst (λ db. ReplacesSub s num db new) it.0 replaces)

pub finds_inserted : (s : Sub) (old found new : Database) → FindsSubNumber s.id None old found → InsertsSub s (pos s.serial) found new → StoresSub s old new
finds_inserted s old found new finds inserts a p = let it = finds a p in inr (it.1, subst (λ db. InsertsSub s (pos s.serial) db new) it.0 inserts)

-- ---- its statements in sequence

pub replaces_all : (s : Sub) (num : ℤ) (old cleared updated new : Database) (row : SubRow) (cells : List SubCellRow) → row.num ≡ num → SpellsSub row cells s → Relays Always (without_sub_cells num) old cleared
    → Relays (HasSub row.num) (λ l. with_sub_row row (without_sub_row row.num l)) cleared updated → Relays Always (with_sub_cells cells) updated new → ReplacesSub s num old new
replaces_all s num old cleared updated new row cells number spelt clears updates joins = record {
  row = row;
  cells = cells;
  number = number;
  spelt = spelt;
  relays = λ l one has.
      let left = without_sub_cells num l in
      let alone = subst (λ n. filter (λ (s : SubRow). int_eq s.num n) l.subs ≡ one.row ∷ []) (sym number) one.alone in
      joins (with_sub_row row (without_sub_row num left)) tt (subst (λ n. LaysOut updated (with_sub_row row (without_sub_row n left))) number (updates left (record { row = one.row; alone = alone }) (clears l tt has)));
}

pub inserts_all : (s : Sub) (num : ℤ) (old inserted new : Database) (row : SubRow) (cells : List SubCellRow) → row.num ≡ num → SpellsSub row cells s → Relays Always (with_sub_row row) old inserted → Relays Always (with_sub_cells cells) inserted new → InsertsSub s num old new
inserts_all s num old inserted new row cells number spelt inserts joins = record {
  row = row;
  cells = cells;
  number = number;
  spelt = spelt;
  relays = λ l any has. joins (with_sub_row row l) tt (inserts l tt has);
}

-- ---- its rows beside the others

module _ (n : ℕ) (rows : List SubRow) (cells : List SubCellRow) (ss : List SubGroup) (m : Subscriptions) where
  subs_stand : (id : ℕ) → AreSubs n rows cells ss m → ((num : ℤ) → ¬ IsSubNumber ss num id) → AreSubs n rows cells ss (remove m id)
  subs_stand id are none = record {
    rising = are.rising;
    each = are.each;
    rows_are = are.rows_are;
    cells_are = are.cells_are;
    kept = kept_stand sub_number sub_pair_of nat_cmp nat_cmp_total nat_cmp-IsAntisymmetric ss m are.kept id (λ num it. none num (number_from num id ss it.0 it.1 it.2 it.3));
  }

  module _ (s : Sub) (row : SubRow) (cs : List SubCellRow) where
    abbrev new_group : SubGroup
    new_group = record { row = row; cells = cs; sub = s }

    subs_joined : AreSubs n rows cells ss (remove m s.id) → AllByRecursion (λ (g : SubGroup). int_eq g.row.num row.num ≡ false) ss → SpellsSub row cs s → s.serial ≤ n → s.index ≤ n
        → AreSubs n (rows ++ row ∷ []) (cells ++ cs) (placed sub_number new_group ss) (insert m s.id s)
    subs_joined are other spelt most index = record {
      rising = put_rises sub_number new_group ss other are.rising;
      each = all_put sub_number (IsSubGroup n) new_group ss (record { spelt = spelt; most = most; index = index }) are.each;
      rows_are = head_beside sub_number new_group ss (λ (g : SubGroup). g.row) rows are.rows_are;
      cells_are = beside sub_number new_group ss (λ (g : SubGroup). g.cells) cells are.cells_are;
      kept = kept_joined sub_number sub_pair_of nat_cmp nat_cmp_total nat_cmp-IsAntisymmetric new_group ss m are.kept;
    }

-- No number equals a later serial.
numbers_below : (s t : ℕ) (ss : List SubGroup) → t ≡ s + 1 → AllByRecursion (IsSubGroup s) ss → AllByRecursion (λ (g : SubGroup). int_eq g.row.num (pos t) ≡ false) ss
numbers_below s t ss is = all_turned (IsSubGroup s) (λ (g : SubGroup). int_eq g.row.num (pos t) ≡ false) (λ g h. lower_differs g.row.num g.sub.serial s t h.spelt.sub.most h.most is) ss

-- ---- referenced subscriptions keep their numbers

number_placed : (num : ℤ) (id : ℕ) (new : SubGroup) (ss : List SubGroup) → IsSubNumber ss num id → IsSubNumber (placed sub_number new ss) num id
number_placed num id new ss there =
    let it = placed_at sub_number sub_pair_of nat_cmp nat_cmp_total nat_cmp-IsAntisymmetric new ss num id (at_from num id ss there) in
    number_from num id (placed sub_number new ss) it.0 it.1 it.2 it.3

number_replaced : (db : Database) (a : Airspace) (p : Spells db a) (num : ℤ) (new : SubGroup) → IsSubNumber p.subs num new.sub.id → new.row.num ≡ num → (n : ℤ) (id : ℕ) → IsSubNumber p.subs n id → IsSubNumber (placed sub_number new (filter (is_other sub_number num) p.subs)) n id
number_replaced db a p num new there own n id named =
    let it = replaced_at sub_number sub_pair_of nat_cmp nat_cmp_total nat_cmp-IsAntisymmetric p.subs p.subs_rising num new.sub.id (at_from num new.sub.id p.subs there) new own refl n id (at_from n id p.subs named) in
    number_from n id (placed sub_number new (filter (is_other sub_number num) p.subs)) it.0 it.1 it.2 it.3

pub names_by : (ss ts : List SubGroup) → ((n : ℤ) (id : ℕ) → IsSubNumber ss n id → IsSubNumber ts n id) → (named : Option ℤ) (k : Option ℕ) → Names ss named k → Names ts named k
names_by ss ts turns None None names = names
names_by ss ts turns None (Some k) names = names
names_by ss ts turns (Some n) None names = names
names_by ss ts turns (Some n) (Some k) names = turns n k names

-- ---- storing a subscription

module _ (s : Sub) (old stored new : Database) (raises : RelaysSound (λ l. l.serial < max_serial) with_next_serial stored new) (a : Airspace) (p : Spells old a) (fits : Fits (PutSub s) [] a) where
  abbrev PutsItself : Type 0
  PutsItself = Makes a (with_subscription a s) old new

  entities_by : (ts : List SubGroup) → ((n : ℤ) (id : ℕ) → IsSubNumber p.subs n id → IsSubNumber ts n id) → AreEntities (a.serial + 1) ts (layout_of old a p).entities (layout_of old a p).volumes (layout_of old a p).cells (layout_of old a p).namings p.groups a.entities
  entities_by ts turns = entities_turned _ _ _ _ _ _ _ _ _ (λ g has names. names_by p.subs ts turns g.naming (subscription_of g.entity.nature) names) (entities_later _ _ _ _ _ _ _ _ (own_entities old a p))

  puts_replaced : (num : ℤ) → IsSubNumber p.subs num s.id → ReplacesSub s num old stored → PutsItself
  puts_replaced num there puts =
      let l = layout_of old a p in
      let with = with_sub_rows puts.row puts.cells (without_sub_rows num l) in
      let laid = puts.relays l (has_sub old a p num s.id there) (lay_out old a p) in
      let left = subs_left _ _ _ _ _ num s.id (subs_later _ _ _ _ _ (own_subs old a p)) there in
      let others = subst (λ n. AllByRecursion (λ (g : SubGroup). int_eq g.row.num n ≡ false) (filter (is_other sub_number num) p.subs)) (sym puts.number) (none_left_of sub_number num p.subs) in
      let next = fits.due.0 in
      let joined = subs_joined _ _ _ _ _ s puts.row puts.cells left others puts.spelt (omega (arith, next)) fits.due.1 in
      let keeps = number_replaced old a p num (record { row = puts.row; cells = puts.cells; sub = s }) there puts.number in
      made old new a (with_subscription a s) p (with_next_serial with) _ p.groups (raises.0 with fits.room laid) (raises.1 with fits.room laid) (record {
        serial = refl;
        most = let room = fits.room in omega (arith, room);
        subs = joined;
        entities = entities_by _ keeps;
        stated = own_stated old a p;
      }) (λ n k at there. at) (λ n k at there. keeps n k at)

  puts_inserted : ((num : ℤ) → ¬ IsSubNumber p.subs num s.id) → InsertsSub s (pos s.serial) old stored → PutsItself
  puts_inserted none puts =
      let l = layout_of old a p in
      let with = with_sub_rows puts.row puts.cells l in
      let laid = puts.relays l tt (lay_out old a p) in
      let stand = subs_stand _ _ _ _ _ s.id (subs_later _ _ _ _ _ (own_subs old a p)) none in
      let others = subst (λ n. AllByRecursion (λ (g : SubGroup). int_eq g.row.num n ≡ false) p.subs) (sym puts.number) (numbers_below a.serial s.serial p.subs fits.due.0 p.each_sub) in
      let next = fits.due.0 in
      let joined = subs_joined _ _ _ _ _ s puts.row puts.cells stand others puts.spelt (omega (arith, next)) fits.due.1 in
      let new_group : SubGroup = record { row = puts.row; cells = puts.cells; sub = s } in
      made old new a (with_subscription a s) p (with_next_serial with) _ p.groups (raises.0 with fits.room laid) (raises.1 with fits.room laid) (record {
        serial = refl;
        most = let room = fits.room in omega (arith, room);
        subs = joined;
        entities = entities_by _ (λ n id at. number_placed n id new_group p.subs at);
        stated = own_stated old a p;
      }) (λ n k at there. at) (λ n id at there. number_placed n id new_group p.subs at)

pub puts_sub : (s : Sub) (old stored new : Database) → StoresSub s old stored → RelaysSound (λ l. l.serial < max_serial) with_next_serial stored new → MakesChange (PutSub s) [] old new
puts_sub s old stored new stores raises a p fits = elim (stores a p) [
  | inl there ↦ puts_replaced s old stored new raises a p fits there.0 there.1 there.2
  | inr none ↦ puts_inserted s old stored new raises a p fits none.0 none.1
]
