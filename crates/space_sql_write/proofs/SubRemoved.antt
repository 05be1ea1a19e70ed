-- Proofs about the airspace without a removed subscription.
use Rattle.std.proofs.Common.{◌≡◌, inl, inr, ℕ, ◌<◌, ℤ, List, [], ◌∷◌, map, filter, not, true, false, Option, Some, None, refl, sym, ap, subst, ◌∙◌, arith, int_eq, nat_eq}
use Rattle.std.specs.Prelude.{IsSome}
use Rattle.std.specs.List.{AllByRecursion}
use Rattle.std.specs.Ordering.{nat_cmp}
use Rattle.std.specs.FinMap.{entries, get, nat_cmp-IsAntisymmetric, remove}
use Rattle.std.proofs.lemmas.Bool.{cases_Bool, eq-eqb}
use Rattle.std.proofs.lemmas.Cmp.{nat_cmp_total}
use Rattle.std.proofs.lemmas.List.Sorted.{IsPermutation-sym}
use Rattle.sqlite_keyed.proofs.ListLemmas.{all-filter, all-flat_map, ascending-filter}
use Rattle.sqlite_keyed.proofs.KeyedLemmas.{same_int}
use Rattle.sqlite_rules.specs.Lists.{Has}
use Rattle.sqlite.specs.Effect.{Database}
use Rattle.entity_core.specs.Airspace.{Airspace, Entities, EntityKey, Subscriptions, without_subscription}
use Rattle.entity_core.specs.declared.entity.Entity.{Entity}
use Rattle.entity_core.specs.Entity.{subscription_of}
use Rattle.entity_core.specs.Search.{dependents_in, is_id, is_naming}
use Rattle.entity_core.specs.Serial.{max_serial}
use Rattle.entity_purge.specs.declared.purge_item.PurgeItem.TheVariants.{Subscription}
use Rattle.entity_purge.specs.Purge.{less_subscription}
use Rattle.space_core.specs.declared.space.Change.TheVariants.{RemoveSub}
use Rattle.space_rows.specs.declared.rows.EntityRow.{EntityRow}
use Rattle.space_rows.specs.declared.rows.VolumeRow.{VolumeRow}
use Rattle.space_rows.specs.declared.rows.CellRow.{CellRow}
use Rattle.space_rows.specs.declared.rows.SubRow.{SubRow}
use Rattle.space_rows.specs.declared.rows.SubCellRow.{SubCellRow}
use Rattle.space_rows.proofs.Chunks.{Borne, all_turned}
use Rattle.space_sql_schema.specs.Spelling.{Spells, Group, IsGroup, IsSubBefore, IsSubGroup, IsSubNumber, Names, SubGroup, pair_of, sub_pair_of}
use Rattle.space_sql_schema.proofs.OneAirspace.{one_number, sub_numbers_differ}
use Rattle.space_sql_schema.proofs.Rising.{sub_cells_of}
use Rattle.space_sql_write.specs.Layout.{IsUnnamed, LaysOut, Naming, Relays, layout_of, namings_of, with_next_serial, without_sub_rows}
use Rattle.space_sql_write.specs.Statements.{FindsSubNumber, RelaysSound, MakesChange, MakesLess}
use Rattle.space_sql_write.proofs.Groups.{heads_left, is_other, kept_left, left_at, others_left}
use Rattle.space_sql_write.proofs.Numbered.{at_from, made, number_from, sub_number}
use Rattle.space_sql_write.proofs.Lists.{all_from, all_there, has_filtered, mapped_there, moved}
use Rattle.space_sql_write.proofs.Spelt.{AreEntities, AreSubs, entities_later, lay_out, own_entities, own_namings, own_stated, own_subs, subs_later}

-- The subscriptions with other numbers keep them.
pub others_number : (num n : ℤ) (id : ℕ) (ss : List SubGroup) → int_eq n num ≡ false → IsSubNumber ss n id → IsSubNumber (filter (is_other sub_number num) ss) n id
others_number num n id ss other there =
    let it = at_from n id ss there in
    number_from n id (filter (is_other sub_number num) ss) it.0 (has_filtered (is_other sub_number num) ss it.0 it.1 (ap (λ m. not (int_eq m num)) it.2 ∙ ap not other)) it.2 it.3

-- References of entities stay valid if each referenced subscription keeps its number.
pub names_turned : (n : ℕ) (ss ts : List SubGroup) (gs : List Group) → ((g : Group) → Has gs g → Names ss g.naming (subscription_of g.entity.nature) → Names ts g.naming (subscription_of g.entity.nature)) → AllByRecursion (IsGroup n ss) gs → AllByRecursion (IsGroup n ts) gs
names_turned n ss ts gs turns each = all_from (IsGroup n ts) gs (λ g there. let h = all_there (IsGroup n ss) gs each g there in record { spelt = h.spelt; names = turns g there h.names; most = h.most })

pub entities_turned : (n : ℕ) (ss ts : List SubGroup) (rows : List EntityRow) (volumes : List VolumeRow) (cells : List CellRow) (namings : List Naming) (gs : List Group) (m : Entities) → ((g : Group) → Has gs g → Names ss g.naming (subscription_of g.entity.nature) → Names ts g.naming (subscription_of g.entity.nature))
    → AreEntities n ss rows volumes cells namings gs m → AreEntities n ts rows volumes cells namings gs m
entities_turned n ss ts rows volumes cells namings gs m turns are = record { rising = are.rising; each = names_turned n ss ts gs turns are.each; rows_are = are.rows_are; volumes_are = are.volumes_are; cells_are = are.cells_are; namings_are = are.namings_are; kept = are.kept }

-- ---- the remaining rows are those of the other subscriptions

cells_borne : (n : ℕ) (ss : List SubGroup) → AllByRecursion (IsSubGroup n) ss → Borne (λ (c : SubCellRow). c.subscription) sub_number (λ (s : SubGroup). s.cells) ss
cells_borne n ss each = all_turned (IsSubGroup n) (λ s. AllByRecursion (λ (c : SubCellRow). c.subscription ≡ s.row.num) s.cells) (λ s p. sub_cells_of s.row.num s.cells _ p.spelt.cells_are) ss each

pub subs_left : (n : ℕ) (rows : List SubRow) (cells : List SubCellRow) (ss : List SubGroup) (m : Subscriptions) (num : ℤ) (id : ℕ) → AreSubs n rows cells ss m → IsSubNumber ss num id
    → AreSubs n (filter (λ (s : SubRow). not (int_eq s.num num)) rows) (filter (λ (c : SubCellRow). not (int_eq c.subscription num)) cells) (filter (is_other sub_number num) ss) (remove m id)
subs_left n rows cells ss m num id are there = record {
  rising = ascending-filter IsSubBefore _ ss are.rising;
  each = all-filter (IsSubGroup n) _ ss are.each;
  rows_are = heads_left (λ (s : SubRow). s.num) (λ (s : SubGroup). s.row) num ss rows are.rows_are;
  cells_are = others_left sub_number (λ (c : SubCellRow). c.subscription) (λ (s : SubGroup). s.cells) num ss cells (cells_borne n ss are.each) are.cells_are;
  kept = kept_left sub_number sub_pair_of nat_cmp nat_cmp_total nat_cmp-IsAntisymmetric ss are.rising m are.kept num id (at_from num id ss there);
}

-- ---- subscriptions that no intent references

no_map : {X Y : Type 0} (f : X → Y) (xs : List X) → map f xs ≡ [] → xs ≡ []
no_map f [] e = refl
no_map f (x ∷ xs) e = absurd (let none = e in cc)

none_names : (m : Entities) (id : ℕ) → dependents_in m id ≡ [] → filter (is_naming id) (entries m) ≡ []
unfolding dependents_in
none_names m id e = no_map (λ (x : EntityKey × Entity). x.1) (filter (is_naming id) (entries m)) (no_map (λ (x : Entity). x.id) (map (λ (x : EntityKey × Entity). x.1) (filter (is_naming id) (entries m))) e)

same_id : (id : ℕ) → nat_eq id id ≡ true
same_id id = eq-eqb id id refl

module _ (db : Database) (a : Airspace) (p : Spells db a) (num : ℤ) (id : ℕ) (there : IsSubNumber p.subs num id) (free : dependents_in a.entities id ≡ []) where
  -- The entity does not reference the subscription by its id.
  not_by_id : (g : Group) → Has p.groups g → ¬ (subscription_of g.entity.nature ≡ Some id)
  not_by_id g has e =
      let passes : is_naming id (pair_of g) ≡ true = ap (is_id id) e ∙ same_id id in
      let kept = moved (entries a.entities) (map pair_of p.groups) (pair_of g) (IsPermutation-sym _ _ p.kept) (mapped_there pair_of p.groups g has) in
      let found = has_filtered (is_naming id) (entries a.entities) (pair_of g) kept passes in
      subst (λ xs. Has xs (pair_of g)) (none_names a.entities id free) found

  -- The entity does not reference the subscription by its number.
  not_by_number : (g : Group) → Has p.groups g → (named : Option ℕ) → subscription_of g.entity.nature ≡ named → Names p.subs (Some num) named → ⊥
  not_by_number g has None e names = names
  not_by_number g has (Some k) e names = not_by_id g has (e ∙ ap Some (one_number num k id p.subs (sub_numbers_differ p.subs p.subs_rising) names there))

  other_number : (g : Group) → Has p.groups g → (n : ℤ) → Names p.subs (Some n) (subscription_of g.entity.nature) → int_eq n num ≡ false
  other_number g has n names = elim (cases_Bool (int_eq n num)) [
    | inl same ↦ absurd (not_by_number g has (subscription_of g.entity.nature) refl (subst (λ m. Names p.subs (Some m) (subscription_of g.entity.nature)) (same_int n num same) names))
    | inr other ↦ other
  ]

  namings_other : (g : Group) → Has p.groups g → (named : Option ℤ) → Names p.subs named (subscription_of g.entity.nature) → AllByRecursion (λ (n : Naming). int_eq n.1 num ≡ false) (namings_of g.row.num named)
  namings_other g has None names = tt
  namings_other g has (Some n) names = (other_number g has n names, tt)

  pub is_unnamed : IsUnnamed num (layout_of db a p)
  is_unnamed = all-flat_map (λ (n : Naming). int_eq n.1 num ≡ false) own_namings p.groups (all_from _ p.groups (λ g has. namings_other g has g.naming (all_there (IsGroup a.serial p.subs) p.groups p.each g has).names))

  names_left : (g : Group) → Has p.groups g → (named : Option ℤ) (k : Option ℕ) → (subscription_of g.entity.nature ≡ k) → Names p.subs named k → Names (filter (is_other sub_number num) p.subs) named k
  names_left g has None None e names = names
  names_left g has None (Some k) e names = names
  names_left g has (Some n) None e names = names
  names_left g has (Some n) (Some k) e names = others_number num n k p.subs (other_number g has n (subst (Names p.subs (Some n)) (sym e) names)) names

  pub entities_unnamed : AreEntities a.serial (filter (is_other sub_number num) p.subs) (layout_of db a p).entities (layout_of db a p).volumes (layout_of db a p).cells (layout_of db a p).namings p.groups a.entities
  entities_unnamed = entities_turned _ _ _ _ _ _ _ _ _ (λ g has names. names_left g has g.naming (subscription_of g.entity.nature) refl names) (own_entities db a p)

-- The remaining subscriptions keep their numbers.
sub_numbers_left : (db : Database) (a : Airspace) (p : Spells db a) (num : ℤ) (id : ℕ) → IsSubNumber p.subs num id → (n : ℤ) (k : ℕ) → IsSubNumber p.subs n k → IsSome (get (remove a.subscriptions id) k) → IsSubNumber (filter (is_other sub_number num) p.subs) n k
sub_numbers_left db a p num id it n k at there =
    let left = left_at sub_number sub_pair_of nat_cmp nat_cmp_total nat_cmp-IsAntisymmetric p.subs p.subs_rising num id (at_from num id p.subs it) a.subscriptions n k (at_from n k p.subs at) there in
    number_from n k _ left.0 left.1 left.2 left.3

-- If the number is found and its rows are removed, the subscription is purged. The serial stays.
pub lets_sub_go : (old found new : Database) (id : ℕ) (num : ℤ) → FindsSubNumber id (Some num) old found → RelaysSound (IsUnnamed num) (without_sub_rows num) found new → MakesLess (Subscription id) old new
lets_sub_go old found new id num finds clears a p can =
    let it = finds a p in
    let l = layout_of old a p in
    let has = subst (λ db. LaysOut db l) (sym it.0) (lay_out old a p) in
    let unnamed = is_unnamed old a p num id it.1 can.1 in
    made old new a (less_subscription a id) p (without_sub_rows num l) (filter (is_other sub_number num) p.subs) p.groups (clears.0 l unnamed has) (clears.1 l unnamed has) (record {
      serial = refl;
      most = p.most;
      subs = subs_left _ _ _ _ _ num id (own_subs old a p) it.1;
      entities = entities_unnamed old a p num id it.1 can.1;
      stated = own_stated old a p;
    }) (λ n k at there. at) (sub_numbers_left old a p num id it.1)

-- If the number is found, its rows are removed and the serial increases by one, the subscription is
-- removed.
pub removes_sub : (old found left new : Database) (id : ℕ) (num : ℤ) → FindsSubNumber id (Some num) old found → Relays (IsUnnamed num) (without_sub_rows num) found left → RelaysSound (λ l. l.serial < max_serial) with_next_serial left new
    → MakesChange (RemoveSub id) [] old new
removes_sub old found left new id num finds clears raises a p fits =
    let it = finds a p in
    let l = layout_of old a p in
    let has = subst (λ db. LaysOut db l) (sym it.0) (lay_out old a p) in
    let cleared = clears l (is_unnamed old a p num id it.1 fits.due.1) has in
    made old new a (without_subscription a id) p (with_next_serial (without_sub_rows num l)) (filter (is_other sub_number num) p.subs) p.groups (raises.0 (without_sub_rows num l) fits.room cleared) (raises.1 (without_sub_rows num l) fits.room cleared) (record {
      serial = refl;
      most = let room = fits.room in omega (arith, room);
      subs = subs_left _ _ _ _ _ num id (subs_later _ _ _ _ _ (own_subs old a p)) it.1;
      entities = entities_later _ _ _ _ _ _ _ _ (entities_unnamed old a p num id it.1 fits.due.1);
      stated = own_stated old a p;
    }) (λ n k at there. at) (sub_numbers_left old a p num id it.1)
