-- Proofs that the gathered rows are those of groups of entities.
use Rattle.std.proofs.Common.{◌≡◌, ℕ, ℤ, List, [], ◌∷◌, ◌++◌, map, flat_map, Option, Some, None, refl, sym, ap, subst, ◌∙◌, Less}
use Rattle.std.specs.Prelude.{IsPermutation}
use Rattle.std.specs.List.{AllByRecursion}
use Rattle.std.specs.Ordering.{int_cmp}
use Rattle.std.specs.FinMap.{insert, entries}
use Rattle.std.proofs.lemmas.Cmp.{int_cmp_total}
use Rattle.std.proofs.lemmas.List.Sorted.{IsPermutation-trans, IsPermutation-sym}
use Rattle.sqlite_keyed.proofs.ListLemmas.{IsPermutation-same}
use Rattle.sqlite_trees.specs.Tree.{IsAscending}
use Rattle.sqlite.specs.Order.{Row}
use Rattle.entity_core.specs.Airspace.{Entities, key_cmp, key_of}
use Rattle.entity_core.specs.Entity.{subscription_of}
use Rattle.entity_core.proofs.Keys.{key_total}
use Rattle.space_rows.specs.declared.rows.EntityRow.{EntityRow}
use Rattle.space_rows.specs.Rows.{SpellsEntity}
use Rattle.space_rows.proofs.Chunks.{all_turned}
use Rattle.space_sql_schema.specs.Spelling.{Group, SubGroup, IsGroup, IsBefore, IsSubBefore, Names, pair_of, naming_rows, naming_rows_of}
use Rattle.space_sql_schema.proofs.Rising.{ascending_flat}
use Rattle.space_sql_schema.proofs.OneAirspace.{one_map}
use Rattle.space_sql_select.specs.declared.sub_rows.NamingRow.{NamingRow}
use Rattle.space_sql_select.specs.Rows.{naming_order, values_of_naming}
use Rattle.space_sql_select.proofs.MapEntries.{new_key, moves_in}
use Rattle.space_sql_load.specs.Gathering.{Gathers, Parts, parts_of}
use Rattle.space_sql_load.proofs.SubGroups.{numbers_of}
use Rattle.space_sql_load.proofs.Names.{naming_list, names_from, named_by}
use Rattle.space_sql_load.proofs.Written.{all_written}

-- ---- rows of naming

abbrev pub naming_list_of : Group → List NamingRow
naming_list_of g = naming_list g.row.num g.naming

pub namings_as_rows : (gs : List Group) → flat_map naming_rows_of gs ≡ map values_of_naming (flat_map naming_list_of gs)
namings_as_rows [] = refl
namings_as_rows (g ∷ gs) = go g.naming (namings_as_rows gs)
  where
    go : (naming : Option ℤ) → flat_map naming_rows_of gs ≡ map values_of_naming (flat_map naming_list_of gs) → naming_rows g.row.num naming ++ flat_map naming_rows_of gs ≡ map values_of_naming (naming_list g.row.num naming ++ flat_map naming_list_of gs)
    go None more = more
    go (Some at) more = ap (λ (l : List Row). values_of_naming (record { entity = g.row.num; subscription = at }) ∷ l) more

abbrev NamingLess : NamingRow → NamingRow → Type 0
NamingLess x y = naming_order x y ≡ Less

cross : (m n : ℤ) (x y : Option ℤ) → int_cmp m n ≡ Less → AllByRecursion (λ r. AllByRecursion (NamingLess r) (naming_list n y)) (naming_list m x)
cross m n None y h = tt
cross m n (Some a) None h = (tt, tt)
cross m n (Some a) (Some b) h = ((h, tt), tt)

own : (n : ℤ) (x : Option ℤ) → IsAscending NamingLess (naming_list n x)
own n None = tt
own n (Some a) = (tt, tt)

pub namings_rise : (gs : List Group) → IsAscending IsBefore gs → IsAscending NamingLess (flat_map naming_list_of gs)
namings_rise gs up = ascending_flat NamingLess IsBefore (λ _. Unit {0}) naming_list_of (λ g h _ _ less. cross g.row.num h.row.num g.naming h.naming less) (λ g _. own g.row.num g.naming) gs (all_written gs) up

-- ---- groups

abbrev pub parts_in : List Group → Parts
parts_in gs = parts_of (flat_map (λ (g : Group). g.volumes) gs) (flat_map (λ (g : Group). g.cells) gs) (flat_map naming_list_of gs)

module _ (serial : ℕ) (subs : List SubGroup) where
  pub record AreGroups (last : ℤ) (rows : List EntityRow) (parts : Parts) (m n : Entities) : Type 0 where
    pub groups : List Group
    pub rows_are : map (λ (g : Group). g.row) groups ≡ rows
    pub parts_are : parts_in groups ≡ parts
    pub each : AllByRecursion (IsGroup serial subs) groups
    pub rising : IsAscending IsBefore groups
    pub above : AllByRecursion (λ (g : Group). int_cmp last g.row.num ≡ Less) groups
    pub is : IsPermutation (map pair_of groups ++ entries m) (entries n)

  pub groups_from : (last : ℤ) (rows : List EntityRow) (parts : Parts) (m n : Entities) → Gathers serial (numbers_of subs) last rows parts m n → AreGroups last rows parts m n
  groups_from last [] parts m n h = record { groups = []; rows_are = refl; parts_are = sym h.0; each = tt; rising = tt; above = tt; is = IsPermutation-same _ _ (ap entries h.1) }
  groups_from last (r ∷ rows) parts m n h =
      let s = h.0 in
      let names = names_from subs r.num s.own.namings s.named s.names in
      let g : Group = record { row = r; volumes = s.own.volumes; cells = s.own.cells; naming = names.0; entity = s.entity } in
      let more = groups_from r.num rows s.more (insert m (key_of s.entity) s.entity) n h.1 in
      let called = s.next.spelt.named_is in
      record {
        groups = g ∷ more.groups;
        rows_are = ap (λ l. r ∷ l) more.rows_are;
        parts_are = (λ i. parts_of (s.own.volumes ++ (more.parts_are i).volumes) (s.own.cells ++ (more.parts_are i).cells) (sym names.1 i ++ (more.parts_are i).namings)) ∙ sym s.parts_are;
        each = (
          record {
            spelt = subst (λ k. SpellsEntity r s.own.volumes s.own.cells k s.entity) called s.next.spelt;
            names = subst (Names subs names.0) called names.2;
            most = s.next.most;
          },
          more.each,
        );
        rising = (more.above, more.rising);
        above = (s.next.rising, all_turned (λ (h : Group). int_cmp r.num h.row.num ≡ Less) (λ h. int_cmp last h.row.num ≡ Less) (λ h e. int_cmp_total.trans last r.num h.row.num s.next.rising e) more.groups more.above);
        is = IsPermutation-trans _ _ _ (IsPermutation-sym _ _ (moves_in key_cmp key_total m (pair_of g) (map pair_of more.groups) s.next.new)) more.is;
      }

  pub gathers_from : IsAscending IsSubBefore subs → (last : ℤ) (gs : List Group) (m n : Entities) → AllByRecursion (IsGroup serial subs) gs → IsAscending IsBefore gs → AllByRecursion (λ (g : Group). int_cmp last g.row.num ≡ Less) gs
      → IsPermutation (map pair_of gs ++ entries m) (entries n) → Gathers serial (numbers_of subs) last (map (λ (g : Group). g.row) gs) (parts_in gs) m n
  gathers_from rise last [] m n each up above is = (refl, one_map key_cmp key_total m n is)
  gathers_from rise last (g ∷ gs) m n each up above is =
      let new = new_key key_cmp key_total m n (pair_of g) (map pair_of gs) is in (
        record {
          own = parts_of g.volumes g.cells (naming_list_of g);
          more = parts_in gs;
          named = subscription_of g.entity.nature;
          entity = g.entity;
          parts_are = refl;
          names = named_by subs rise g.row.num g.naming (subscription_of g.entity.nature) each.0.names;
          next = record { rising = above.0; spelt = each.0.spelt; most = each.0.most; new = new };
        },
        gathers_from rise g.row.num gs (insert m (key_of g.entity) g.entity) n each.1 up.1 up.0 (IsPermutation-trans _ _ _ (moves_in key_cmp key_total m (pair_of g) (map pair_of gs) new) is),
      )
