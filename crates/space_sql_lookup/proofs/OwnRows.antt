-- Proofs about the rows of one entity among those of all.
use Rattle.std.proofs.Common.{◌≡◌, ◌≢◌, inl, inr, ℤ, List, [], ◌∷◌, ◌++◌, map, filter, flat_map, Bool, true, false, cond, codes, refl, sym, ap, ap₂, subst, ◌∙◌, Less, int_eq, append-nil}
use Rattle.std.specs.Prelude.{IsPermutation}
use Rattle.std.specs.List.{AllByRecursion, list_all}
use Rattle.sqlite_keyed.proofs.ListLemmas.{map-flat_map, filter-map, filter_none, filter_same, IsPermutation-filter}
use Rattle.sqlite_rules.specs.Lists.{Has}
use Rattle.sqlite_trees.specs.Tree.{IsAscending}
use Rattle.sqlite_typed.proofs.TestLemmas.{at_ints, last_term}
use Rattle.sqlite_sql.specs.declared.ops.CompareOp.TheVariants.{Eq}
use Rattle.sqlite_tied.specs.Compute.{everything}
use Rattle.sqlite_schema.specs.declared.command.Command.TheVariants.{Select}
use Rattle.sqlite_value.proofs.OrderLemmas.{value_cmp-Int}
use Rattle.sqlite.specs.declared.types.Value.TheVariants.{Null, Int}
use Rattle.sqlite.specs.Order.{Row, column}
use Rattle.sqlite.specs.Term.{Term, col, holds}
use Rattle.sqlite.specs.Effect.{Database, Reads}
use Rattle.sqlite.specs.Listing.{understood}
use Rattle.std.specs.Ordering.{int_cmp}
use Rattle.std.proofs.lemmas.Int.{ints}
use Rattle.std.proofs.Common.{arith}
use Rattle.entity_core.specs.Airspace.{Airspace}
use Rattle.space_rows.specs.declared.rows.VolumeRow.{VolumeRow}
use Rattle.space_rows.specs.declared.rows.CellRow.{CellRow}
use Rattle.space_rows.proofs.Chunks.{Borne, Differ, all_turned}
use Rattle.space_sql_schema.specs.Spelling.{Spells, Group, IsGroup, volume_values, cell_values, six_columns}
use Rattle.space_sql_schema.proofs.Rising.{all_volumes_rise, all_cells_rise}
use Rattle.space_sql_schema.proofs.OneAirspace.{numbers_differ, volumes_borne, cells_borne}
use Rattle.space_sql_select.specs.Rows.{volume_order, cell_order}
use Rattle.space_sql_select.specs.Selecting.{IsSelect, Answers, command_of}
use Rattle.space_sql_lookup.specs.Texts.{own_volumes_read, own_cells_read}
use Rattle.space_sql_select.proofs.Means.{listing}
use Rattle.space_sql_lookup.proofs.Found.{same}
use Rattle.space_sql_select.proofs.Shown.{then_equal}
use Rattle.space_sql_select.proofs.Selected.{selects_one}

-- ---- parts

filter_joined : {X : Type 0} (q : X → Bool) (xs ys : List X) → filter q (xs ++ ys) ≡ filter q xs ++ filter q ys
filter_joined q [] ys = refl
filter_joined q (x ∷ xs) ys = elim (q x) as (λ b. cond b (x ∷ filter q (xs ++ ys)) (filter q (xs ++ ys)) ≡ cond b (x ∷ filter q xs) (filter q xs) ++ filter q ys) [ true ↦ ap (λ l. x ∷ l) (filter_joined q xs ys) | false ↦ filter_joined q xs ys ]

filter_all : {X : Type 0} (q : X → Bool) (xs : List X) → AllByRecursion (λ x. q x ≡ true) xs → filter q xs ≡ xs
filter_all q [] all = refl
filter_all q (x ∷ xs) all = rw all.0 (ap (λ l. x ∷ l) (filter_all q xs all.1))

pub equal_numbers : (m n : ℤ) → m ≡ n → int_eq m n ≡ true
equal_numbers m n e = grind (arith, ints, e)

pub other_numbers : (m n : ℤ) → m ≢ n → int_eq m n ≡ false
other_numbers m n e = grind (arith, ints, e)

module _ {A B : Type 0} (key : B → ℤ) (of : A → ℤ) (f : A → List B) where
  abbrev bears : ℤ → B → Bool
  bears n b = int_eq (key b) n

  none_borne : (n : ℤ) (xs : List A) → Borne key of f xs → AllByRecursion (λ y. of y ≢ n) xs → filter (bears n) (flat_map f xs) ≡ []
  none_borne n [] borne other = refl
  none_borne n (x ∷ xs) borne other =
      filter_joined (bears n) (f x) (flat_map f xs)
      ∙ ap₂ ◌++◌ (filter_none (bears n) (f x) (all_turned (λ b. key b ≡ of x) (λ b. bears n b ≡ false) (λ b e. other_numbers (key b) n (λ d. other.0 (sym e ∙ d))) (f x) borne.0)) (none_borne n xs borne.1 other.1)

  has_all : (P : A → Type 0) (xs : List A) (a : A) → AllByRecursion P xs → Has xs a → P a
  has_all P [] a all has = absurd has
  has_all P (x ∷ xs) a all (inl e) = subst P (sym e) all.0
  has_all P (x ∷ xs) a all (inr has) = has_all P xs a all.1 has

  -- The elements with a key are the part of that key.
  pub own_of : (xs : List A) (a : A) → Borne key of f xs → Differ of xs → Has xs a → filter (bears (of a)) (flat_map f xs) ≡ f a
  own_of [] a borne apart has = absurd has
  own_of (x ∷ xs) a borne apart (inl e) =
      subst (λ (y : A). filter (bears (of y)) (flat_map f (x ∷ xs)) ≡ f y) (sym e)
      (filter_joined (bears (of x)) (f x) (flat_map f xs)
      ∙ (ap₂ ◌++◌ (filter_all (bears (of x)) (f x) (all_turned (λ b. key b ≡ of x) (λ b. bears (of x) b ≡ true) (λ b e. equal_numbers (key b) (of x) e) (f x) borne.0))
      (none_borne (of x) xs borne.1 (all_turned (λ y. of x ≢ of y) (λ y. of y ≢ of x) (λ y d e. d (sym e)) xs apart.0)) ∙ append-nil (f x)))
  own_of (x ∷ xs) a borne apart (inr has) =
      let other = has_all (λ y. of x ≢ of y) xs a apart.0 has in
      filter_joined (bears (of a)) (f x) (flat_map f xs)
      ∙ ap₂ ◌++◌ (filter_none (bears (of a)) (f x) (all_turned (λ b. key b ≡ of x) (λ b. bears (of a) b ≡ false) (λ b e. other_numbers (key b) (of a) (λ d. other (sym e ∙ d))) (f x) borne.0)) (own_of xs a borne.1 apart.1 has)

-- ---- volumes and cells

pub own_volumes_select : IsSelect own_volumes_read
unfolding understood everything
own_volumes_select = record { plain = (refl, refl); unlisted = refl }

own_volumes_is : command_of own_volumes_read ≡ Select (record { lets = []; body = listing 3 (same (col 1 1) (col 0 0) ∷ []) (1 ∷ 2 ∷ 3 ∷ 4 ∷ 5 ∷ 6 ∷ []) (1 ∷ 2 ∷ []) }) (codes "entity" ∷ codes "place" ∷ codes "alt_lower" ∷ codes "alt_upper" ∷ codes "time_start" ∷ codes "time_end" ∷ [])
unfolding understood everything
own_volumes_is = refl

pub own_cells_select : IsSelect own_cells_read
unfolding understood everything
own_cells_select = record { plain = (refl, refl); unlisted = refl }

own_cells_is : command_of own_cells_read ≡ Select (record { lets = []; body = listing 5 (same (col 1 1) (col 0 0) ∷ []) (1 ∷ 2 ∷ 3 ∷ 4 ∷ 5 ∷ 6 ∷ []) (1 ∷ 2 ∷ 3 ∷ []) }) (codes "entity" ∷ codes "volume" ∷ codes "place" ∷ codes "token" ∷ codes "lo" ∷ codes "hi" ∷ [])
unfolding understood everything
own_cells_is = refl

-- Returns true if the columns are those of the entity with the number.
abbrev is_own : ℤ → Row → Bool
is_own num c = list_all (holds ((Int num ∷ []) ∷ (Null ∷ c) ∷ [])) (same (col 1 1) (col 0 0) ∷ [])

abbrev tests : List Term
tests = same (col 1 1) (col 0 0) ∷ []

pub alone : (P : Group → Type 0) (g : Group) (gs : List Group) → AllByRecursion P gs → Has gs g → P g
alone P g [] each has = absurd has
alone P g (h ∷ gs) each (inl e) = subst P (sym e) each.0
alone P g (h ∷ gs) each (inr has) = alone P g gs each.1 has

module _ (db : Database) (a : Airspace) (s : Spells db a) (g : Group) (there : Has s.groups g) (rows : List Row) where
  own : IsGroup a.serial s.subs g
  own = alone (IsGroup a.serial s.subs) g s.groups s.each there

  pub own_volumes_shown : Answers own_volumes_read (Int g.row.num ∷ []) db rows → rows ≡ map volume_values g.volumes
  own_volumes_shown h =
      let read = subst (λ k. Reads k db (Int g.row.num ∷ []) rows) own_volumes_is h in
      let rises = subst (IsAscending (λ x y. volume_order x y ≡ Less)) (append-nil g.volumes) (all_volumes_rise a.serial s.subs (g ∷ []) (own, tt) (tt, tt)) in
      let stored = IsPermutation-filter (is_own g.row.num) _ _ s.volumes in
      let mine = filter-map (is_own g.row.num) six_columns (db.trees 3) in
      let theirs = ap (filter (is_own g.row.num)) (sym (map-flat_map volume_values (λ (g : Group). g.volumes) s.groups)) ∙ (filter-map (is_own g.row.num) volume_values (flat_map (λ (g : Group). g.volumes) s.groups)
      ∙ ap (map volume_values) (filter_same (λ v. is_own g.row.num (volume_values v)) (λ (v : VolumeRow). int_eq v.entity g.row.num) (λ v. last_term (at_ints false Eq v.entity g.row.num)) (flat_map (λ (g : Group). g.volumes) s.groups)
      ∙ own_of (λ (v : VolumeRow). v.entity) (λ (g : Group). g.row.num) (λ (g : Group). g.volumes) s.groups g (volumes_borne a.serial s.subs s.groups s.each) (numbers_differ s.groups s.rising) there)) in
      selects_one 3 tests (1 ∷ 2 ∷ 3 ∷ 4 ∷ 5 ∷ 6 ∷ []) (1 ∷ 2 ∷ []) db.trees (Int g.row.num ∷ []) rows refl (read.answer Null) volume_values six_columns (λ c. (column c 0 ∷ column c 1 ∷ [], c)) volume_order (λ r. refl) (λ c. refl)
      (λ x y e. rw (value_cmp-Int x.entity y.entity, value_cmp-Int x.place y.place, then_equal (int_cmp x.place y.place)) e) g.volumes rises
      (subst (λ l. IsPermutation (map volume_values g.volumes) l) mine (subst (λ l. IsPermutation l (filter (is_own g.row.num) (map six_columns (db.trees 3)))) theirs stored))

  pub own_cells_shown : Answers own_cells_read (Int g.row.num ∷ []) db rows → rows ≡ map cell_values g.cells
  own_cells_shown h =
      let read = subst (λ k. Reads k db (Int g.row.num ∷ []) rows) own_cells_is h in
      let rises = subst (IsAscending (λ x y. cell_order x y ≡ Less)) (append-nil g.cells) (all_cells_rise a.serial s.subs (g ∷ []) (own, tt) (tt, tt)) in
      let stored = IsPermutation-filter (is_own g.row.num) _ _ s.cells in
      let mine = filter-map (is_own g.row.num) six_columns (db.trees 5) in
      let theirs = ap (filter (is_own g.row.num)) (sym (map-flat_map cell_values (λ (g : Group). g.cells) s.groups)) ∙ (filter-map (is_own g.row.num) cell_values (flat_map (λ (g : Group). g.cells) s.groups)
      ∙ ap (map cell_values) (filter_same (λ v. is_own g.row.num (cell_values v)) (λ (v : CellRow). int_eq v.entity g.row.num) (λ v. last_term (at_ints false Eq v.entity g.row.num)) (flat_map (λ (g : Group). g.cells) s.groups)
      ∙ own_of (λ (v : CellRow). v.entity) (λ (g : Group). g.row.num) (λ (g : Group). g.cells) s.groups g (cells_borne a.serial s.subs s.groups s.each) (numbers_differ s.groups s.rising) there)) in
      selects_one 5 tests (1 ∷ 2 ∷ 3 ∷ 4 ∷ 5 ∷ 6 ∷ []) (1 ∷ 2 ∷ 3 ∷ []) db.trees (Int g.row.num ∷ []) rows refl (read.answer Null) cell_values six_columns (λ c. (column c 0 ∷ column c 1 ∷ column c 2 ∷ [], c)) cell_order (λ r. refl) (λ c. refl)
      (λ x y e. rw (value_cmp-Int x.entity y.entity, value_cmp-Int x.volume y.volume, value_cmp-Int x.place y.place, then_equal (int_cmp x.place y.place)) e) g.cells rises
      (subst (λ l. IsPermutation (map cell_values g.cells) l) mine (subst (λ l. IsPermutation l (filter (is_own g.row.num) (map six_columns (db.trees 5)))) theirs stored))
