-- Proofs that the subscription that is read is the one that the tables represent.
use Rattle.std.proofs.Common.{◌≡◌, ◌≢◌, ◌⊎◌, inl, inr, ℕ, ℤ, ◌<◌, ◌^◌, List, [], ◌∷◌, map, filter, flat_map, Bool, false, Option, Some, None, refl, sym, ap, subst, ◌∙◌, Less, int_eq, append-nil}
use Rattle.std.specs.Prelude.{IsPermutation, IfSome}
use Rattle.std.specs.List.{AllByRecursion, list_all}
use Rattle.std.specs.Ordering.{int_cmp}
use Rattle.std.specs.FinMap.{get}
use Rattle.sqlite_keyed.proofs.ListLemmas.{map-flat_map, filter-map, filter_same, IsPermutation-filter}
use Rattle.sqlite_rules.specs.Lists.{Has}
use Rattle.sqlite_rules.proofs.ListLemmas.{all_has}
use Rattle.sqlite_trees.specs.Tree.{IsAscending}
use Rattle.sqlite_typed.proofs.TestLemmas.{at_ints, last_term}
use Rattle.sqlite_value.proofs.OrderLemmas.{value_cmp-Int}
use Rattle.sqlite_sql.specs.declared.ops.CompareOp.TheVariants.{Eq}
use Rattle.sqlite.specs.declared.types.Value.TheVariants.{Null, Int}
use Rattle.sqlite.specs.Order.{Row, column}
use Rattle.sqlite.specs.Term.{holds}
use Rattle.sqlite.specs.Effect.{Database, Reads}
use Rattle.entity_core.specs.declared.subscription.Sub.{Sub}
use Rattle.entity_core.specs.Airspace.{Airspace}
use Rattle.space_rows.specs.declared.rows.SubRow.{SubRow}
use Rattle.space_rows.specs.declared.rows.SubCellRow.{SubCellRow}
use Rattle.space_rows.specs.Subs.{SpellsSub}
use Rattle.space_rows.proofs.Chunks.{Borne, all_turned}
use Rattle.space_sql_schema.specs.Spelling.{Spells, SubGroup, IsSubGroup, sub_values, sub_cell_values, sub_columns, five_columns}
use Rattle.space_sql_schema.proofs.Rising.{sub_cell_cmp, sub_cells_of, all_sub_cells_rise}
use Rattle.space_sql_schema.proofs.OneAirspace.{sub_numbers_differ}
use Rattle.space_sql_select.proofs.Shown.{then_equal}
use Rattle.space_sql_select.proofs.Selected.{selects_one}
use Rattle.space_sql_lookup.specs.SubscriptionRows.{AnswersSubCells, FindsSubOfHead}
use Rattle.space_sql_lookup.specs.Subscription.{AnswersSubNumber, FindsSubNumbered}
use Rattle.space_sql_lookup.specs.Subscription.{AnswersSub, FindsSub}
use Rattle.space_sql_lookup.proofs.Commands.{by_key, by_first, own_sub_cells_is, sub_numbered_is}
use Rattle.space_sql_lookup.proofs.OwnRows.{own_of}
use Rattle.space_sql_lookup.proofs.Picked.{selects_from, has_or_not, one_shown, none_shown}
use Rattle.space_sql_lookup.proofs.SubHeads.{ShowsSub, sub_shown}

-- ---- cells

-- Returns true if the columns are those of the subscription with the number.
abbrev is_own : ℤ → Row → Bool
is_own num c = list_all (holds ((Int num ∷ []) ∷ (Null ∷ c) ∷ [])) by_first

cells_borne : (serial : ℕ) (ts : List SubGroup) → AllByRecursion (IsSubGroup serial) ts → Borne (λ (c : SubCellRow). c.subscription) (λ (t : SubGroup). t.row.num) (λ (t : SubGroup). t.cells) ts
cells_borne serial ts each = all_turned (IsSubGroup serial) (λ t. AllByRecursion (λ (c : SubCellRow). c.subscription ≡ t.row.num) t.cells) (λ t p. sub_cells_of t.row.num t.cells _ p.spelt.cells_are) ts each

pub own_sub_cells_shown : (db : Database) (a : Airspace) (s : Spells db a) (t : SubGroup) → Has s.subs t → (rows : List Row) → AnswersSubCells t.row.num db rows → rows ≡ map sub_cell_values t.cells
own_sub_cells_shown db a s t there rows h =
    let num = t.row.num in
    let own = all_has (IsSubGroup a.serial) s.subs t s.each_sub there in
    let read = subst (λ k. Reads k db (Int num ∷ []) rows) own_sub_cells_is h in
    let rises = subst (IsAscending (λ x y. sub_cell_cmp x y ≡ Less)) (append-nil t.cells) (all_sub_cells_rise a.serial (t ∷ []) (own, tt) (tt, tt)) in
    let stored = IsPermutation-filter (is_own num) _ _ s.sub_cells in
    let mine = filter-map (is_own num) five_columns (db.trees 11) in
    let theirs = ap (filter (is_own num)) (sym (map-flat_map sub_cell_values (λ (t : SubGroup). t.cells) s.subs)) ∙ (filter-map (is_own num) sub_cell_values (flat_map (λ (t : SubGroup). t.cells) s.subs)
    ∙ ap (map sub_cell_values) (filter_same (λ c. is_own num (sub_cell_values c)) (λ (c : SubCellRow). int_eq c.subscription num) (λ c. last_term (at_ints false Eq c.subscription num)) (flat_map (λ (t : SubGroup). t.cells) s.subs)
    ∙ own_of (λ (c : SubCellRow). c.subscription) (λ (t : SubGroup). t.row.num) (λ (t : SubGroup). t.cells) s.subs t (cells_borne a.serial s.subs s.each_sub) (sub_numbers_differ s.subs s.subs_rising) there)) in
    selects_one 11 by_first (1 ∷ 2 ∷ 3 ∷ 4 ∷ 5 ∷ []) (1 ∷ 2 ∷ []) db.trees (Int num ∷ []) rows refl (read.answer Null) sub_cell_values five_columns (λ c. (column c 0 ∷ column c 1 ∷ [], c)) sub_cell_cmp (λ r. refl) (λ c. refl)
    (λ x y e. rw (value_cmp-Int x.subscription y.subscription, value_cmp-Int x.place y.place, then_equal (int_cmp x.place y.place)) e) t.cells rises
    (subst (λ l. IsPermutation (map sub_cell_values t.cells) l) mine (subst (λ l. IsPermutation l (filter (is_own num) (map five_columns (db.trees 11)))) theirs stored))

-- ---- at most one row

module _ (heads : List Row) (o : Option SubRow) (none : heads ≡ [] → o ≡ None) (one : (x : SubRow) → heads ≡ sub_values x ∷ [] → o ≡ Some x) where
  pub no_sub_told : o ≡ None → (db : Database) → FindsSubOfHead heads db None
  no_sub_told is db a s = record {
    none = λ e. refl;
    own = λ t there e. absurd (let both = sym is ∙ one t.row e in cc);
  }

  pub sub_told : (head : SubRow) → o ≡ Some head → (cells : List Row) (x : Sub) → ((cs : List SubCellRow) (y : Sub) → cells ≡ map sub_cell_values cs → SpellsSub head cs y → x ≡ y)
      → (db : Database) → AnswersSubCells head.num db cells → FindsSubOfHead heads db (Some x)
  sub_told head is cells x spelt db h a s = record {
    none = λ e. absurd (let both = sym is ∙ none e in cc);
    own = λ t there e.
        let row : t.row ≡ head = let both = sym (one t.row e) ∙ is in cc in
        let own : AnswersSubCells t.row.num db cells = subst (λ (r : SubRow). AnswersSubCells r.num db cells) (sym row) h in
        let spells = subst (λ (r : SubRow). SpellsSub r t.cells t.sub) row (all_has (IsSubGroup a.serial) s.subs t s.each_sub there).spelt in
        ap (λ (y : Sub). Some y) (spelt t.cells t.sub (own_sub_cells_shown db a s t there cells own) spells);
  }

-- ---- by an id

pub sub_named_told : (db : Database) (id : ℕ) → id < 2 ^ 128 → (heads : List Row) (found : Option Sub) → AnswersSub id db heads → FindsSubOfHead heads db found → FindsSub id db found
sub_named_told db id fits heads found h of a s = go (sub_shown db a s id fits heads h)
  where
    go : ShowsSub a s.subs (λ t. sub_values t.row) id heads → found ≡ get a.subscriptions id
    go (inl (p, none, lacks)) = (of a s).none p ∙ sym none
    go (inr (t, there, p, is, own, only)) = (of a s).own t there p ∙ sym is

-- ---- by a number

module _ (db : Database) (a : Airspace) (s : Spells db a) (num : ℤ) (rows : List Row) (h : AnswersSubNumber num db rows) where
  shown : IsPermutation (map (λ (t : SubGroup). sub_values t.row) (filter (λ (t : SubGroup). int_eq t.row.num num) s.subs)) rows
  shown =
      let params = Int num ∷ [] in
      let read = subst (λ c. Reads c db params rows) sub_numbered_is h in
      selects_from 9 by_key (0 ∷ 2 ∷ 3 ∷ 4 ∷ 5 ∷ 6 ∷ 7 ∷ 8 ∷ 9 ∷ 10 ∷ 11 ∷ 12 ∷ 13 ∷ []) db.trees params rows refl (read.answer Null) (λ (t : SubGroup). sub_values t.row) sub_columns (λ c. list_all (holds (params ∷ c ∷ [])) by_key) (λ c. c) (λ (t : SubGroup). int_eq t.row.num num)
      (λ r. refl) (λ r. refl) (λ t. last_term (at_ints false Eq t.row.num num)) s.subs s.sub_rows

  sub_row_shown : (t : SubGroup) → Has s.subs t → t.row.num ≡ num → rows ≡ sub_values t.row ∷ []
  sub_row_shown = one_shown (λ (t : SubGroup). t.row.num) num (λ t. sub_values t.row) s.subs rows shown (sub_numbers_differ s.subs s.subs_rising)

  no_sub_shown : ((t : SubGroup) → Has s.subs t → t.row.num ≢ num) → rows ≡ []
  no_sub_shown = none_shown (λ (t : SubGroup). t.row.num) num (λ t. sub_values t.row) s.subs rows shown

pub sub_numbered_told : (num : ℤ) (db : Database) (heads : List Row) (found : Option Sub) → AnswersSubNumber num db heads → FindsSubOfHead heads db found → FindsSubNumbered num db found
sub_numbered_told num db heads found h of a s = record {
  own = λ t there is. (of a s).own t there (sub_row_shown db a s num heads h t there is);
  kept = go (has_or_not (λ (t : SubGroup). t.row.num) num s.subs);
}
  where
    go : ((t : SubGroup) → Has s.subs t → t.row.num ≢ num) ⊎ ((t : SubGroup) × Has s.subs t × (t.row.num ≡ num)) → IfSome found (λ x. (t : SubGroup) × Has s.subs t × (t.row.num ≡ num) × (t.sub ≡ x))
    go (inl absent) = subst (λ (p : Option Sub). IfSome p (λ x. (t : SubGroup) × Has s.subs t × (t.row.num ≡ num) × (t.sub ≡ x))) (sym ((of a s).none (no_sub_shown db a s num heads h absent))) tt
    go (inr (t, there, is)) = subst (λ (p : Option Sub). IfSome p (λ x. (t : SubGroup) × Has s.subs t × (t.row.num ≡ num) × (t.sub ≡ x))) (sym ((of a s).own t there (sub_row_shown db a s num heads h t there is))) (t, there, is, refl)
