-- Proofs that a delete without child rows triggers nothing.
use Rattle.std.proofs.Common.{◌≡◌, ◌⊎◌, inl, inr, ℕ, ℤ, List, [], ◌∷◌, map, filter, ◌||◌, Bool, true, false, cond, Ok, refl, sym, ap, subst, ◌∙◌, Some, is_eq}
use Rattle.std.specs.Prelude.{IsPermutation, find, unwrap_or, Option}
use Rattle.std.specs.List.{list_any, AllByRecursion}
use Rattle.std.proofs.lemmas.List.Sorted.{All-permutation}
use Rattle.std.proofs.lemmas.List.Elements.{All-from_recursion, recursion_from_All}
use Rattle.sqlite_tied.specs.Compute.{everything}
use Rattle.sqlite.specs.declared.types.Value.TheVariants.{Int}
use Rattle.sqlite.specs.Order.{Row, column}
use Rattle.sqlite_value.specs.Order.{value_cmp}
use Rattle.sqlite_value.specs.Keys.{plain}
use Rattle.sqlite_sql.specs.declared.ops.BinaryOp.TheVariants.{Compare}
use Rattle.sqlite_sql.specs.declared.ops.CompareOp.TheVariants.{Eq}
use Rattle.sqlite_sql.specs.Ops.{binary, is_true}
use Rattle.sqlite_value.specs.declared.keys.Collation.TheVariants.{Binary}
use Rattle.sqlite.specs.Tree.{Trees}
use Rattle.sqlite_trees.specs.Tree.{rowid, has_rowid}
use Rattle.sqlite.specs.Edit.{Edit, edit_of}
use Rattle.sqlite_rules.specs.Lists.{Has}
use Rattle.sqlite_rules.specs.Edit.{taken_by, row_at, id_in, Applies}
use Rattle.sqlite_rules.specs.Action.{Work, works, pairs, loses, is_child_of, Writes as Acts}
use Rattle.sqlite_rules.specs.declared.action.Deed.TheVariants as deed
use Rattle.sqlite_rules.proofs.TableLemmas.{int_is}
use Rattle.sqlite_schema.specs.declared.schema.Keys.TheVariants.{Enforced}
use Rattle.sqlite_schema.specs.declared.schema.Reference.{Reference}
use Rattle.sqlite_schema.specs.declared.schema.Action.TheVariants.{Cascade, NoAction, Restrict}
use Rattle.sqlite.specs.Rowids.TheVariants.{Given}
use Rattle.std.proofs.Common.{codes}
use Rattle.space_sql_schema.specs.Tables.{dss_schema, cell, volume, entity, naming, subscription, subscription_cell}
use Rattle.space_sql_write.proofs.Clear.{PairApart, ties_itself}
use Rattle.space_sql_write.proofs.Lists.{all_there, first_of_two, last_of_two}
use Rattle.space_sql_write.proofs.Cascade.{IsIdle, AreIdle, all_idle}

any_some : {X : Type 0} (p : X → Bool) (xs : List X) → list_any p xs ≡ true → (x : X) × Has xs x × (p x ≡ true)
any_some p [] e = absurd cc
any_some {X} p (x ∷ xs) e = go (p x) refl e (λ h. any_some p xs h)
  where
    go : (b : Bool) → p x ≡ b → (b || list_any p xs) ≡ true → (list_any p xs ≡ true → (y : X) × Has xs y × (p y ≡ true)) → (y : X) × Has (x ∷ xs) y × (p y ≡ true)
    go true h e more = (x, inl refl, h)
    go false h e more = let it = more e in (it.0, inr it.1, it.2)

in_pairs : (olds : List Row) (m : Row × Row) → Has (pairs olds []) m → Has olds m.0
in_pairs [] m h = h
in_pairs (o ∷ olds) m (inl e) = inl (ap (λ (p : Row × Row). p.0) e)
in_pairs (o ∷ olds) m (inr h) = inr (in_pairs olds m h)

-- ---- the rows that a delete removes

-- The row found by a rowid is the one that has it.
found : (rows xs : List Row) (r : Row) → PairApart rows → ((x : Row) → Has xs x → Has rows x) → Has rows r → Has xs r → find (has_rowid (id_in (rowid r))) xs ≡ Some r
found rows [] r apart sub there h = absurd h
found rows (x ∷ xs) r apart sub there h = go (has_rowid (id_in (rowid r)) x) refl h (λ k. found rows xs r apart (λ y m. sub y (inr m)) there k)
  where
    go : (b : Bool) → has_rowid (id_in (rowid r)) x ≡ b → Has (x ∷ xs) r → (Has xs r → find (has_rowid (id_in (rowid r))) xs ≡ Some r) → cond b (Some x) (find (has_rowid (id_in (rowid r))) xs) ≡ Some r
    go true e h more = ap Some (apart.apart x r (sub x (inl refl)) there (subst (λ v. is_eq (value_cmp (rowid x) v) ≡ true) (sym (int_is (rowid r) (apart.numbers r there))) e))
    go false e (inl same) more = absurd (let tie = ties_itself r (apart.numbers r there) in let no' = sym tie ∙ (ap (has_rowid (id_in (rowid r))) same ∙ e) in cc)
    go false e (inr k) more = more k

pub taken_row : (rows : List Row) (r : Row) → PairApart rows → Has rows r → row_at rows (id_in (rowid r)) ≡ r
taken_row rows r apart h = ap (λ (o : Option Row). unwrap_or o []) (found rows rows r apart (λ x k. k) h h)

-- If each row that passes has P, each removed row has P.
pub taken_have : (P : Row → Type 0) (hit : Row → Bool) (rows : List Row) (ids : List ℤ) → PairApart rows → IsPermutation (map (λ r. id_in (rowid r)) (filter hit rows)) ids → ((r : Row) → Has rows r → hit r ≡ true → P r) → AllByRecursion P (map (row_at rows) ids)
taken_have P hit rows ids apart same each =
    all_map_back ids (recursion_from_All (λ id. P (row_at rows id)) ids (All-permutation (λ id. P (row_at rows id)) (map (λ r. id_in (rowid r)) (filter hit rows)) ids same (All-from_recursion (λ id. P (row_at rows id)) (map (λ r. id_in (rowid r)) (filter hit rows)) (own rows (λ x h. h)))))
  where
    all_map_back : (ids : List ℤ) → AllByRecursion (λ id. P (row_at rows id)) ids → AllByRecursion P (map (row_at rows) ids)
    all_map_back [] all = tt
    all_map_back (id ∷ ids) all = (all.0, all_map_back ids all.1)

    own : (xs : List Row) → ((x : Row) → Has xs x → Has rows x) → AllByRecursion (λ id. P (row_at rows id)) (map (λ r. id_in (rowid r)) (filter hit xs))
    own [] sub = tt
    own (x ∷ xs) sub = go (hit x) refl (own xs (λ y h. sub y (inr h)))
      where
        go : (b : Bool) → hit x ≡ b → AllByRecursion (λ id. P (row_at rows id)) (map (λ r. id_in (rowid r)) (filter hit xs)) → AllByRecursion (λ id. P (row_at rows id)) (map (λ r. id_in (rowid r)) (cond b (x ∷ filter hit xs) (filter hit xs)))
        go true e more = (subst P (sym (taken_row rows x apart (sub x (inl refl)))) (each x (sub x (inl refl)) e), more)
        go false e more = more

-- ---- idle works

-- Holds if the column of a child row differs from a number.
abbrev pub differs : ℕ → ℤ → Row → Type 0
differs place num r = is_true (binary (Compare Eq Binary) (column r place) (Int num)) ≡ false

-- If no row has the number, a work that acts on rows with it is idle.
module _ (num : ℤ) (w : Work) (at place : ℕ) (same : (r : Row) (m : Row × Row) → is_child_of w r m ≡ true → is_true (binary (Compare Eq Binary) (column r at) (column m.0 place)) ≡ true) (olds : List Row) (moves : w.moves ≡ pairs olds []) where
  pub idle : (db : Trees) → AllByRecursion (λ m. column m place ≡ Int num) olds → AllByRecursion (differs at num) (db w.child.tree) → IsIdle db w
  idle db all none r h e =
      let it = any_some (is_child_of w r) w.moves e in
      let old = in_pairs olds it.0 (subst (λ ms. Has ms it.0) moves it.1) in
      let borne = all_there (λ m. column m place ≡ Int num) olds all it.0.0 old in
      let yes' = ap (λ v. is_true (binary (Compare Eq Binary) (column r at) v)) (sym borne) ∙ same r it.0 it.2 in
      let no' = all_there (differs at num) (db w.child.tree) none r h in
      absurd (let both = sym yes' ∙ no' in cc)

none_idle : (db : Trees) → AreIdle db []
none_idle db w h = absurd h

one_idle : (db : Trees) (v : Work) → IsIdle db v → AreIdle db (v ∷ [])
one_idle db v p w (inl e) = subst (IsIdle db) (sym e) p
one_idle db v p w (inr h) = absurd h

two_idle : (db : Trees) (u v : Work) → IsIdle db u → IsIdle db v → AreIdle db (u ∷ v ∷ [])
two_idle db u v p q w (inl e) = subst (IsIdle db) (sym e) p
two_idle db u v p q w (inr h) = one_idle db v q w h

-- A write whose works are idle has no further effect.
pub quiet_step : (db next : Trees) (edit : Edit) (ws : List Work) → works dss_schema Enforced 0 edit.table.tree (taken_by db edit) edit.news ≡ ws → ((mid : Trees) → Applies dss_schema Enforced db edit mid → AreIdle mid ws)
    → Acts dss_schema Enforced db edit (Ok next) → Applies dss_schema Enforced db edit next
quiet_step db next edit ws are idle (inl refused) = absurd (let e = refused.2 in cc)
quiet_step db next edit ws are idle (inr (inl big)) = absurd (let e = big.3 in cc)
quiet_step db next edit ws are idle (inr (inr went)) = subst (Applies dss_schema Enforced db edit) (sym (all_idle dss_schema Enforced went.2.0 went.0 next ws (idle went.0 went.1) (rw are at went.2.1))) went.1

-- ---- volumes without cells

cell_reference : Reference
cell_reference = record { columns = 1 ∷ 2 ∷ []; parent = codes "volume"; parent_columns = codes "entity" ∷ codes "place" ∷ []; on_delete = Cascade; on_update = NoAction; is_deferred = false }

abbrev cell_work : List Row → Work
cell_work olds = record { depth = 0; child = cell 5; ref = cell_reference; places = 1 ∷ 2 ∷ []; order = plain; deed = deed.Delete; moves = pairs olds [] }

volume_works : (olds : List Row) → (works dss_schema Enforced 0 3 olds [] ≡ []) ⊎ (works dss_schema Enforced 0 3 olds [] ≡ cell_work olds ∷ [])
unfolding everything cell_reference
volume_works olds = go (list_any (loses plain (1 ∷ 2 ∷ [])) (pairs olds [])) refl
  where
    go : (b : Bool) → list_any (loses plain (1 ∷ 2 ∷ [])) (pairs olds []) ≡ b → (works dss_schema Enforced 0 3 olds [] ≡ []) ⊎ (works dss_schema Enforced 0 3 olds [] ≡ cell_work olds ∷ [])
    go true e = inr (rw e)
    go false e = inl (rw e)

cell_of_volume : (olds : List Row) (r : Row) (m : Row × Row) → is_child_of (cell_work olds) r m ≡ true → is_true (binary (Compare Eq Binary) (column r 1) (column m.0 1)) ≡ true
unfolding everything cell_reference
cell_of_volume olds r m e = first_of_two _ _ (last_of_two _ _ e)

pub volumes_quiet : (db next : Trees) (ids : List ℤ) (num : ℤ) → AllByRecursion (λ m. column m 1 ≡ Int num) (map (row_at (db 3)) ids) → AllByRecursion (differs 1 num) (db 5)
    → Acts dss_schema Enforced db (edit_of db (volume 3) ids Given 0 []) (Ok next) → Applies dss_schema Enforced db (edit_of db (volume 3) ids Given 0 []) next
volumes_quiet db next ids num all none wrote =
    let edit = edit_of db (volume 3) ids Given 0 [] in
    let olds = map (row_at (db 3)) ids in
    let quiet = λ (mid : Trees) (step : Applies dss_schema Enforced db edit mid). idle num (cell_work olds) 1 1 (cell_of_volume olds) olds refl mid all (subst (AllByRecursion (differs 1 num)) (sym (step.tables.1.1.1.0 (λ e. cc))) none) in
    elim (volume_works olds) [
      | inl no' ↦ quiet_step db next edit [] no' (λ mid step. none_idle mid) wrote
      | inr one ↦ quiet_step db next edit (cell_work olds ∷ []) one (λ mid step. one_idle mid (cell_work olds) (quiet mid step)) wrote
    ]

-- ---- an entity without volumes and references

volume_reference : Reference
volume_reference = record { columns = 1 ∷ []; parent = codes "entity"; parent_columns = codes "num" ∷ []; on_delete = Cascade; on_update = NoAction; is_deferred = false }

abbrev volume_work : List Row → Work
volume_work olds = record { depth = 0; child = volume 3; ref = volume_reference; places = 0 ∷ []; order = plain; deed = deed.Delete; moves = pairs olds [] }

naming_reference : Reference
naming_reference = record { columns = 0 ∷ []; parent = codes "entity"; parent_columns = codes "num" ∷ []; on_delete = Cascade; on_update = NoAction; is_deferred = false }

abbrev naming_work : List Row → Work
naming_work olds = record { depth = 0; child = naming 13; ref = naming_reference; places = 0 ∷ []; order = plain; deed = deed.Delete; moves = pairs olds [] }

entity_works : (olds : List Row) → (works dss_schema Enforced 0 1 olds [] ≡ []) ⊎ (works dss_schema Enforced 0 1 olds [] ≡ volume_work olds ∷ naming_work olds ∷ [])
unfolding everything volume_reference naming_reference
entity_works olds = go (list_any (loses plain (0 ∷ [])) (pairs olds [])) refl
  where
    go : (b : Bool) → list_any (loses plain (0 ∷ [])) (pairs olds []) ≡ b → (works dss_schema Enforced 0 1 olds [] ≡ []) ⊎ (works dss_schema Enforced 0 1 olds [] ≡ volume_work olds ∷ naming_work olds ∷ [])
    go true e = inr (rw e)
    go false e = inl (rw e)

volume_of_entity : (olds : List Row) (r : Row) (m : Row × Row) → is_child_of (volume_work olds) r m ≡ true → is_true (binary (Compare Eq Binary) (column r 1) (column m.0 0)) ≡ true
unfolding everything volume_reference
volume_of_entity olds r m e = first_of_two _ _ (last_of_two _ _ e)

naming_of_entity : (olds : List Row) (r : Row) (m : Row × Row) → is_child_of (naming_work olds) r m ≡ true → is_true (binary (Compare Eq Binary) (column r 0) (column m.0 0)) ≡ true
unfolding everything naming_reference
naming_of_entity olds r m e = first_of_two _ _ (last_of_two _ _ e)

pub entity_quiet : (db next : Trees) (ids : List ℤ) (num : ℤ) → AllByRecursion (λ m. column m 0 ≡ Int num) (map (row_at (db 1)) ids) → AllByRecursion (differs 1 num) (db 3) → AllByRecursion (differs 0 num) (db 13)
    → Acts dss_schema Enforced db (edit_of db (entity 1) ids Given 0 []) (Ok next) → Applies dss_schema Enforced db (edit_of db (entity 1) ids Given 0 []) next
entity_quiet db next ids num all none unnamed wrote =
    let edit = edit_of db (entity 1) ids Given 0 [] in
    let olds = map (row_at (db 1)) ids in
    let volumes = λ (mid : Trees) (step : Applies dss_schema Enforced db edit mid). idle num (volume_work olds) 1 0 (volume_of_entity olds) olds refl mid all (subst (AllByRecursion (differs 1 num)) (sym (step.tables.1.1.0 (λ e. cc))) none) in
    let namings = λ (mid : Trees) (step : Applies dss_schema Enforced db edit mid). idle num (naming_work olds) 0 0 (naming_of_entity olds) olds refl mid all (subst (AllByRecursion (differs 0 num)) (sym (step.tables.1.1.1.1.1.1.1.0 (λ e. cc))) unnamed) in
    elim (entity_works olds) [
      | inl no' ↦ quiet_step db next edit [] no' (λ mid step. none_idle mid) wrote
      | inr two ↦ quiet_step db next edit (volume_work olds ∷ naming_work olds ∷ []) two (λ mid step. two_idle mid (volume_work olds) (naming_work olds) (volumes mid step) (namings mid step)) wrote
    ]

-- ---- a subscription without cells that no entity references

sub_cell_reference : Reference
sub_cell_reference = record { columns = 1 ∷ []; parent = codes "subscription"; parent_columns = codes "num" ∷ []; on_delete = Cascade; on_update = NoAction; is_deferred = false }

abbrev sub_cell_work : List Row → Work
sub_cell_work olds = record { depth = 0; child = subscription_cell 11; ref = sub_cell_reference; places = 0 ∷ []; order = plain; deed = deed.Delete; moves = pairs olds [] }

named_reference : Reference
named_reference = record { columns = 2 ∷ []; parent = codes "subscription"; parent_columns = codes "num" ∷ []; on_delete = Restrict; on_update = NoAction; is_deferred = false }

abbrev named_work : List Row → Work
named_work olds = record { depth = 0; child = naming 13; ref = named_reference; places = 0 ∷ []; order = plain; deed = deed.Refuse; moves = pairs olds [] }

sub_works : (olds : List Row) → (works dss_schema Enforced 0 9 olds [] ≡ []) ⊎ (works dss_schema Enforced 0 9 olds [] ≡ sub_cell_work olds ∷ named_work olds ∷ [])
unfolding everything sub_cell_reference named_reference
sub_works olds = go (list_any (loses plain (0 ∷ [])) (pairs olds [])) refl
  where
    go : (b : Bool) → list_any (loses plain (0 ∷ [])) (pairs olds []) ≡ b → (works dss_schema Enforced 0 9 olds [] ≡ []) ⊎ (works dss_schema Enforced 0 9 olds [] ≡ sub_cell_work olds ∷ named_work olds ∷ [])
    go true e = inr (rw e)
    go false e = inl (rw e)

cell_of_sub : (olds : List Row) (r : Row) (m : Row × Row) → is_child_of (sub_cell_work olds) r m ≡ true → is_true (binary (Compare Eq Binary) (column r 1) (column m.0 0)) ≡ true
unfolding everything sub_cell_reference
cell_of_sub olds r m e = first_of_two _ _ (last_of_two _ _ e)

naming_of_sub : (olds : List Row) (r : Row) (m : Row × Row) → is_child_of (named_work olds) r m ≡ true → is_true (binary (Compare Eq Binary) (column r 2) (column m.0 0)) ≡ true
unfolding everything named_reference
naming_of_sub olds r m e = first_of_two _ _ (last_of_two _ _ e)

pub sub_quiet : (db next : Trees) (ids : List ℤ) (num : ℤ) → AllByRecursion (λ m. column m 0 ≡ Int num) (map (row_at (db 9)) ids) → AllByRecursion (differs 1 num) (db 11) → AllByRecursion (differs 2 num) (db 13)
    → Acts dss_schema Enforced db (edit_of db (subscription 9) ids Given 0 []) (Ok next) → Applies dss_schema Enforced db (edit_of db (subscription 9) ids Given 0 []) next
sub_quiet db next ids num all none unnamed wrote =
    let edit = edit_of db (subscription 9) ids Given 0 [] in
    let olds = map (row_at (db 9)) ids in
    let cells = λ (mid : Trees) (step : Applies dss_schema Enforced db edit mid). idle num (sub_cell_work olds) 1 0 (cell_of_sub olds) olds refl mid all (subst (AllByRecursion (differs 1 num)) (sym (step.tables.1.1.1.1.1.1.0 (λ e. cc))) none) in
    let namings = λ (mid : Trees) (step : Applies dss_schema Enforced db edit mid). idle num (named_work olds) 2 0 (naming_of_sub olds) olds refl mid all (subst (AllByRecursion (differs 2 num)) (sym (step.tables.1.1.1.1.1.1.1.0 (λ e. cc))) unnamed) in
    elim (sub_works olds) [
      | inl no' ↦ quiet_step db next edit [] no' (λ mid step. none_idle mid) wrote
      | inr two ↦ quiet_step db next edit (sub_cell_work olds ∷ named_work olds ∷ []) two (λ mid step. two_idle mid (sub_cell_work olds) (named_work olds) (cells mid step) (namings mid step)) wrote
    ]
