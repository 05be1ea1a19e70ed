-- A proof that the tables represent at most one airspace.
use Rattle.std.specs.Prelude.{◌≡◌, ◌&&◌, ℕ, zero, suc, ℤ, pos, Bool, true, false, T, List, [], ◌∷◌, map, IsPermutation, Option, Some, None, refl}
use Rattle.std.specs.List.{AllByRecursion, AllZip, flat_map}
use Rattle.std.specs.Ordering.{int_cmp, nat_cmp, is_lt}
use Rattle.std.specs.Cmp.{IsTotalOrder}
use Rattle.std.specs.declared.cmp.Ordering.{Ordering}
use Rattle.std.specs.declared.cmp.Ordering.TheVariants.{Less, Equal, Greater}
use Rattle.std.specs.FinMap.{FinMap, entries, entries_sorted, same_entries_map}
use Rattle.std.specs.FinMap.Entries.{is_sorted, below_all}
use Rattle.std.proofs.Common.{inl, inr, sym, ap, ap₂, subst, subst₂, ◌∙◌}
use Rattle.std.proofs.lemmas.Cmp.{int_cmp_total, nat_cmp_total, on_total, tied_itself, nat_list_cmp_total}
use Rattle.std.proofs.lemmas.List.Sorted.{IsPermutation-map, IsPermutation-trans, IsPermutation-sym}
use Rattle.sqlite_value.specs.declared.value.Value.{Value}
use Rattle.sqlite_value.specs.declared.value.Value.TheVariants.{Int, Text}
use Rattle.sqlite_value.specs.Order.{Row}
use Rattle.sqlite_trees.specs.Tree.{Trees, IsAscending}
use Rattle.sqlite_keyed.proofs.ListLemmas.{map-map, map_back, map-flat_map, ascending-map}
use Rattle.entity_core.specs.declared.availability.Availability.{Availability}
use Rattle.entity_core.specs.declared.availability.Availability.TheVariants.{Unknown, Normal, Down}
use Rattle.entity_core.specs.declared.entity.Entity.{Entity}
use Rattle.entity_core.specs.Entity.{subscription_of}
use Rattle.entity_core.specs.Airspace.{Airspace, VersionedAvailability, key_cmp, text_cmp}
use Rattle.entity_core.proofs.Keys.{key_total}
use Rattle.space_rows.specs.declared.rows.EntityRow.{EntityRow}
use Rattle.space_rows.specs.declared.rows.VolumeRow.{VolumeRow}
use Rattle.space_rows.specs.declared.rows.CellRow.{CellRow}
use Rattle.space_rows.specs.declared.rows.SubRow.{SubRow}
use Rattle.space_rows.specs.declared.rows.SubCellRow.{SubCellRow}
use Rattle.space_rows.specs.Rows.{SpellsEntity}
use Rattle.space_rows.specs.Subs.{SpellsSub}
use Rattle.space_rows.proofs.OneEntity.{one_entity}
use Rattle.space_rows.proofs.SubRows.{one_sub}
use Rattle.space_rows.proofs.Chunks.{one_flat, Borne, Differ, all_turned}
use Rattle.sqlite.specs.Effect.{Database}
use Rattle.space_sql_schema.specs.declared.format.Format.{Format}
use Rattle.space_sql_schema.specs.declared.format.Format.TheVariants.{One, TwoUnindexed, Two, OldOne, OldTwoUnindexed, OldTwo}
use Rattle.space_sql_schema.specs.Tables.{format_number}
use Rattle.space_sql_schema.specs.Laws.{OneAirspace}
use Rattle.space_sql_schema.specs.Spelling.{SpellsAs, SubGroup, IsSubGroup, IsSubBefore, sub_pair_of, IsSubNumber, Names, Group, IsGroup, IsBefore, pair_of, naming_rows, naming_rows_of, meta_values, entity_values, volume_values, cell_values, availability_values, sub_values, sub_cell_values, entity_columns, six_columns, three_columns, meta_columns, sub_columns, five_columns, two_columns, later_rows, availability_rows, old_tree}
use Rattle.space_sql_schema.proofs.Rising.{rises_once, volume_cmp, cell_cmp, sub_cell_cmp, naming_cmp, volume_total, cell_total, sub_cell_total, naming_total, all_volumes_rise, all_cells_rise, all_sub_cells_rise, all_namings_rise, volumes_of, cells_of, sub_cells_of, named_in, namings_borne}

-- ---- reading rows back from their values

int_of : Value → ℤ
int_of (Int n) = n
int_of _ = pos 0

text_of : Value → List ℕ
text_of (Text t) = t
text_of _ = []

pub entity_of_values : Row → EntityRow
entity_of_values (a ∷ b ∷ c ∷ d ∷ e ∷ f ∷ g ∷ h ∷ i ∷ []) = record { num = int_of a; kind = int_of b; id = text_of c; manager = text_of d; state = int_of e; version = int_of f; serial = int_of g; ovn = text_of h; url = text_of i }
entity_of_values _ = record { num = pos 0; kind = pos 0; id = []; manager = []; state = pos 0; version = pos 0; serial = pos 0; ovn = []; url = [] }

pub volume_of_values : Row → VolumeRow
volume_of_values (a ∷ b ∷ c ∷ d ∷ e ∷ f ∷ []) = record { entity = int_of a; place = int_of b; alt_lower = int_of c; alt_upper = int_of d; time_start = int_of e; time_end = int_of f }
volume_of_values _ = record { entity = pos 0; place = pos 0; alt_lower = pos 0; alt_upper = pos 0; time_start = pos 0; time_end = pos 0 }

pub cell_of_values : Row → CellRow
cell_of_values (a ∷ b ∷ c ∷ d ∷ e ∷ f ∷ []) = record { entity = int_of a; volume = int_of b; place = int_of c; token = text_of d; lo = int_of e; hi = int_of f }
cell_of_values _ = record { entity = pos 0; volume = pos 0; place = pos 0; token = []; lo = pos 0; hi = pos 0 }

pub sub_of_values : Row → SubRow
sub_of_values (a ∷ b ∷ c ∷ d ∷ e ∷ f ∷ g ∷ h ∷ i ∷ j ∷ k ∷ l ∷ m ∷ []) =
    record { num = int_of a; id = text_of b; manager = text_of c; serial = int_of d; version = text_of e; notes = int_of f; url = text_of g; for_intents = int_of h; for_constraints = int_of i; alt_lower = int_of j; alt_upper = int_of k; time_start = int_of l; time_end = int_of m }
sub_of_values _ = record { num = pos 0; id = []; manager = []; serial = pos 0; version = []; notes = pos 0; url = []; for_intents = pos 0; for_constraints = pos 0; alt_lower = pos 0; alt_upper = pos 0; time_start = pos 0; time_end = pos 0 }

pub sub_cell_of_values : Row → SubCellRow
sub_cell_of_values (a ∷ b ∷ c ∷ d ∷ e ∷ []) = record { subscription = int_of a; place = int_of b; token = text_of c; lo = int_of d; hi = int_of e }
sub_cell_of_values _ = record { subscription = pos 0; place = pos 0; token = []; lo = pos 0; hi = pos 0 }

availability_of_number : ℤ → Availability
availability_of_number (pos zero) = Unknown
availability_of_number (pos (suc zero)) = Normal
availability_of_number (pos (suc (suc n))) = Down
availability_of_number _ = Unknown

pub stated_of_values : Row → List ℕ × VersionedAvailability
stated_of_values (a ∷ b ∷ c ∷ []) = (text_of a, (availability_of_number (int_of b), text_of c))
stated_of_values _ = ([], (Unknown, []))

pub entity_back : (r : EntityRow) → entity_of_values (entity_values r) ≡ r
unfolding entity_of_values int_of text_of
entity_back r = refl

pub volume_back : (r : VolumeRow) → volume_of_values (volume_values r) ≡ r
unfolding volume_of_values int_of
volume_back r = refl

pub cell_back : (r : CellRow) → cell_of_values (cell_values r) ≡ r
unfolding cell_of_values int_of text_of
cell_back r = refl

pub sub_back : (r : SubRow) → sub_of_values (sub_values r) ≡ r
unfolding sub_of_values int_of text_of
sub_back r = refl

pub sub_cell_back : (r : SubCellRow) → sub_cell_of_values (sub_cell_values r) ≡ r
unfolding sub_cell_of_values int_of text_of
sub_cell_back r = refl

pub stated_back : (s : List ℕ × VersionedAvailability) → stated_of_values (availability_values s) ≡ s
unfolding stated_of_values int_of text_of availability_of_number
stated_back s = go s.1.0 refl
  where
    go : (a : Availability) → s.1.0 ≡ a → stated_of_values (availability_values s) ≡ s
    go Unknown e = rw e
    go Normal e = rw e
    go Down e = rw e

-- Two lists of rows with the values of the same table are permutations of each other.
pub one_table : {X : Type 0} (encode : X → Row) (decode : Row → X) → ((x : X) → decode (encode x) ≡ x) → (xs ys : List X) (l m : List Row) → l ≡ m → IsPermutation (map encode xs) l → IsPermutation (map encode ys) m → IsPermutation xs ys
one_table encode decode back xs ys l m e p q =
    let rows = IsPermutation-trans _ _ _ p (subst (λ k. IsPermutation k (map encode ys)) (sym e) (IsPermutation-sym _ _ q)) in
    subst₂ (λ a b. IsPermutation a b) (map_back encode decode back xs) (map_back encode decode back ys) (IsPermutation-map decode _ _ rows)

-- ---- maps with the same entries

less : (o : Ordering) → T (is_lt o) → o ≡ Less
less Less p = refl
less Equal p = absurd p
less Greater p = absurd p

first : (a b : Bool) → T (a && b) → T a
first true b p = tt
first false b p = p

second : (a b : Bool) → T (a && b) → T b
second true b p = p
second false b p = absurd p

module _ {K X : Type 0} (R : K → K → Ordering) where
  abbrev pub EntryLess : K × X → K × X → Type 0
  EntryLess a b = R a.0 b.0 ≡ Less

  all_below : (k : K) (es : List (K × X)) → T (below_all R k es) → AllByRecursion (λ (e : K × X). R k e.0 ≡ Less) es
  all_below k [] h = tt
  all_below k (e ∷ es) h = (less (R k e.0) (first _ _ h), all_below k es (second (is_lt (R k e.0)) _ h))

  pub entries_rise : (es : List (K × X)) → T (is_sorted R es) → IsAscending EntryLess es
  entries_rise [] h = tt
  entries_rise (e ∷ es) h = (all_below e.0 es (first _ _ h), entries_rise es (second (below_all R e.0 es) _ h))

  pub one_map : IsTotalOrder R → (m n : FinMap R X) → IsPermutation (entries m) (entries n) → m ≡ n
  one_map total m n same = same_entries_map m n (sym (rises_once (λ (a b : K × X). R a.0 b.0) (on_total (λ (e : K × X). e.0) total) (entries m) (entries n) (entries_rise (entries m) (entries_sorted m)) (entries_rise (entries n) (entries_sorted n)) same))

-- ---- subscriptions

sub_row_total : IsTotalOrder (λ (a b : SubRow). int_cmp a.num b.num)
sub_row_total = on_total (λ (r : SubRow). r.num) int_cmp_total

same_sub_rows : (ss ts : List SubGroup) → map (λ (s : SubGroup). s.row) ts ≡ map (λ (s : SubGroup). s.row) ss → AllZip (λ (s t : SubGroup). s.row ≡ t.row) ss ts
same_sub_rows [] [] e = tt
same_sub_rows [] (t ∷ ts) e = absurd cc
same_sub_rows (s ∷ ss) [] e = absurd cc
same_sub_rows (s ∷ ss) (t ∷ ts) e = (let first : s.row ≡ t.row = cc in first, same_sub_rows ss ts (let rest : map (λ (s : SubGroup). s.row) ts ≡ map (λ (s : SubGroup). s.row) ss = cc in rest))

same_sub_numbers : (ss ts : List SubGroup) → AllZip (λ (s t : SubGroup). s.row ≡ t.row) ss ts → AllZip (λ (s t : SubGroup). s.row.num ≡ t.row.num) ss ts
same_sub_numbers [] [] e = tt
same_sub_numbers [] (t ∷ ts) e = e
same_sub_numbers (s ∷ ss) [] e = e
same_sub_numbers (s ∷ ss) (t ∷ ts) e = (ap (λ (r : SubRow). r.num) e.0, same_sub_numbers ss ts e.1)

other_number : (m n : ℤ) → int_cmp m n ≡ Less → ¬ (m ≡ n)
other_number m n less e = let tie = subst (λ k. int_cmp m k ≡ Equal) e (tied_itself int_cmp_total m) in let no = sym less ∙ tie in cc

pub sub_numbers_differ : (ss : List SubGroup) → IsAscending IsSubBefore ss → Differ (λ (s : SubGroup). s.row.num) ss
sub_numbers_differ [] up = tt
sub_numbers_differ (s ∷ ss) up = (all_turned (IsSubBefore s) (λ t. ¬ (s.row.num ≡ t.row.num)) (λ t less. other_number s.row.num t.row.num less) ss up.0, sub_numbers_differ ss up.1)

sub_cells_borne : (serial : ℕ) (ss : List SubGroup) → AllByRecursion (IsSubGroup serial) ss → Borne (λ (c : SubCellRow). c.subscription) (λ s. s.row.num) (λ s. s.cells) ss
sub_cells_borne serial ss each = all_turned (IsSubGroup serial) (λ s. AllByRecursion (λ (c : SubCellRow). c.subscription ≡ s.row.num) s.cells) (λ s p. sub_cells_of s.row.num s.cells _ p.spelt.cells_are) ss each

same_subs : (m n : ℕ) (ss ts : List SubGroup) → AllByRecursion (IsSubGroup m) ss → AllByRecursion (IsSubGroup n) ts → AllZip (λ (s t : SubGroup). s.row ≡ t.row) ss ts → AllZip (λ (s t : SubGroup). s.cells ≡ t.cells) ss ts → ss ≡ ts
same_subs m n [] [] p q rows cells = refl
same_subs m n [] (t ∷ ts) p q rows cells = absurd rows
same_subs m n (s ∷ ss) [] p q rows cells = absurd rows
same_subs m n (s ∷ ss) (t ∷ ts) p q rows cells =
    let theirs = subst₂ (λ r c. SpellsSub r c t.sub) (sym rows.0) (sym cells.0) q.0.spelt in
    let sub = one_sub s.row s.cells s.sub t.sub p.0.spelt theirs in
    let head : s ≡ t = λ i. record { row = rows.0 i; cells = cells.0 i; sub = sub i } in
    ap₂ ◌∷◌ head (same_subs m n ss ts p.1 q.1 rows.1 cells.1)

pub one_subs : (m n : ℕ) (ss ts : List SubGroup) → AllByRecursion (IsSubGroup m) ss → AllByRecursion (IsSubGroup n) ts → IsAscending IsSubBefore ss → IsAscending IsSubBefore ts → IsPermutation (map (λ (s : SubGroup). s.row) ss) (map (λ (s : SubGroup). s.row) ts)
    → IsPermutation (flat_map (λ (s : SubGroup). s.cells) ss) (flat_map (λ (s : SubGroup). s.cells) ts) → ss ≡ ts
one_subs m n ss ts p q up rise rows cells =
    let heads = same_sub_rows ss ts (rises_once (λ (a b : SubRow). int_cmp a.num b.num) sub_row_total (map (λ (s : SubGroup). s.row) ss) (map (λ (s : SubGroup). s.row) ts)
    (ascending-map (λ (a b : SubRow). int_cmp a.num b.num ≡ Less) (λ (s : SubGroup). s.row) ss up) (ascending-map (λ (a b : SubRow). int_cmp a.num b.num ≡ Less) (λ (s : SubGroup). s.row) ts rise) rows) in
    let c = rises_once sub_cell_cmp sub_cell_total _ _ (all_sub_cells_rise m ss p up) (all_sub_cells_rise n ts q rise) cells in
    same_subs m n ss ts p q heads
    (one_flat (λ (c : SubCellRow). c.subscription) (λ (s : SubGroup). s.row.num) (λ s. s.cells) ss ts (same_sub_numbers ss ts heads) (sub_cells_borne m ss p) (sub_cells_borne n ts q) (sub_numbers_differ ss up) (sym c))

-- ---- referenced subscriptions

not_among : (num : ℤ) (id : ℕ) (ss : List SubGroup) → AllByRecursion (λ s. ¬ (num ≡ s.row.num)) ss → ¬ IsSubNumber ss num id
not_among num id [] other h = h
not_among num id (s ∷ ss) other (inl e) = other.0 (ap (λ (p : ℤ × ℕ). p.0) e)
not_among num id (s ∷ ss) other (inr h) = not_among num id ss other.1 h

-- A number belongs to one id.
pub one_number : (num : ℤ) (a b : ℕ) (ss : List SubGroup) → Differ (λ (s : SubGroup). s.row.num) ss → IsSubNumber ss num a → IsSubNumber ss num b → a ≡ b
one_number num a b [] apart p q = absurd p
one_number num a b (s ∷ ss) apart (inl e) (inl f) = ap (λ (p : ℤ × ℕ). p.1) (e ∙ sym f)
one_number num a b (s ∷ ss) apart (inl e) (inr q) = absurd (not_among num b ss (subst (λ k. AllByRecursion (λ (t : SubGroup). ¬ (k ≡ t.row.num)) ss) (sym (ap (λ (p : ℤ × ℕ). p.0) e)) apart.0) q)
one_number num a b (s ∷ ss) apart (inr p) (inl f) = absurd (not_among num a ss (subst (λ k. AllByRecursion (λ (t : SubGroup). ¬ (k ≡ t.row.num)) ss) (sym (ap (λ (p : ℤ × ℕ). p.0) f)) apart.0) p)
one_number num a b (s ∷ ss) apart (inr p) (inr q) = one_number num a b ss apart.1 p q

-- A row of `naming` gives one id.
pub one_named : (ss : List SubGroup) (naming : Option ℤ) (a b : Option ℕ) → Differ (λ (s : SubGroup). s.row.num) ss → Names ss naming a → Names ss naming b → a ≡ b
one_named ss None None None apart p q = refl
one_named ss None None (Some b) apart p q = absurd q
one_named ss None (Some a) b apart p q = absurd p
one_named ss (Some num) None b apart p q = absurd p
one_named ss (Some num) (Some a) None apart p q = absurd q
one_named ss (Some num) (Some a) (Some b) apart p q = ap Some (one_number num a b ss apart p q)

-- ---- groups

row_total : IsTotalOrder (λ (a b : EntityRow). int_cmp a.num b.num)
row_total = on_total (λ (r : EntityRow). r.num) int_cmp_total

same_rows : (gs hs : List Group) → map (λ (g : Group). g.row) hs ≡ map (λ (g : Group). g.row) gs → AllZip (λ (g h : Group). g.row ≡ h.row) gs hs
same_rows [] [] e = tt
same_rows [] (h ∷ hs) e = absurd cc
same_rows (g ∷ gs) [] e = absurd cc
same_rows (g ∷ gs) (h ∷ hs) e = (let first : g.row ≡ h.row = cc in first, same_rows gs hs (let rest : map (λ (g : Group). g.row) hs ≡ map (λ (g : Group). g.row) gs = cc in rest))

same_numbers : (gs hs : List Group) → AllZip (λ (g h : Group). g.row ≡ h.row) gs hs → AllZip (λ (g h : Group). g.row.num ≡ h.row.num) gs hs
same_numbers [] [] e = tt
same_numbers [] (h ∷ hs) e = e
same_numbers (g ∷ gs) [] e = e
same_numbers (g ∷ gs) (h ∷ hs) e = (ap (λ (r : EntityRow). r.num) e.0, same_numbers gs hs e.1)

pub numbers_differ : (gs : List Group) → IsAscending IsBefore gs → Differ (λ (g : Group). g.row.num) gs
numbers_differ [] up = tt
numbers_differ (g ∷ gs) up = (all_turned (IsBefore g) (λ h. ¬ (g.row.num ≡ h.row.num)) (λ h less. other_number g.row.num h.row.num less) gs up.0, numbers_differ gs up.1)

pub volumes_borne : (serial : ℕ) (subs : List SubGroup) (gs : List Group) → AllByRecursion (IsGroup serial subs) gs → Borne (λ (v : VolumeRow). v.entity) (λ g. g.row.num) (λ g. g.volumes) gs
volumes_borne serial subs gs each = all_turned (IsGroup serial subs) (λ g. AllByRecursion (λ (v : VolumeRow). v.entity ≡ g.row.num) g.volumes) (λ g p. volumes_of g.row.num g.volumes _ p.spelt.volumes_are) gs each

pub cells_borne : (serial : ℕ) (subs : List SubGroup) (gs : List Group) → AllByRecursion (IsGroup serial subs) gs → Borne (λ (c : CellRow). c.entity) (λ g. g.row.num) (λ g. g.cells) gs
cells_borne serial subs gs each = all_turned (IsGroup serial subs) (λ g. AllByRecursion (λ (c : CellRow). c.entity ≡ g.row.num) g.cells) (λ g p. cells_of g.row.num g.cells _ p.spelt.cells_are) gs each

one_naming : (m n : ℤ) (x y : Option ℤ) → naming_rows m x ≡ naming_rows n y → x ≡ y
one_naming m n None None e = refl
one_naming m n None (Some b) e = absurd cc
one_naming m n (Some a) None e = absurd cc
one_naming m n (Some a) (Some b) e = cc

same_namings : (gs hs : List Group) → AllZip (λ (g h : Group). naming_rows_of g ≡ naming_rows_of h) gs hs → AllZip (λ (g h : Group). g.naming ≡ h.naming) gs hs
same_namings [] [] e = tt
same_namings [] (h ∷ hs) e = e
same_namings (g ∷ gs) [] e = e
same_namings (g ∷ gs) (h ∷ hs) e = (one_naming g.row.num h.row.num g.naming h.naming e.0, same_namings gs hs e.1)

regroup : (e : Entity) (r r' : EntityRow) (v v' : List VolumeRow) (c c' : List CellRow) (n n' : Option ℕ) → r ≡ r' → v ≡ v' → c ≡ c' → n ≡ n' → SpellsEntity r' v' c' n' e → SpellsEntity r v c n e
regroup e r r' v v' c c' n n' p q s u has = subst (λ x. SpellsEntity x v c n e) (sym p) (subst (λ x. SpellsEntity r' x c n e) (sym q) (subst (λ x. SpellsEntity r' v' x n e) (sym s) (subst (λ x. SpellsEntity r' v' c' x e) (sym u) has)))

module _ (s t : ℕ) (subs : List SubGroup) (apart : Differ (λ (g : SubGroup). g.row.num) subs) where
  same_groups : (gs hs : List Group) → AllByRecursion (IsGroup s subs) gs → AllByRecursion (IsGroup t subs) hs → AllZip (λ (g h : Group). g.row ≡ h.row) gs hs → AllZip (λ (g h : Group). g.volumes ≡ h.volumes) gs hs → AllZip (λ (g h : Group). g.cells ≡ h.cells) gs hs
      → AllZip (λ (g h : Group). g.naming ≡ h.naming) gs hs → gs ≡ hs
  same_groups [] [] p q rows volumes cells namings = refl
  same_groups [] (h ∷ hs) p q rows volumes cells namings = absurd rows
  same_groups (g ∷ gs) [] p q rows volumes cells namings = absurd rows
  same_groups (g ∷ gs) (h ∷ hs) p q rows volumes cells namings =
      let named = one_named subs g.naming (subscription_of g.entity.nature) (subscription_of h.entity.nature) apart p.0.names (subst (λ n. Names subs n (subscription_of h.entity.nature)) (sym namings.0) q.0.names) in
      let theirs = regroup h.entity g.row h.row g.volumes h.volumes g.cells h.cells (subscription_of g.entity.nature) (subscription_of h.entity.nature) rows.0 volumes.0 cells.0 named q.0.spelt in
      let entity = one_entity g.row g.volumes g.cells (subscription_of g.entity.nature) g.entity h.entity p.0.spelt theirs in
      let head : g ≡ h = λ i. record { row = rows.0 i; volumes = volumes.0 i; cells = cells.0 i; naming = namings.0 i; entity = entity i } in
      ap₂ ◌∷◌ head (same_groups gs hs p.1 q.1 rows.1 volumes.1 cells.1 namings.1)

pub one_rows : (gs hs : List Group) → IsAscending IsBefore gs → IsAscending IsBefore hs → IsPermutation (map (λ (g : Group). g.row) gs) (map (λ (g : Group). g.row) hs) → AllZip (λ (g h : Group). g.row ≡ h.row) gs hs
one_rows gs hs up rise same = same_rows gs hs (rises_once (λ (a b : EntityRow). int_cmp a.num b.num) row_total (map (λ (g : Group). g.row) gs) (map (λ (g : Group). g.row) hs)
    (ascending-map (λ (a b : EntityRow). int_cmp a.num b.num ≡ Less) (λ (g : Group). g.row) gs up) (ascending-map (λ (a b : EntityRow). int_cmp a.num b.num ≡ Less) (λ (g : Group). g.row) hs rise) same)

module _ (s t : ℕ) (subs : List SubGroup) (gs hs : List Group) (p : AllByRecursion (IsGroup s subs) gs) (q : AllByRecursion (IsGroup t subs) hs) (up : IsAscending IsBefore gs) (rise : IsAscending IsBefore hs) where
  pub one_groups : Differ (λ (g : SubGroup). g.row.num) subs → IsPermutation (map (λ (g : Group). g.row) gs) (map (λ (g : Group). g.row) hs) → IsPermutation (flat_map (λ (g : Group). g.volumes) gs) (flat_map (λ (g : Group). g.volumes) hs)
      → IsPermutation (flat_map (λ (g : Group). g.cells) gs) (flat_map (λ (g : Group). g.cells) hs) → IsPermutation (flat_map naming_rows_of gs) (flat_map naming_rows_of hs) → gs ≡ hs
  one_groups differ rows volumes cells namings =
      let heads = one_rows gs hs up rise rows in
      let numbers = same_numbers gs hs heads in
      let apart = numbers_differ gs up in
      let v = rises_once volume_cmp volume_total _ _ (all_volumes_rise s subs gs p up) (all_volumes_rise t subs hs q rise) volumes in
      let c = rises_once cell_cmp cell_total _ _ (all_cells_rise s subs gs p up) (all_cells_rise t subs hs q rise) cells in
      let n = rises_once naming_cmp naming_total _ _ (all_namings_rise gs up) (all_namings_rise hs rise) namings in
      same_groups s t subs differ gs hs p q heads
      (one_flat (λ (v : VolumeRow). v.entity) (λ (g : Group). g.row.num) (λ g. g.volumes) gs hs numbers (volumes_borne s subs gs p) (volumes_borne t subs hs q) apart (sym v))
      (one_flat (λ (c : CellRow). c.entity) (λ (g : Group). g.row.num) (λ g. g.cells) gs hs numbers (cells_borne s subs gs p) (cells_borne t subs hs q) apart (sym c))
      (same_namings gs hs (one_flat named_in (λ (g : Group). g.row.num) naming_rows_of gs hs numbers (namings_borne gs) (namings_borne hs) apart (sym n)))

-- ---- the law

one_serial : (f m n : ℕ) → meta_values f m ∷ [] ≡ meta_values f n ∷ [] → m ≡ n
one_serial f m n e = cc

same_later : (format : Format) (D E : Database) → D.trees ≡ E.trees → (t : ℕ) → later_rows format D t ≡ later_rows format E t
same_later One D E same t = refl
same_later TwoUnindexed D E same t = ap (λ (db : Trees). db t) same
same_later Two D E same t = ap (λ (db : Trees). db t) same
same_later OldOne D E same t = refl
same_later OldTwoUnindexed D E same t = ap (λ (db : Trees). db (old_tree t)) same
same_later OldTwo D E same t = ap (λ (db : Trees). db (old_tree t)) same

same_stated : (format : Format) (D E : Database) → D.trees ≡ E.trees → availability_rows format D ≡ availability_rows format E
same_stated One D E same = ap (λ (db : Trees). db 7) same
same_stated TwoUnindexed D E same = ap (λ (db : Trees). db 7) same
same_stated Two D E same = ap (λ (db : Trees). db 7) same
same_stated OldOne D E same = ap (λ (db : Trees). db 8) same
same_stated OldTwoUnindexed D E same = ap (λ (db : Trees). db 8) same
same_stated OldTwo D E same = ap (λ (db : Trees). db 8) same

-- Databases with the same rows represent at most one airspace of a format.
pub one_airspace_of : (format : Format) (D E : Database) (a b : Airspace) → D.trees ≡ E.trees → SpellsAs format D a → SpellsAs format E b → a ≡ b
one_airspace_of format D E a b same p q =
    let tree = λ (t : ℕ). ap (λ (db : Trees). db t) same in
    let later = same_later format D E same in
    let serial = one_serial (format_number format) a.serial b.serial (sym p.meta ∙ (ap (map meta_columns) (tree 0) ∙ q.meta)) in
    let sub_rows = one_table sub_values sub_of_values sub_back (map (λ (s : SubGroup). s.row) p.subs) (map (λ (s : SubGroup). s.row) q.subs) _ _ (ap (map sub_columns) (later 9))
    (subst (λ l. IsPermutation l (map sub_columns (later_rows format D 9))) (sym (map-map sub_values (λ (s : SubGroup). s.row) p.subs)) p.sub_rows)
    (subst (λ l. IsPermutation l (map sub_columns (later_rows format E 9))) (sym (map-map sub_values (λ (s : SubGroup). s.row) q.subs)) q.sub_rows) in
    let sub_cells = one_table sub_cell_values sub_cell_of_values sub_cell_back (flat_map (λ (s : SubGroup). s.cells) p.subs) (flat_map (λ (s : SubGroup). s.cells) q.subs) _ _ (ap (map five_columns) (later 11))
    (subst (λ l. IsPermutation l (map five_columns (later_rows format D 11))) (sym (map-flat_map sub_cell_values (λ (s : SubGroup). s.cells) p.subs)) p.sub_cells)
    (subst (λ l. IsPermutation l (map five_columns (later_rows format E 11))) (sym (map-flat_map sub_cell_values (λ (s : SubGroup). s.cells) q.subs)) q.sub_cells) in
    let subs = one_subs a.serial b.serial p.subs q.subs p.each_sub q.each_sub p.subs_rising q.subs_rising sub_rows sub_cells in
    let sub_pairs = IsPermutation-trans _ _ _ (IsPermutation-sym _ _ p.subs_kept) (subst (λ (ss : List SubGroup). IsPermutation (map sub_pair_of ss) (entries b.subscriptions)) (sym subs) q.subs_kept) in
    let subscriptions = one_map nat_cmp nat_cmp_total a.subscriptions b.subscriptions sub_pairs in
    let rows = one_table entity_values entity_of_values entity_back (map (λ (g : Group). g.row) p.groups) (map (λ (g : Group). g.row) q.groups) _ _ (ap (map entity_columns) (tree 1))
    (subst (λ l. IsPermutation l (map entity_columns (D.trees 1))) (sym (map-map entity_values (λ (g : Group). g.row) p.groups)) p.entities)
    (subst (λ l. IsPermutation l (map entity_columns (E.trees 1))) (sym (map-map entity_values (λ (g : Group). g.row) q.groups)) q.entities) in
    let volumes = one_table volume_values volume_of_values volume_back (flat_map (λ (g : Group). g.volumes) p.groups) (flat_map (λ (g : Group). g.volumes) q.groups) _ _ (ap (map six_columns) (tree 3))
    (subst (λ l. IsPermutation l (map six_columns (D.trees 3))) (sym (map-flat_map volume_values (λ (g : Group). g.volumes) p.groups)) p.volumes)
    (subst (λ l. IsPermutation l (map six_columns (E.trees 3))) (sym (map-flat_map volume_values (λ (g : Group). g.volumes) q.groups)) q.volumes) in
    let cells = one_table cell_values cell_of_values cell_back (flat_map (λ (g : Group). g.cells) p.groups) (flat_map (λ (g : Group). g.cells) q.groups) _ _ (ap (map six_columns) (tree 5))
    (subst (λ l. IsPermutation l (map six_columns (D.trees 5))) (sym (map-flat_map cell_values (λ (g : Group). g.cells) p.groups)) p.cells)
    (subst (λ l. IsPermutation l (map six_columns (E.trees 5))) (sym (map-flat_map cell_values (λ (g : Group). g.cells) q.groups)) q.cells) in
    let namings = IsPermutation-trans _ _ _ p.namings (subst (λ k. IsPermutation k (flat_map naming_rows_of q.groups)) (sym (ap (map two_columns) (later 13))) (IsPermutation-sym _ _ q.namings)) in
    let theirs = subst (λ ss. AllByRecursion (IsGroup b.serial ss) q.groups) (sym subs) q.each in
    let groups = one_groups a.serial b.serial p.subs p.groups q.groups p.each theirs p.rising q.rising (sub_numbers_differ p.subs p.subs_rising) rows volumes cells namings in
    let pairs = IsPermutation-trans _ _ _ (IsPermutation-sym _ _ p.kept) (subst (λ (gs : List Group). IsPermutation (map pair_of gs) (entries b.entities)) (sym groups) q.kept) in
    let entities = one_map key_cmp key_total a.entities b.entities pairs in
    let stated = one_table availability_values stated_of_values stated_back (entries a.availabilities) (entries b.availabilities) _ _ (ap (map three_columns) (same_stated format D E same)) p.availabilities q.availabilities in
    let availabilities = one_map text_cmp nat_list_cmp_total a.availabilities b.availabilities stated in
    λ i. record { entities = entities i; subscriptions = subscriptions i; availabilities = availabilities i; serial = serial i }

pub one_airspace : OneAirspace
one_airspace D E a b same p q = one_airspace_of Two D E a b same p q
