-- Proofs about the order of the rows of an airspace's entities.
use Rattle.std.specs.Prelude.{◌≡◌, ◌⊎◌, ℕ, suc, ℤ, pos, ◌<◌, List, [], ◌∷◌, ◌++◌, map, IsPermutation, Option, Some, None, refl, false}
use Rattle.std.specs.List.{AllByRecursion, AllZip, flat_map}
use Rattle.std.specs.Ordering.{int_cmp, ordering_then, is_gt}
use Rattle.std.specs.Cmp.{IsTotalOrder}
use Rattle.std.specs.declared.cmp.Ordering.{Ordering}
use Rattle.std.specs.declared.cmp.Ordering.TheVariants.{Less}
use Rattle.std.proofs.Common.{ap, arith, inl, inr}
use Rattle.std.proofs.lemmas.Int.{ints}
use Rattle.std.proofs.lemmas.Cmp.{int_cmp_total, on_total, then_total, tied_itself}
use Rattle.sqlite_value.specs.declared.value.Value.TheVariants.{Int}
use Rattle.sqlite_value.specs.Order.{Row}
use Rattle.sqlite_trees.specs.Tree.{IsAscending}
use Rattle.sqlite_keyed.proofs.KeyedLemmas.{Less-from_lt}
use Rattle.sqlite_keyed.proofs.ListLemmas.{ascending_weaker, ascending-append}
use Rattle.sqlite_keyed.proofs.SortLemmas.{sorted_unique}
use Rattle.sqlite_exec.proofs.PartitionLemmas.{sorted_from_ascending}
use Rattle.grid_core.specs.Cell.{Cell}
use Rattle.grid_core.specs.Extent.{Extent}
use Rattle.space_rows.specs.declared.rows.VolumeRow.{VolumeRow}
use Rattle.space_rows.specs.declared.rows.CellRow.{CellRow}
use Rattle.space_rows.specs.declared.rows.SubCellRow.{SubCellRow}
use Rattle.space_rows.specs.Subs.{IsSubCellRow}
use Rattle.space_rows.specs.Rows.{placed, PlacedCell, placed_cells, all_cells, IsVolumeRow, IsCellRow}
use Rattle.space_rows.proofs.OneEntity.{past_places}
use Rattle.space_rows.proofs.Chunks.{all_joined, Borne}
use Rattle.space_sql_schema.specs.Spelling.{SubGroup, IsSubGroup, IsSubBefore, Group, IsGroup, IsBefore, naming_rows, naming_rows_of}

-- ---- the order of the rows

abbrev pub volume_cmp : VolumeRow → VolumeRow → Ordering
volume_cmp v w = ordering_then (int_cmp v.entity w.entity) (int_cmp v.place w.place)

abbrev pub cell_cmp : CellRow → CellRow → Ordering
cell_cmp c d = ordering_then (int_cmp c.entity d.entity) (ordering_then (int_cmp c.volume d.volume) (int_cmp c.place d.place))

pub volume_total : IsTotalOrder volume_cmp
volume_total = then_total (on_total (λ (v : VolumeRow). v.entity) int_cmp_total) (on_total (λ (v : VolumeRow). v.place) int_cmp_total)

pub cell_total : IsTotalOrder cell_cmp
cell_total = then_total (on_total (λ (c : CellRow). c.entity) int_cmp_total) (then_total (on_total (λ (c : CellRow). c.volume) int_cmp_total) (on_total (λ (c : CellRow). c.place) int_cmp_total))

-- A list has one ascending order.
pub rises_once : {X : Type 0} (cmp : X → X → Ordering) → IsTotalOrder cmp → (xs ys : List X) → IsAscending (λ a b. cmp a b ≡ Less) xs → IsAscending (λ a b. cmp a b ≡ Less) ys → IsPermutation xs ys → ys ≡ xs
rises_once cmp total xs ys p q same = sorted_unique cmp total xs ys p same (sorted_from_ascending cmp total ys (ascending_weaker _ (λ a b. is_gt (cmp a b) ≡ false) (λ a b h. ap is_gt h) ys q))

-- A flattened list is ascending if its parts and their elements are.
pub ascending_flat : {A B : Type 0} (R : B → B → Type 0) (S : A → A → Type 0) (P : A → Type 0) (f : A → List B) → ((a b : A) → P a → P b → S a b → AllByRecursion (λ x. AllByRecursion (R x) (f b)) (f a))
    → ((a : A) → P a → IsAscending R (f a)) → (xs : List A) → AllByRecursion P xs → IsAscending S xs → IsAscending R (flat_map f xs)
ascending_flat R S P f cross own [] all up = tt
ascending_flat {A} {B} R S P f cross own (x ∷ xs) all up = ascending-append R (f x) (flat_map f xs) (own x all.0) (ascending_flat R S P f cross own xs all.1 up.1) (whole xs all.1 up.0)
  where
    both : (y : A) (bs : List B) (l : List B) → AllByRecursion (λ x. AllByRecursion (R x) (f y)) bs → AllByRecursion (λ x. AllByRecursion (R x) l) bs → AllByRecursion (λ x. AllByRecursion (R x) (f y ++ l)) bs
    both y [] l p q = tt
    both y (b ∷ bs) l p q = (all_joined (R b) (f y) l p.0 q.0, both y bs l p.1 q.1)

    none : (bs : List B) → AllByRecursion (λ x. AllByRecursion (R x) []) bs
    none [] = tt
    none (b ∷ bs) = (tt, none bs)

    whole : (ys : List A) → AllByRecursion P ys → AllByRecursion (S x) ys → AllByRecursion (λ b. AllByRecursion (R b) (flat_map f ys)) (f x)
    whole [] p s = none (f x)
    whole (y ∷ ys) p s = both y (f x) (flat_map f ys) (cross x y all.0 p.0 s.0) (whole ys p.1 s.1)

below_pos : (m n : ℕ) → m < n → int_cmp (pos m) (pos n) ≡ Less
below_pos m n h = Less-from_lt (pos m) (pos n) (omega (arith, ints, h))

-- ---- volumes

abbrev VolumeLess : VolumeRow → VolumeRow → Type 0
VolumeLess v w = volume_cmp v w ≡ Less

place_less : (num : ℤ) (k m : ℕ) (v w : VolumeRow) → v.entity ≡ num → w.entity ≡ num → v.place ≡ pos k → w.place ≡ pos m → k < m → VolumeLess v w
place_less num k m v w a b p q h = rw (a, b, p, q, tied_itself int_cmp_total num, below_pos k m h)

module _ (num : ℤ) where
  past : (k : ℕ) (v : VolumeRow) (vs : List VolumeRow) (xs : List (ℕ × Extent)) → v.entity ≡ num → v.place ≡ pos k → AllZip (IsVolumeRow num) vs xs → AllByRecursion (λ (x : ℕ × Extent). k < x.0) xs → AllByRecursion (VolumeLess v) vs
  past k v [] xs a p zip low = tt
  past k v (w ∷ vs) [] a p zip low = absurd zip
  past k v (w ∷ vs) (x ∷ xs) a p zip low = (place_less num k x.0 v w a zip.0.entity p zip.0.place low.0, past k v vs xs a p zip.1 low.1)

  pub volumes_rise : (k : ℕ) (vs : List VolumeRow) (es : List Extent) → AllZip (IsVolumeRow num) vs (placed k es) → IsAscending VolumeLess vs
  volumes_rise k [] es zip = tt
  volumes_rise k (v ∷ vs) [] zip = absurd zip
  volumes_rise k (v ∷ vs) (e ∷ es) zip = (past k v vs (placed (suc k) es) zip.0.entity zip.0.place zip.1 (past_places k (suc k) es (omega arith)), volumes_rise (suc k) vs es zip.1)

  pub volumes_of : (vs : List VolumeRow) (xs : List (ℕ × Extent)) → AllZip (IsVolumeRow num) vs xs → AllByRecursion (λ (v : VolumeRow). v.entity ≡ num) vs
  volumes_of [] xs zip = tt
  volumes_of (v ∷ vs) [] zip = absurd zip
  volumes_of (v ∷ vs) (x ∷ xs) zip = (zip.0.entity, volumes_of vs xs zip.1)

-- ---- cells

abbrev CellLess : CellRow → CellRow → Type 0
CellLess c d = cell_cmp c d ≡ Less

abbrev PlacedLess : PlacedCell → PlacedCell → Type 0
PlacedLess c d = (c.volume < d.volume) ⊎ ((c.volume ≡ d.volume) × (c.place < d.place))

own_places : (k n : ℕ) (cs : List Cell) → IsAscending PlacedLess (map (λ c. record { volume = k; place = c.0; cell = c.1 }) (placed n cs))
own_places k n [] = tt
own_places k n (c ∷ cs) = (later k n (suc n) c cs (omega arith), own_places k (suc n) cs)
  where
    later : (k n m : ℕ) (c : Cell) (cs : List Cell) → n < m → AllByRecursion (PlacedLess (record { volume = k; place = n; cell = c })) (map (λ c. record { volume = k; place = c.0; cell = c.1 }) (placed m cs))
    later k n m c [] h = tt
    later k n m c (d ∷ cs) h = (inr (refl, h), later k n (suc m) c cs (omega arith))

crossed : (a b : ℕ × Extent) → Unit {0} → Unit {0} → a.0 < b.0 → AllByRecursion (λ x. AllByRecursion (PlacedLess x) (placed_cells b)) (placed_cells a)
crossed a b p q h = each 0 a.1.cells
  where
    one : (c : PlacedCell) (n : ℕ) (ds : List Cell) → c.volume < b.0 → AllByRecursion (PlacedLess c) (map (λ d. record { volume = b.0; place = d.0; cell = d.1 }) (placed n ds))
    one c n [] low = tt
    one c n (d ∷ ds) low = (inl low, one c (suc n) ds low)

    each : (n : ℕ) (cs : List Cell) → AllByRecursion (λ x. AllByRecursion (PlacedLess x) (placed_cells b)) (map (λ d. record { volume = a.0; place = d.0; cell = d.1 }) (placed n cs))
    each n [] = tt
    each n (c ∷ cs) = (one (record { volume = a.0; place = n; cell = c }) 0 b.1.cells h, each (suc n) cs)

places_rise : {X : Type 0} (n : ℕ) (xs : List X) → IsAscending (λ (a b : ℕ × X). a.0 < b.0) (placed n xs)
places_rise n [] = tt
places_rise n (x ∷ xs) = (past_places n (suc n) xs (omega arith), places_rise (suc n) xs)

all_unit : {X : Type 0} (xs : List X) → AllByRecursion (λ _. Unit {0}) xs
all_unit [] = tt
all_unit (x ∷ xs) = (tt, all_unit xs)

placed_rise : (es : List Extent) → IsAscending PlacedLess (all_cells es)
placed_rise es = ascending_flat PlacedLess (λ a b. a.0 < b.0) (λ _. Unit {0}) placed_cells crossed (λ a _. own_places a.0 0 a.1.cells) (placed 0 es) (all_unit (placed 0 es)) (places_rise 0 es)

cell_less : (num : ℤ) (c d : CellRow) (x y : PlacedCell) → IsCellRow num c x → IsCellRow num d y → PlacedLess x y → CellLess c d
cell_less num c d x y p q (inl h) = rw (p.entity, q.entity, p.volume, q.volume, tied_itself int_cmp_total num, below_pos x.volume y.volume h)
cell_less num c d x y p q (inr h) = rw (p.entity, q.entity, p.volume, q.volume, p.place, q.place, tied_itself int_cmp_total num, h.0, tied_itself int_cmp_total (pos y.volume), below_pos x.place y.place h.1)

module _ (num : ℤ) where
  less_than : (c : CellRow) (x : PlacedCell) (cs : List CellRow) (xs : List PlacedCell) → IsCellRow num c x → AllZip (IsCellRow num) cs xs → AllByRecursion (PlacedLess x) xs → AllByRecursion (CellLess c) cs
  less_than c x [] xs p zip up = tt
  less_than c x (d ∷ cs) [] p zip up = absurd zip
  less_than c x (d ∷ cs) (y ∷ xs) p zip up = (cell_less num c d x y p zip.0 up.0, less_than c x cs xs p zip.1 up.1)

  pub cells_rise : (cs : List CellRow) (xs : List PlacedCell) → AllZip (IsCellRow num) cs xs → IsAscending PlacedLess xs → IsAscending CellLess cs
  cells_rise [] xs zip up = tt
  cells_rise (c ∷ cs) [] zip up = absurd zip
  cells_rise (c ∷ cs) (x ∷ xs) zip up = (less_than c x cs xs zip.0 zip.1 up.0, cells_rise cs xs zip.1 up.1)

  pub cells_of : (cs : List CellRow) (xs : List PlacedCell) → AllZip (IsCellRow num) cs xs → AllByRecursion (λ (c : CellRow). c.entity ≡ num) cs
  cells_of [] xs zip = tt
  cells_of (c ∷ cs) [] zip = absurd zip
  cells_of (c ∷ cs) (x ∷ xs) zip = (zip.0.entity, cells_of cs xs zip.1)

-- ---- the rows of groups

module _ (serial : ℕ) (subs : List SubGroup) where
  first_volumes : (v : VolumeRow) (m n : ℤ) (ws : List VolumeRow) → v.entity ≡ m → int_cmp m n ≡ Less → AllByRecursion (λ (w : VolumeRow). w.entity ≡ n) ws → AllByRecursion (VolumeLess v) ws
  first_volumes v m n [] a h all = tt
  first_volumes v m n (w ∷ ws) a h all = (rw (a, all.0, h), first_volumes v m n ws a h all.1)

  cross_volumes : (m n : ℤ) (vs ws : List VolumeRow) → int_cmp m n ≡ Less → AllByRecursion (λ (v : VolumeRow). v.entity ≡ m) vs → AllByRecursion (λ (w : VolumeRow). w.entity ≡ n) ws → AllByRecursion (λ v. AllByRecursion (VolumeLess v) ws) vs
  cross_volumes m n [] ws h p q = tt
  cross_volumes m n (v ∷ vs) ws h p q = (first_volumes v m n ws p.0 h q, cross_volumes m n vs ws h p.1 q)

  first_cells : (v : CellRow) (m n : ℤ) (ws : List CellRow) → v.entity ≡ m → int_cmp m n ≡ Less → AllByRecursion (λ (w : CellRow). w.entity ≡ n) ws → AllByRecursion (CellLess v) ws
  first_cells v m n [] a h all = tt
  first_cells v m n (w ∷ ws) a h all = (rw (a, all.0, h), first_cells v m n ws a h all.1)

  cross_cells : (m n : ℤ) (vs ws : List CellRow) → int_cmp m n ≡ Less → AllByRecursion (λ (v : CellRow). v.entity ≡ m) vs → AllByRecursion (λ (w : CellRow). w.entity ≡ n) ws → AllByRecursion (λ v. AllByRecursion (CellLess v) ws) vs
  cross_cells m n [] ws h p q = tt
  cross_cells m n (v ∷ vs) ws h p q = (first_cells v m n ws p.0 h q, cross_cells m n vs ws h p.1 q)

  pub all_volumes_rise : (gs : List Group) → AllByRecursion (IsGroup serial subs) gs → IsAscending IsBefore gs → IsAscending VolumeLess (flat_map (λ (g : Group). g.volumes) gs)
  all_volumes_rise gs each up = ascending_flat VolumeLess IsBefore (IsGroup serial subs) (λ g. g.volumes)
      (λ g h p q s. cross_volumes g.row.num h.row.num g.volumes h.volumes s (volumes_of g.row.num g.volumes _ p.spelt.volumes_are) (volumes_of h.row.num h.volumes _ q.spelt.volumes_are))
      (λ g p. volumes_rise g.row.num 0 g.volumes g.entity.volumes p.spelt.volumes_are) gs each up

  pub all_cells_rise : (gs : List Group) → AllByRecursion (IsGroup serial subs) gs → IsAscending IsBefore gs → IsAscending CellLess (flat_map (λ (g : Group). g.cells) gs)
  all_cells_rise gs each up = ascending_flat CellLess IsBefore (IsGroup serial subs) (λ g. g.cells)
      (λ g h p q s. cross_cells g.row.num h.row.num g.cells h.cells s (cells_of g.row.num g.cells _ p.spelt.cells_are) (cells_of h.row.num h.cells _ q.spelt.cells_are))
      (λ g p. cells_rise g.row.num g.cells (all_cells g.entity.volumes) p.spelt.cells_are (placed_rise g.entity.volumes)) gs each up

-- ---- the rows of subscriptions

abbrev pub sub_cell_cmp : SubCellRow → SubCellRow → Ordering
sub_cell_cmp c d = ordering_then (int_cmp c.subscription d.subscription) (int_cmp c.place d.place)

pub sub_cell_total : IsTotalOrder sub_cell_cmp
sub_cell_total = then_total (on_total (λ (c : SubCellRow). c.subscription) int_cmp_total) (on_total (λ (c : SubCellRow). c.place) int_cmp_total)

abbrev SubCellLess : SubCellRow → SubCellRow → Type 0
SubCellLess c d = sub_cell_cmp c d ≡ Less

sub_place_less : (num : ℤ) (k m : ℕ) (c d : SubCellRow) → c.subscription ≡ num → d.subscription ≡ num → c.place ≡ pos k → d.place ≡ pos m → k < m → SubCellLess c d
sub_place_less num k m c d a b p q h = rw (a, b, p, q, tied_itself int_cmp_total num, below_pos k m h)

module _ (num : ℤ) where
  past_cell : (k : ℕ) (c : SubCellRow) (cs : List SubCellRow) (xs : List (ℕ × Cell)) → c.subscription ≡ num → c.place ≡ pos k → AllZip (IsSubCellRow num) cs xs → AllByRecursion (λ (x : ℕ × Cell). k < x.0) xs → AllByRecursion (SubCellLess c) cs
  past_cell k c [] xs a p zip low = tt
  past_cell k c (d ∷ cs) [] a p zip low = absurd zip
  past_cell k c (d ∷ cs) (x ∷ xs) a p zip low = (sub_place_less num k x.0 c d a zip.0.subscription p zip.0.place low.0, past_cell k c cs xs a p zip.1 low.1)

  pub sub_cells_rise : (k : ℕ) (cs : List SubCellRow) (xs : List Cell) → AllZip (IsSubCellRow num) cs (placed k xs) → IsAscending SubCellLess cs
  sub_cells_rise k [] xs zip = tt
  sub_cells_rise k (c ∷ cs) [] zip = absurd zip
  sub_cells_rise k (c ∷ cs) (x ∷ xs) zip = (past_cell k c cs (placed (suc k) xs) zip.0.subscription zip.0.place zip.1 (past_places k (suc k) xs (omega arith)), sub_cells_rise (suc k) cs xs zip.1)

  pub sub_cells_of : (cs : List SubCellRow) (xs : List (ℕ × Cell)) → AllZip (IsSubCellRow num) cs xs → AllByRecursion (λ (c : SubCellRow). c.subscription ≡ num) cs
  sub_cells_of [] xs zip = tt
  sub_cells_of (c ∷ cs) [] zip = absurd zip
  sub_cells_of (c ∷ cs) (x ∷ xs) zip = (zip.0.subscription, sub_cells_of cs xs zip.1)

first_sub_cells : (c : SubCellRow) (m n : ℤ) (ds : List SubCellRow) → c.subscription ≡ m → int_cmp m n ≡ Less → AllByRecursion (λ (d : SubCellRow). d.subscription ≡ n) ds → AllByRecursion (SubCellLess c) ds
first_sub_cells c m n [] a h all = tt
first_sub_cells c m n (d ∷ ds) a h all = (rw (a, all.0, h), first_sub_cells c m n ds a h all.1)

cross_sub_cells : (m n : ℤ) (cs ds : List SubCellRow) → int_cmp m n ≡ Less → AllByRecursion (λ (c : SubCellRow). c.subscription ≡ m) cs → AllByRecursion (λ (d : SubCellRow). d.subscription ≡ n) ds → AllByRecursion (λ c. AllByRecursion (SubCellLess c) ds) cs
cross_sub_cells m n [] ds h p q = tt
cross_sub_cells m n (c ∷ cs) ds h p q = (first_sub_cells c m n ds p.0 h q, cross_sub_cells m n cs ds h p.1 q)

pub all_sub_cells_rise : (serial : ℕ) (subs : List SubGroup) → AllByRecursion (IsSubGroup serial) subs → IsAscending IsSubBefore subs → IsAscending SubCellLess (flat_map (λ (s : SubGroup). s.cells) subs)
all_sub_cells_rise serial subs each up = ascending_flat SubCellLess IsSubBefore (IsSubGroup serial) (λ s. s.cells)
    (λ s t p q less. cross_sub_cells s.row.num t.row.num s.cells t.cells less (sub_cells_of s.row.num s.cells _ p.spelt.cells_are) (sub_cells_of t.row.num t.cells _ q.spelt.cells_are))
    (λ s p. sub_cells_rise s.row.num 0 s.cells s.sub.volume.cells p.spelt.cells_are) subs each up

-- ---- the rows of `naming`

-- The number of the entity in a row of `naming`.
pub named_in : Row → ℤ
named_in (Int n ∷ rest) = n
named_in _ = pos 0

abbrev pub naming_cmp : Row → Row → Ordering
naming_cmp r s = int_cmp (named_in r) (named_in s)

pub naming_total : IsTotalOrder naming_cmp
naming_total = on_total named_in int_cmp_total

abbrev NamingLess : Row → Row → Type 0
NamingLess r s = naming_cmp r s ≡ Less

cross_namings : (m n : ℤ) (x y : Option ℤ) → int_cmp m n ≡ Less → AllByRecursion (λ r. AllByRecursion (NamingLess r) (naming_rows n y)) (naming_rows m x)
unfolding named_in
cross_namings m n None y h = tt
cross_namings m n (Some a) None h = (tt, tt)
cross_namings m n (Some a) (Some b) h = ((h, tt), tt)

own_namings : (n : ℤ) (x : Option ℤ) → IsAscending NamingLess (naming_rows n x)
own_namings n None = tt
own_namings n (Some a) = (tt, tt)

pub all_namings_rise : (gs : List Group) → IsAscending IsBefore gs → IsAscending NamingLess (flat_map naming_rows_of gs)
all_namings_rise gs up = ascending_flat NamingLess IsBefore (λ _. Unit {0}) naming_rows_of (λ g h _ _ less. cross_namings g.row.num h.row.num g.naming h.naming less) (λ g _. own_namings g.row.num g.naming) gs (all_unit gs) up

own_number : (n : ℤ) (x : Option ℤ) → AllByRecursion (λ r. named_in r ≡ n) (naming_rows n x)
unfolding named_in
own_number n None = tt
own_number n (Some a) = (refl, tt)

pub namings_borne : (gs : List Group) → Borne named_in (λ (g : Group). g.row.num) naming_rows_of gs
namings_borne [] = tt
namings_borne (g ∷ gs) = (own_number g.row.num g.naming, namings_borne gs)
