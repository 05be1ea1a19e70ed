-- A proof that rows represent at most one entity.
use Rattle.std.specs.Prelude.{◌≡◌, ◌≢◌, ℕ, zero, suc, ℤ, pos, ◌<◌, List, [], ◌∷◌, ◌^◌, map, Option, refl}
use Rattle.std.specs.List.{AllByRecursion, AllZip, flat_map}
use Rattle.std.proofs.Common.{sym, ap, ap₂, ◌∙◌, arith}
use Rattle.grid_core.specs.Cell.{Cell, IsCell}
use Rattle.grid_core.proofs.CellNumber.{same_cell}
use Rattle.grid_core.specs.Extent.{Extent}
use Rattle.entity_core.specs.declared.nature.State.TheVariants.{Accepted, Activated, Nonconforming, Contingent}
use Rattle.entity_core.specs.declared.nature.Nature.{Nature}
use Rattle.entity_core.specs.declared.nature.Nature.TheVariants.{Intent, Constraint}
use Rattle.entity_core.specs.Entity.{subscription_of}
use Rattle.entity_core.specs.EntityId.{printed}
use Rattle.entity_core.proofs.Ids.{printed_spells}
use Rattle.space_rows.specs.declared.rows.VolumeRow.{VolumeRow}
use Rattle.space_rows.specs.declared.rows.CellRow.{CellRow}
use Rattle.space_rows.specs.Rows.{state_number, placed, PlacedCell, cells_at, placed_cells, all_cells, IsVolume, IsVolumeRow, IsCellRow}
use Rattle.space_rows.specs.Laws.{OneEntity}
use Rattle.space_rows.proofs.Chunks.{Borne, Differ, all_joined, all_turned, one_flat}

-- The nature that a state number represents.
nature_at : ℤ → Option ℕ → Nature
nature_at (pos zero) named = Intent Accepted named
nature_at (pos (suc zero)) named = Intent Activated named
nature_at (pos (suc (suc zero))) named = Intent Nonconforming named
nature_at (pos (suc (suc (suc zero)))) named = Intent Contingent named
nature_at _ named = Constraint

nature_again : (n : Nature) → nature_at (state_number n) (subscription_of n) ≡ n
unfolding nature_at
nature_again (Intent Accepted named) = refl
nature_again (Intent Activated named) = refl
nature_again (Intent Nonconforming named) = refl
nature_again (Intent Contingent named) = refl
nature_again Constraint = refl

pub one_state : (a b : Nature) → state_number a ≡ state_number b → subscription_of a ≡ subscription_of b → a ≡ b
one_state a b e f = sym (nature_again a) ∙ (ap₂ nature_at e f ∙ nature_again b)

pub one_pos : (m n : ℕ) (x : ℤ) → x ≡ pos m → x ≡ pos n → m ≡ n
one_pos m n x p q = let e = sym p ∙ q in cc

pub one_number : (m n : ℕ) → pos m ≡ pos n → m ≡ n
one_number m n e = cc

-- A token is that of one cell.
pub one_token : (num : ℤ) (row : CellRow) (c d : PlacedCell) → IsCell c.cell → IsCell d.cell → IsCellRow num row c → IsCellRow num row d → c ≡ d
one_token num row c d v w p q =
    let volume = one_pos c.volume d.volume row.volume p.volume q.volume in
    let place = one_pos c.place d.place row.place p.place q.place in
    let cell = same_cell c.cell d.cell v w (p.token.reads.number ∙ sym q.token.reads.number) in
    λ i. record { volume = volume i; place = place i; cell = cell i }

one_cells : (num : ℤ) (rows : List CellRow) (cs ds : List PlacedCell) → AllByRecursion (λ c. IsCell c.cell) cs → AllByRecursion (λ c. IsCell c.cell) ds → AllZip (IsCellRow num) rows cs → AllZip (IsCellRow num) rows ds → cs ≡ ds
one_cells num [] [] [] v w p q = refl
one_cells num [] [] (d ∷ ds) v w p q = absurd q
one_cells num [] (c ∷ cs) ds v w p q = absurd p
one_cells num (r ∷ rs) [] ds v w p q = absurd p
one_cells num (r ∷ rs) (c ∷ cs) [] v w p q = absurd q
one_cells num (r ∷ rs) (c ∷ cs) (d ∷ ds) v w p q = ap₂ ◌∷◌ (one_token num r c d v.0 w.0 p.0 q.0) (one_cells num rs cs ds v.1 w.1 p.1 q.1)

-- Holds if two volumes have the same position, altitudes and times.
abbrev Bounds : ℕ × Extent → ℕ × Extent → Type 0
Bounds a b = (a.0 ≡ b.0) × (a.1.altitude ≡ b.1.altitude) × (a.1.time ≡ b.1.time)

pub one_bounds : (num : ℤ) (row : VolumeRow) (a b : ℕ × Extent) → IsVolumeRow num row a → IsVolumeRow num row b → Bounds a b
one_bounds num row a b p q = (
  one_pos a.0 b.0 row.place p.place q.place,
  λ i. ((sym p.alt_lower ∙ q.alt_lower) i, (sym p.alt_upper ∙ q.alt_upper) i),
  λ i. (one_pos a.1.time.0 b.1.time.0 row.time_start p.time_start q.time_start i, one_pos a.1.time.1 b.1.time.1 row.time_end p.time_end q.time_end i),
)

all_bounds : (num : ℤ) (rows : List VolumeRow) (xs ys : List (ℕ × Extent)) → AllZip (IsVolumeRow num) rows xs → AllZip (IsVolumeRow num) rows ys → AllZip Bounds xs ys
all_bounds num [] [] [] p q = tt
all_bounds num [] [] (y ∷ ys) p q = q
all_bounds num [] (x ∷ xs) ys p q = absurd p
all_bounds num (r ∷ rs) [] ys p q = absurd p
all_bounds num (r ∷ rs) (x ∷ xs) [] p q = q
all_bounds num (r ∷ rs) (x ∷ xs) (y ∷ ys) p q = (one_bounds num r x y p.0 q.0, all_bounds num rs xs ys p.1 q.1)

-- Removing the positions from placed cells returns the cells.
unplaced : (k n : ℕ) (cs : List Cell) → map (λ (c : PlacedCell). c.cell) (cells_at k n cs) ≡ cs
unplaced k n [] = refl
unplaced k n (c ∷ cs) = ap (λ l. c ∷ l) (unplaced k (suc n) cs)

pub bears_place : (k n : ℕ) (cs : List Cell) → AllByRecursion (λ (c : PlacedCell). c.volume ≡ k) (cells_at k n cs)
bears_place k n [] = tt
bears_place k n (c ∷ cs) = (refl, bears_place k (suc n) cs)

pub bear_places : (xs : List (ℕ × Extent)) → Borne (λ (c : PlacedCell). c.volume) (λ v. v.0) placed_cells xs
bear_places [] = tt
bear_places (x ∷ xs) = (bears_place x.0 0 x.1.cells, bear_places xs)

pub past_places : {X : Type 0} (k n : ℕ) (xs : List X) → k < n → AllByRecursion (λ (y : ℕ × X). k < y.0) (placed n xs)
past_places k n [] h = tt
past_places k n (x ∷ xs) h = (h, past_places k (suc n) xs (omega arith))

other_place : (k m : ℕ) → k < m → k ≢ m
other_place k m h e = omega (arith, e, h)

pub places_differ : {X : Type 0} (n : ℕ) (xs : List X) → Differ (λ (v : ℕ × X). v.0) (placed n xs)
places_differ n [] = tt
places_differ {X} n (x ∷ xs) = (all_turned (λ (y : ℕ × X). n < y.0) (λ y. n ≢ y.0) (λ y h. other_place n y.0 h) (placed (suc n) xs) (past_places n (suc n) xs (omega arith)), places_differ (suc n) xs)

same_extents : (n : ℕ) (es fs : List Extent) → AllZip Bounds (placed n es) (placed n fs) → AllZip (λ a b. placed_cells a ≡ placed_cells b) (placed n es) (placed n fs) → es ≡ fs
same_extents n [] [] p q = refl
same_extents n [] (f ∷ fs) p q = absurd p
same_extents n (e ∷ es) [] p q = absurd p
same_extents n (e ∷ es) (f ∷ fs) p q =
    let cells : e.cells ≡ f.cells = sym (unplaced n 0 e.cells) ∙ (ap (map (λ (c : PlacedCell). c.cell)) q.0 ∙ unplaced n 0 f.cells) in
    let head : e ≡ f = λ i. record { cells = cells i; altitude = p.0.1 i; time = p.0.2 i } in
    ap₂ ◌∷◌ head (same_extents (suc n) es fs p.1 q.1)

same_places : (xs ys : List (ℕ × Extent)) → AllZip Bounds xs ys → AllZip (λ (a b : ℕ × Extent). a.0 ≡ b.0) xs ys
same_places [] [] p = tt
same_places [] (y ∷ ys) p = p
same_places (x ∷ xs) [] p = p
same_places (x ∷ xs) (y ∷ ys) p = (p.0.0, same_places xs ys p.1)

valid_cells : (k n : ℕ) (cs : List Cell) → AllByRecursion IsCell cs → AllByRecursion (λ (c : PlacedCell). IsCell c.cell) (cells_at k n cs)
valid_cells k n [] v = tt
valid_cells k n (c ∷ cs) v = (v.0, valid_cells k (suc n) cs v.1)

all_valid : (n : ℕ) (es : List Extent) → AllByRecursion IsVolume es → AllByRecursion (λ c. IsCell c.cell) (flat_map placed_cells (placed n es))
all_valid n [] v = tt
all_valid n (e ∷ es) v = all_joined (λ c. IsCell c.cell) (placed_cells (n, e)) _ (valid_cells n 0 e.cells v.0.cells) (all_valid (suc n) es v.1)

pub one_volumes : (num : ℤ) (volumes : List VolumeRow) (cells : List CellRow) (es fs : List Extent) → AllByRecursion IsVolume es → AllByRecursion IsVolume fs → AllZip (IsVolumeRow num) volumes (placed 0 es) → AllZip (IsVolumeRow num) volumes (placed 0 fs)
    → AllZip (IsCellRow num) cells (all_cells es) → AllZip (IsCellRow num) cells (all_cells fs) → es ≡ fs
one_volumes num volumes cells es fs v w p q r s =
    let bounds = all_bounds num volumes (placed 0 es) (placed 0 fs) p q in
    let whole = one_cells num cells (all_cells es) (all_cells fs) (all_valid 0 es v) (all_valid 0 fs w) r s in
    same_extents 0 es fs bounds (one_flat (λ (c : PlacedCell). c.volume) (λ v. v.0) placed_cells (placed 0 es) (placed 0 fs) (same_places (placed 0 es) (placed 0 fs) bounds) (bear_places (placed 0 es)) (bear_places (placed 0 fs)) (places_differ 0 es) whole)

pub one_id : (text : List ℕ) (m n : ℕ) → m < 2 ^ 128 → n < 2 ^ 128 → text ≡ printed m → text ≡ printed n → m ≡ n
one_id text m n a b p q = let e = sym (printed_spells m text p a) ∙ printed_spells n text q b in cc

-- Rows represent at most one entity.
pub one_entity : OneEntity
one_entity row volumes cells named e f p q =
    let nature = one_state e.nature f.nature (sym p.entity.state ∙ q.entity.state) (sym p.named_is ∙ q.named_is) in
    let id = one_id row.id e.id f.id p.kept.id q.kept.id p.entity.id q.entity.id in
    let manager = sym p.entity.manager ∙ q.entity.manager in
    let version = one_pos e.version f.version row.version p.entity.version q.entity.version in
    let serial = one_pos e.serial f.serial row.serial p.entity.serial q.entity.serial in
    let ovn = sym p.entity.ovn ∙ q.entity.ovn in
    let all = one_volumes row.num volumes cells e.volumes f.volumes p.kept.volumes q.kept.volumes p.volumes_are q.volumes_are p.cells_are q.cells_are in
    let url = sym p.entity.url ∙ q.entity.url in
    λ i. record { nature = nature i; id = id i; manager = manager i; version = version i; serial = serial i; ovn = ovn i; volumes = all i; url = url i }
