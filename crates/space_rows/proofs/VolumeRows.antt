-- Proofs that the volumes of an entity are read row by row, each with the cells of its position.
use Rattle.std.specs.Prelude.{◌≡◌, ℕ, suc, ℤ, pos, ◌+◌, ◌<◌, ◌≤◌, List, [], ◌∷◌, ◌++◌, length, take, drop, ◌^◌, refl, Option, Some, None}
use Rattle.std.specs.List.{AllByRecursion, AllZip, flat_map}
use Rattle.std.proofs.Common.{sym, ap, ap₂, ◌∙◌, subst, append_assoc, arith, take-append-drop}
use Rattle.std.proofs.lemmas.List.{append-nil}
use Rattle.std.proofs.Math.ListN.{drop_of_length-le}
use Rattle.grid_core.specs.Cell.{Cell}
use Rattle.grid_core.proofs.CellNumber.{same_cell}
use Rattle.grid_core.specs.Extent.{Extent, region_of, region_fault}
use Rattle.space_rows.specs.declared.rows.VolumeRow.{VolumeRow}
use Rattle.space_rows.specs.declared.rows.CellRow.{CellRow}
use Rattle.space_rows.specs.Rows.{IsVolume, PlacedCell, placed, placed_cells, IsCellRow, IsVolumeRow}
use Rattle.space_rows.proofs.OneEntity.{one_bounds, one_number}
use Rattle.space_rows.proofs.Chunks.{all_joined}
use Rattle.space_rows.specs.Finds.{Finds}
use Rattle.space_rows.specs.Volumes.{HasBounds, SpellsVolume, SpellsVolumes}
use Rattle.space_rows.specs.Cells.{IsRowInVolume, SpellsCell, SpellsCells, StartsElse}
use Rattle.space_rows.specs.Rows.{cells_at}
use Rattle.space_rows.proofs.ReadSoFar.{ReadSoFar, read_more, read_nowhere, read_all}
use Rattle.space_rows.proofs.CellRows.{one_cells, zip_map, zip_of}

module _ (num : ℤ) (v : ℕ) where
  one_cell : (n : ℕ) (row : CellRow) (c d : Cell) → SpellsCell (IsRowInVolume num v) n row c → SpellsCell (IsRowInVolume num v) n row d → c ≡ d
  one_cell n row c d p q = same_cell c d p.valid q.valid (p.row_is.token.reads.number ∙ sym q.row_is.token.reads.number)

  own_cells : (cells : List CellRow) (e : Extent) → AllZip (IsCellRow num) cells (placed_cells (v, e)) → IsVolume e → SpellsCells (IsRowInVolume num v) 0 cells e.cells
  own_cells cells e are kept = record { rows_are = zip_of (IsCellRow num) _ cells (placed 0 e.cells) are; valid = kept.cells }

  cells_once : (cells : List CellRow) (cs ds : List Cell) → SpellsCells (IsRowInVolume num v) 0 cells cs → SpellsCells (IsRowInVolume num v) 0 cells ds → cs ≡ ds
  cells_once cells cs ds p q = one_cells (IsRowInVolume num v) one_cell 0 cells cs ds p q

  -- If the rows represent no cells, they represent no volume.
  pub no_cells : (row : VolumeRow) (cells : List CellRow) → ((cs : List Cell) → ¬ SpellsCells (IsRowInVolume num v) 0 cells cs) → (e : Extent) → ¬ SpellsVolume num v row cells e
  no_cells row cells none e h = none e.cells (own_cells cells e h.cells_are h.kept)

-- If the cells are read, the bounds decide the rest.
pub found_bounds : (num : ℤ) (v : ℕ) (row : VolumeRow) (cells : List CellRow) (cs : List Cell) (o : Option Extent) → (row.entity ≡ num) × (row.place ≡ pos v) → SpellsCells (IsRowInVolume num v) 0 cells cs
    → Finds (HasBounds row cs) o → Finds (SpellsVolume num v row cells) o
found_bounds num v row cells cs None at s f = λ x h.
    f x (record {
      cells = cells_once num v cells cs x.cells s (own_cells num v cells x h.cells_are h.kept);
      alt_lower = h.row_is.alt_lower;
      alt_upper = h.row_is.alt_upper;
      time_start = h.row_is.time_start;
      time_end = h.row_is.time_end;
      limits = h.kept.limits;
    })
found_bounds num v row cells cs (Some e) at s f =
    let all = subst (SpellsCells (IsRowInVolume num v) 0 cells) f.cells s in
    record {
      row_is = record { entity = at.0; place = at.1; alt_lower = f.alt_lower; alt_upper = f.alt_upper; time_start = f.time_start; time_end = f.time_end };
      cells_are = zip_map (IsCellRow num) _ cells (placed 0 e.cells) all.rows_are;
      kept = record { limits = f.limits; cells = all.valid };
    }

-- ---- splitting related lists

pub split_zip : {A B : Type 0} (R : A → B → Type 0) (xs : List A) (ys zs : List B) → AllZip R xs (ys ++ zs) → (us : List A) × (bs : List A) × (xs ≡ us ++ bs) × AllZip R us ys × AllZip R bs zs
split_zip R xs [] zs p = ([], xs, refl, tt, p)
split_zip R [] (y ∷ ys) zs p = absurd p
split_zip R (x ∷ xs) (y ∷ ys) zs p = let a = split_zip R xs ys zs p.1 in (x ∷ a.0, a.1, ap (λ l. x ∷ l) a.2, (p.0, a.3), a.4)

pub join_zip : {A B : Type 0} (R : A → B → Type 0) (us bs : List A) (ys zs : List B) → AllZip R us ys → AllZip R bs zs → AllZip R (us ++ bs) (ys ++ zs)
join_zip R [] bs [] zs p q = q
join_zip R [] bs (y ∷ ys) zs p q = absurd p
join_zip R (a ∷ us) bs [] zs p q = absurd p
join_zip R (a ∷ us) bs (y ∷ ys) zs p q = (p.0, join_zip R us bs ys zs p.1 q)

abbrev Of : ℕ → CellRow → Type 0
Of v r = r.volume ≡ pos v

-- The rows of a volume end at the first row of another volume.
one_part : (v : ℕ) (xs ys rs ss : List CellRow) → AllByRecursion (Of v) xs → AllByRecursion (Of v) ys → StartsElse v rs → StartsElse v ss → xs ++ rs ≡ ys ++ ss → (xs ≡ ys) × (rs ≡ ss)
one_part v [] [] rs ss p q r s e = (refl, e)
one_part v [] (y ∷ ys) [] ss p q r s e = absurd cc
one_part v [] (y ∷ ys) (z ∷ rs) ss p q r s e = let same : z ≡ y = cc in absurd (r (subst (Of v) (sym same) q.0))
one_part v (x ∷ xs) [] rs [] p q r s e = absurd cc
one_part v (x ∷ xs) [] rs (z ∷ ss) p q r s e = let same : x ≡ z = cc in absurd (s (subst (Of v) same p.0))
one_part v (x ∷ xs) (y ∷ ys) rs ss p q r s e =
    let head : x ≡ y = cc in
    let rest : xs ++ rs ≡ ys ++ ss = cc in
    let more = one_part v xs ys rs ss p.1 q.1 r s rest in
    (ap₂ ◌∷◌ head more.0, more.1)

own_rows : (num : ℤ) (v n : ℕ) (rows : List CellRow) (cs : List Cell) → AllZip (IsCellRow num) rows (cells_at v n cs) → AllByRecursion (Of v) rows
own_rows num v n [] cs p = tt
own_rows num v n (r ∷ rows) [] p = absurd p
own_rows num v n (r ∷ rows) (c ∷ cs) p = (p.0.volume, own_rows num v (suc n) rows cs p.1)

later_cells : (v w n : ℕ) (cs : List Cell) → v < w → AllByRecursion (λ (c : PlacedCell). v < c.volume) (cells_at w n cs)
later_cells v w n [] h = tt
later_cells v w n (c ∷ cs) h = (h, later_cells v w (suc n) cs h)

later_volumes : (v k : ℕ) (es : List Extent) → v < k → AllByRecursion (λ (c : PlacedCell). v < c.volume) (flat_map placed_cells (placed k es))
later_volumes v k [] h = tt
later_volumes v k (e ∷ es) h = all_joined (λ (c : PlacedCell). v < c.volume) (cells_at k 0 e.cells) (flat_map placed_cells (placed (suc k) es)) (later_cells v k 0 e.cells h) (later_volumes v (suc k) es (omega (arith, h)))

starts_else : (num : ℤ) (v : ℕ) (rows : List CellRow) (cs : List PlacedCell) → AllZip (IsCellRow num) rows cs → AllByRecursion (λ (c : PlacedCell). v < c.volume) cs → StartsElse v rows
starts_else num v [] cs p q = tt
starts_else num v (r ∷ rows) [] p q = absurd p
starts_else num v (r ∷ rows) (c ∷ cs) p q = λ e. let lt : v < c.volume = q.0 in let same : v ≡ c.volume = one_number v c.volume (sym e ∙ p.0.volume) in omega (arith, lt, same)

one_volume : (num : ℤ) (v : ℕ) (row : VolumeRow) (cells : List CellRow) (x y : Extent) → SpellsVolume num v row cells x → SpellsVolume num v row cells y → x ≡ y
one_volume num v row cells x y p q =
    let b = one_bounds num row (v, x) (v, y) p.row_is q.row_is in
    let cells = cells_once num v cells x.cells y.cells (own_cells num v cells x p.cells_are p.kept) (own_cells num v cells y q.cells_are q.kept) in
    λ i. record { cells = cells i; altitude = b.1 i; time = b.2 i }

join_volume : (num : ℤ) (v : ℕ) (row : VolumeRow) (rows : List VolumeRow) (own more : List CellRow) (e : Extent) (es : List Extent) → SpellsVolume num v row own e → SpellsVolumes num (suc v) rows more es → SpellsVolumes num v (row ∷ rows) (own ++ more) (e ∷ es)
join_volume num v row rows own more e es p q = record {
  volumes_are = (p.row_is, q.volumes_are);
  cells_are = join_zip (IsCellRow num) own more (placed_cells (v, e)) (flat_map placed_cells (placed (suc v) es)) p.cells_are q.cells_are;
  kept = (p.kept, q.kept);
}

first_volume : (num : ℤ) (v : ℕ) (row : VolumeRow) (rows : List VolumeRow) (own more : List CellRow) (es : List Extent) → AllByRecursion (Of v) own → StartsElse v more → SpellsVolumes num v (row ∷ rows) (own ++ more) es
    → (e : Extent) × (fs : List Extent) × (es ≡ e ∷ fs) × SpellsVolume num v row own e × SpellsVolumes num (suc v) rows more fs
first_volume num v row rows own more [] these other p = absurd p.volumes_are
first_volume num v row rows own more (e ∷ es) these other p =
    let s = split_zip (IsCellRow num) (own ++ more) (placed_cells (v, e)) (flat_map placed_cells (placed (suc v) es)) p.cells_are in
    let same = one_part v own s.0 more s.1 these (own_rows num v 0 s.0 e.cells s.3) other (starts_else num v s.1 (flat_map placed_cells (placed (suc v) es)) s.4 (later_volumes v (suc v) es (omega arith))) s.2 in (
      e,
      es,
      refl,
      record {
        row_is = p.volumes_are.0;
        cells_are = subst (λ (l : List CellRow). AllZip (IsCellRow num) l (placed_cells (v, e))) (sym same.0) s.3;
        kept = p.kept.0;
      },
      record {
        volumes_are = p.volumes_are.1;
        cells_are = subst (λ (l : List CellRow). AllZip (IsCellRow num) l (flat_map placed_cells (placed (suc v) es))) (sym same.1) s.4;
        kept = p.kept.1;
      },
    )

-- The split of cell rows into those of the next volume and the others.
pub record Parts (v : ℕ) (rest own more : List CellRow) : Type 0 where
  pub whole : rest ≡ own ++ more
  pub these : AllByRecursion (λ (r : CellRow). r.volume ≡ pos v) own
  pub other : StartsElse v more

pub volumes_more : (num : ℤ) (rows : List VolumeRow) (cells : List CellRow) (i : ℕ) (row : VolumeRow) (rest own more : List CellRow) (out : List Extent) (e : Extent) → drop i rows ≡ row ∷ drop (i + 1) rows → Parts i rest own more → SpellsVolume num i row own e
    → ReadSoFar (SpellsVolumes num 0 rows cells) (SpellsVolumes num i (drop i rows) rest) out → ReadSoFar (SpellsVolumes num 0 rows cells) (SpellsVolumes num (i + 1) (drop (i + 1) rows) more) (out ++ e ∷ [])
volumes_more num rows cells i row rest own more out e f w s g =
    let n : suc i ≡ i + 1 = omega arith in
    read_more (SpellsVolumes num 0 rows cells) (SpellsVolumes num i (drop i rows) rest) (SpellsVolumes num (i + 1) (drop (i + 1) rows) more) out e g
    (λ ds h.
    subst (λ (l : List VolumeRow). SpellsVolumes num i l rest (e ∷ ds)) (sym f)
    (subst (λ (l : List CellRow). SpellsVolumes num i (row ∷ drop (i + 1) rows) l (e ∷ ds)) (sym w.whole)
    (join_volume num i row (drop (i + 1) rows) own more e ds s (subst (λ (k : ℕ). SpellsVolumes num k (drop (i + 1) rows) more ds) (sym n) h))))
    (λ fs h.
    let h1 = subst (λ (l : List VolumeRow). SpellsVolumes num i l rest fs) f h in
    let h2 = subst (λ (l : List CellRow). SpellsVolumes num i (row ∷ drop (i + 1) rows) l fs) w.whole h1 in
    let a = first_volume num i row (drop (i + 1) rows) own more fs w.these w.other h2 in
    (a.1, a.2 ∙ ap (λ (x : Extent). x ∷ a.1) (one_volume num i row own a.0 e a.3 s), subst (λ (k : ℕ). SpellsVolumes num k (drop (i + 1) rows) more a.1) n a.4))

pub volumes_none : (num : ℤ) (rows : List VolumeRow) (cells : List CellRow) (i : ℕ) (row : VolumeRow) (rest own more : List CellRow) (out : List Extent) → drop i rows ≡ row ∷ drop (i + 1) rows → Parts i rest own more → ((e : Extent) → ¬ SpellsVolume num i row own e)
    → ReadSoFar (SpellsVolumes num 0 rows cells) (SpellsVolumes num i (drop i rows) rest) out → (fs : List Extent) → ¬ SpellsVolumes num 0 rows cells fs
volumes_none num rows cells i row rest own more out f w none g =
    read_nowhere (SpellsVolumes num 0 rows cells) (SpellsVolumes num i (drop i rows) rest) out g
    (λ fs h.
    let h1 = subst (λ (l : List VolumeRow). SpellsVolumes num i l rest fs) f h in
    let h2 = subst (λ (l : List CellRow). SpellsVolumes num i (row ∷ drop (i + 1) rows) l fs) w.whole h1 in
    let a = first_volume num i row (drop (i + 1) rows) own more fs w.these w.other h2 in
    none a.0 a.3)

pub volumes_all : (num : ℤ) (rows : List VolumeRow) (cells : List CellRow) (i : ℕ) (rest : List CellRow) (out : List Extent) → length rows ≤ i → rest ≡ []
    → ReadSoFar (SpellsVolumes num 0 rows cells) (SpellsVolumes num i (drop i rows) rest) out → SpellsVolumes num 0 rows cells out
volumes_all num rows cells i rest out le none g =
    read_all (SpellsVolumes num 0 rows cells) (SpellsVolumes num i (drop i rows) rest) out g
    (subst (λ (l : List VolumeRow). SpellsVolumes num i l rest []) (sym (drop_of_length-le rows le)) (subst (λ (l : List CellRow). SpellsVolumes num i [] l []) (sym none) (record { volumes_are = tt; cells_are = tt; kept = tt })))

no_more : (num : ℤ) (i : ℕ) (rest : List CellRow) (ds : List Extent) → SpellsVolumes num i [] rest ds → rest ≡ []
no_more num i [] ds h = refl
no_more num i (r ∷ rest) [] h = absurd h.cells_are
no_more num i (r ∷ rest) (d ∷ ds) h = absurd h.volumes_are

pub volumes_over : (num : ℤ) (rows : List VolumeRow) (cells : List CellRow) (i : ℕ) (rest : List CellRow) (out : List Extent) → length rows ≤ i → ¬ (rest ≡ [])
    → ReadSoFar (SpellsVolumes num 0 rows cells) (SpellsVolumes num i (drop i rows) rest) out → (fs : List Extent) → ¬ SpellsVolumes num 0 rows cells fs
volumes_over num rows cells i rest out le some g =
    read_nowhere (SpellsVolumes num 0 rows cells) (SpellsVolumes num i (drop i rows) rest) out g
    (λ ds h. some (no_more num i rest ds (subst (λ (l : List VolumeRow). SpellsVolumes num i l rest ds) (drop_of_length-le rows le) h)))

pub parts_at : (v n : ℕ) (rest own more : List CellRow) → own ≡ take n rest → more ≡ drop n rest → AllByRecursion (λ (r : CellRow). r.volume ≡ pos v) (take n rest) → StartsElse v (drop n rest) → Parts v rest own more
parts_at v n rest own more e f these other = record {
  whole = sym (take-append-drop n rest) ∙ (λ i. sym e i ++ sym f i);
  these = subst (AllByRecursion (λ (r : CellRow). r.volume ≡ pos v)) (sym e) these;
  other = subst (StartsElse v) (sym f) other;
}

-- ---- the rows of volumes

-- Times within the limits fit a column.
pub first_fits : (v : Extent) → region_fault (region_of v) ≡ None → v.time.0 < 2 ^ 63
first_fits v limits = grind (arith, limits)

pub last_fits : (v : Extent) → region_fault (region_of v) ≡ None → v.time.1 < 2 ^ 63
last_fits v limits = grind (arith, limits)

-- Holds if the rows, followed by any rows for the remaining volumes, represent all volumes.
abbrev pub VolumesWritten : ℤ → List Extent → ℕ → List VolumeRow → List CellRow → Type 0
VolumesWritten num vs i rows cells = (more : List VolumeRow) (others : List CellRow) → SpellsVolumes num i more others (drop i vs) → SpellsVolumes num 0 (rows ++ more) (cells ++ others) vs

pub written_more : (num : ℤ) (vs : List Extent) (i : ℕ) (rows : List VolumeRow) (cells : List CellRow) (row : VolumeRow) (own : List CellRow) (v : Extent) → drop i vs ≡ v ∷ drop (i + 1) vs
    → IsVolumeRow num row (i, v) → region_fault (region_of v) ≡ None → SpellsCells (IsRowInVolume num i) 0 own v.cells → VolumesWritten num vs i rows cells → VolumesWritten num vs (i + 1) (rows ++ row ∷ []) (cells ++ own)
written_more num vs i rows cells row own v e is limits spelt w = λ more others h.
    let n : i + 1 ≡ suc i = omega arith in
    let this : SpellsVolume num i row own v = record { row_is = is; cells_are = zip_map (IsCellRow num) _ own (placed 0 v.cells) spelt.rows_are; kept = record { limits = limits; cells = spelt.valid } } in
    let rest = subst (λ (k : ℕ). SpellsVolumes num k more others (drop (i + 1) vs)) n h in
    let joined = subst (SpellsVolumes num i (row ∷ more) (own ++ others)) (sym e) (join_volume num i row more own others v (drop (i + 1) vs) this rest) in
    subst (λ (l : List VolumeRow). SpellsVolumes num 0 l ((cells ++ own) ++ others) vs) (sym (append_assoc rows (row ∷ []) more))
    (subst (λ (l : List CellRow). SpellsVolumes num 0 (rows ++ row ∷ more) l vs) (sym (append_assoc cells own others)) (w (row ∷ more) (own ++ others) joined))

pub written_all : (num : ℤ) (vs : List Extent) (i : ℕ) (rows : List VolumeRow) (cells : List CellRow) → length vs ≤ i → VolumesWritten num vs i rows cells → SpellsVolumes num 0 rows cells vs
written_all num vs i rows cells le w =
    let none = subst (SpellsVolumes num i [] []) (sym (drop_of_length-le vs le)) (record { volumes_are = tt; cells_are = tt; kept = tt }) in
    subst (λ (l : List VolumeRow). SpellsVolumes num 0 l cells vs) (append-nil rows) (subst (λ (l : List CellRow). SpellsVolumes num 0 (rows ++ []) l vs) (append-nil cells) (w [] [] none))
