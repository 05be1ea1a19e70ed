-- Proofs that the cells of a volume are read row by row.
use Rattle.std.specs.Prelude.{◌≡◌, ℕ, suc, ℤ, pos, ◌+◌, ◌<◌, ◌≤◌, List, [], ◌∷◌, ◌++◌, length, drop, map, refl}
use Rattle.std.specs.List.{AllZip}
use Rattle.std.proofs.Common.{sym, ap, ap₂, ◌∙◌, subst, append_assoc, get_or, arith}
use Rattle.std.proofs.lemmas.List.{append-nil}
use Rattle.std.proofs.Math.ListN.{drop_of_length-le}
use Rattle.grid_core.specs.Cell.{Cell, lo_of, hi_of}
use Rattle.space_rows.specs.Cells.{SpellsToken, SpellsRange, SpellsCell, SpellsCells}
use Rattle.space_rows.proofs.Digits.{one_spelt}
use Rattle.space_rows.proofs.ReadSoFar.{ReadSoFar, read_more, read_nowhere, read_all, front}

-- If the range is not that of the token's cell, the row represents no cell.
pub no_range : (text : List ℕ) (lo hi : ℤ) (c : Cell) → SpellsToken text c → ¬ ((lo ≡ pos (lo_of c)) × (hi ≡ pos (hi_of c))) → (x : Cell) → ¬ SpellsRange text lo hi x
no_range text lo hi c t other x h =
    let same : x ≡ c = one_spelt text x c h.token t in
    other (h.lo_is ∙ ap (λ (d : Cell). pos (lo_of d)) same, h.hi_is ∙ ap (λ (d : Cell). pos (hi_of d)) same)

-- If `AllZip R` relates a list to the images of another, it relates it to that list.
pub zip_of : {A B C : Type 0} (R : A → C → Type 0) (f : B → C) (xs : List A) (ys : List B) → AllZip R xs (map f ys) → AllZip (λ x y. R x (f y)) xs ys
zip_of R f [] [] p = tt
zip_of R f [] (y ∷ ys) p = absurd p
zip_of R f (x ∷ xs) [] p = absurd p
zip_of R f (x ∷ xs) (y ∷ ys) p = (p.0, zip_of R f xs ys p.1)

pub zip_map : {A B C : Type 0} (R : A → C → Type 0) (f : B → C) (xs : List A) (ys : List B) → AllZip (λ x y. R x (f y)) xs ys → AllZip R xs (map f ys)
zip_map R f [] [] p = tt
zip_map R f [] (y ∷ ys) p = absurd p
zip_map R f (x ∷ xs) [] p = absurd p
zip_map R f (x ∷ xs) (y ∷ ys) p = (p.0, zip_map R f xs ys p.1)

module _ {R : Type 0} (is_row : R → ℕ × Cell → Type 0) where
  join_cell : (n : ℕ) (row : R) (rows : List R) (c : Cell) (cs : List Cell) → SpellsCell is_row n row c → SpellsCells is_row (suc n) rows cs → SpellsCells is_row n (row ∷ rows) (c ∷ cs)
  join_cell n row rows c cs p q = record { rows_are = (p.row_is, q.rows_are); valid = (p.valid, q.valid) }

  first_cell : (n : ℕ) (row : R) (rows : List R) (cs : List Cell) → SpellsCells is_row n (row ∷ rows) cs → (c : Cell) × (ds : List Cell) × (cs ≡ c ∷ ds) × SpellsCell is_row n row c × SpellsCells is_row (suc n) rows ds
  first_cell n row rows [] p = absurd p.rows_are
  first_cell n row rows (c ∷ cs) p = (c, cs, refl, record { row_is = p.rows_are.0; valid = p.valid.0 }, record { rows_are = p.rows_are.1; valid = p.valid.1 })

  -- ---- the cells of rows

  -- If a row represents no cell, the rows represent no list of cells.
  pub cells_none : (rows : List R) (i : ℕ) (row : R) (out : List Cell) → i < length rows → row ≡ get_or rows i row → ((c : Cell) → ¬ SpellsCell is_row i row c)
      → ReadSoFar (SpellsCells is_row 0 rows) (SpellsCells is_row i (drop i rows)) out → (fs : List Cell) → ¬ SpellsCells is_row 0 rows fs
  cells_none rows i row out lt is none g =
      read_nowhere (SpellsCells is_row 0 rows) (SpellsCells is_row i (drop i rows)) out g
      (λ ds h. let a = first_cell i row (drop (i + 1) rows) ds (subst (λ (l : List R). SpellsCells is_row i l ds) (front rows i row lt is) h) in none a.0 a.3)

  pub cells_all : (rows : List R) (i : ℕ) (out : List Cell) → length rows ≤ i → ReadSoFar (SpellsCells is_row 0 rows) (SpellsCells is_row i (drop i rows)) out → SpellsCells is_row 0 rows out
  cells_all rows i out le g =
      read_all (SpellsCells is_row 0 rows) (SpellsCells is_row i (drop i rows)) out g (subst (λ (l : List R). SpellsCells is_row i l []) (sym (drop_of_length-le rows le)) (record { rows_are = tt; valid = tt }))

  module _ (one : (n : ℕ) (row : R) (c d : Cell) → SpellsCell is_row n row c → SpellsCell is_row n row d → c ≡ d) where
    -- One more cell is read from the next row.
    pub cells_more : (rows : List R) (i : ℕ) (row : R) (out : List Cell) (c : Cell) → i < length rows → row ≡ get_or rows i row → SpellsCell is_row i row c
        → ReadSoFar (SpellsCells is_row 0 rows) (SpellsCells is_row i (drop i rows)) out → ReadSoFar (SpellsCells is_row 0 rows) (SpellsCells is_row (i + 1) (drop (i + 1) rows)) (out ++ c ∷ [])
    cells_more rows i row out c lt is s g =
        let e = front rows i row lt is in
        let n : suc i ≡ i + 1 = omega arith in
        read_more (SpellsCells is_row 0 rows) (SpellsCells is_row i (drop i rows)) (SpellsCells is_row (i + 1) (drop (i + 1) rows)) out c g
        (λ ds h. subst (λ (l : List R). SpellsCells is_row i l (c ∷ ds)) (sym e) (join_cell i row (drop (i + 1) rows) c ds s (subst (λ (k : ℕ). SpellsCells is_row k (drop (i + 1) rows) ds) (sym n) h)))
        (λ fs h.
        let a = first_cell i row (drop (i + 1) rows) fs (subst (λ (l : List R). SpellsCells is_row i l fs) e h) in
        let same : a.0 ≡ c = one i row a.0 c a.3 s in
        (a.1, a.2 ∙ ap (λ (x : Cell). x ∷ a.1) same, subst (λ (k : ℕ). SpellsCells is_row k (drop (i + 1) rows) a.1) n a.4))

    -- Rows represent at most one list of cells.
    pub one_cells : (n : ℕ) (rows : List R) (cs ds : List Cell) → SpellsCells is_row n rows cs → SpellsCells is_row n rows ds → cs ≡ ds
    one_cells n [] [] [] p q = refl
    one_cells n [] [] (d ∷ ds) p q = absurd q.rows_are
    one_cells n [] (c ∷ cs) ds p q = absurd p.rows_are
    one_cells n (r ∷ rs) [] ds p q = absurd p.rows_are
    one_cells n (r ∷ rs) (c ∷ cs) ds p q =
        let a = first_cell n r rs ds q in
        let own = one n r c a.0 (record { row_is = p.rows_are.0; valid = p.valid.0 }) a.3 in
        let rest = one_cells (suc n) rs cs a.1 (record { rows_are = p.rows_are.1; valid = p.valid.1 }) a.4 in
        ap₂ ◌∷◌ own rest ∙ sym a.2

  -- ---- the rows of cells

  -- Holds if `out`, followed by any rows for the remaining cells, represents all cells.
  abbrev pub CellsWritten : List Cell → ℕ → List R → Type 0
  CellsWritten cs i out = (rows : List R) → SpellsCells is_row i rows (drop i cs) → SpellsCells is_row 0 (out ++ rows) cs

  pub written_more : (cs : List Cell) (i : ℕ) (out : List R) (row : R) (c : Cell) → drop i cs ≡ c ∷ drop (i + 1) cs → SpellsCell is_row i row c → CellsWritten cs i out → CellsWritten cs (i + 1) (out ++ row ∷ [])
  written_more cs i out row c e s w = λ rows h.
      let n : i + 1 ≡ suc i = omega arith in
      subst (λ (l : List R). SpellsCells is_row 0 l cs) (sym (append_assoc out (row ∷ []) rows))
      (w (row ∷ rows) (subst (SpellsCells is_row i (row ∷ rows)) (sym e) (join_cell i row rows c (drop (i + 1) cs) s (subst (λ (k : ℕ). SpellsCells is_row k rows (drop (i + 1) cs)) n h))))

  pub written_all : (cs : List Cell) (i : ℕ) (out : List R) → length cs ≤ i → CellsWritten cs i out → SpellsCells is_row 0 out cs
  written_all cs i out le w =
      subst (λ (l : List R). SpellsCells is_row 0 l cs) (append-nil out) (w [] (subst (SpellsCells is_row i []) (sym (drop_of_length-le cs le)) (record { rows_are = tt; valid = tt })))
