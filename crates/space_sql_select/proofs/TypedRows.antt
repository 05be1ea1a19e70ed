-- Proofs that rows are typed one after the other.
use Rattle.std.specs.Prelude.{◌≡◌, ℕ, ℤ, ◌+◌, ◌≤◌, List, [], ◌∷◌, ◌++◌, map, length, drop, refl, pos, IsUtf8}
use Rattle.std.proofs.Common.{sym, ap, ap₂, ◌∙◌, subst}
use Rattle.std.proofs.Math.ListN.{drop_of_length-le}
use Rattle.sqlite_keyed.proofs.ListLemmas.{map_back}
use Rattle.sqlite_value.specs.declared.value.Value.{Value}
use Rattle.sqlite_value.specs.declared.value.Value.TheVariants.{Int, Text}
use Rattle.sqlite_value.specs.Order.{Row}
use Rattle.space_rows.specs.declared.rows.EntityRow.{EntityRow}
use Rattle.space_rows.specs.declared.rows.VolumeRow.{VolumeRow}
use Rattle.space_rows.specs.declared.rows.CellRow.{CellRow}
use Rattle.space_rows.specs.declared.rows.SubRow.{SubRow}
use Rattle.space_rows.specs.declared.rows.SubCellRow.{SubCellRow}
use Rattle.space_rows.proofs.ReadSoFar.{ReadSoFar, read_more, read_nowhere, read_all}
use Rattle.space_sql_schema.specs.Spelling.{entity_values, volume_values, cell_values, sub_values, sub_cell_values}
use Rattle.space_sql_select.specs.Rows.{IsText, IsEntityRow, IsVolumeRow, IsCellRow, IsSubRow, IsSubCellRow, IsNamingRow, IsNumberRow, IsWrittenEntity, IsWrittenCell, IsWrittenSub, IsWrittenSubCell, IsRowOf, AreRowsOf, number_values, values_of_naming}
use Rattle.space_sql_select.specs.declared.sub_rows.NamingRow.{NamingRow}

same_text : (s t : List ℕ) → Text s ≡ Text t → s ≡ t
same_text s t e = cc

-- The text of a text column is UTF-8.
pub written_text : (v : Value) (t : List ℕ) → IsText v → v ≡ Text t → IsUtf8 t
written_text v t p e = subst IsUtf8 (same_text p.0 t (sym p.1 ∙ e)) p.2

pub is_text : (t : List ℕ) → IsUtf8 t → IsText (Text t)
is_text t u = (t, refl, u)

-- ---- the values of a typed row

pub entity_typed : (row : Row) (x : EntityRow) → IsRowOf entity_values IsWrittenEntity row x → IsEntityRow row
entity_typed row x p =
    let w = p.written in
    subst IsEntityRow (sym p.values_are)
    (refl, (x.num, refl), (x.kind, refl), is_text x.id w.id, is_text x.manager w.manager, (x.state, refl), (x.version, refl), (x.serial, refl), is_text x.ovn w.ovn, is_text x.url w.url)

pub volume_typed : (row : Row) (x : VolumeRow) → IsRowOf volume_values (λ _. Unit {0}) row x → IsVolumeRow row
volume_typed row x p =
    subst IsVolumeRow (sym p.values_are) (refl, (x.entity, refl), (x.place, refl), (x.alt_lower, refl), (x.alt_upper, refl), (x.time_start, refl), (x.time_end, refl))

pub cell_typed : (row : Row) (x : CellRow) → IsRowOf cell_values IsWrittenCell row x → IsCellRow row
cell_typed row x p =
    subst IsCellRow (sym p.values_are) (refl, (x.entity, refl), (x.volume, refl), (x.place, refl), is_text x.token p.written, (x.lo, refl), (x.hi, refl))

pub sub_typed : (row : Row) (x : SubRow) → IsRowOf sub_values IsWrittenSub row x → IsSubRow row
sub_typed row x p =
    let w = p.written in
    subst IsSubRow (sym p.values_are)
    (refl, (is_text x.id w.id, is_text x.manager w.manager, is_text x.version w.version, is_text x.url w.url), ((x.num, refl), (x.serial, refl), (x.notes, refl), (x.for_intents, refl), (x.for_constraints, refl), (x.alt_lower, refl), (x.alt_upper, refl), (x.time_start, refl), (x.time_end, refl)))

pub sub_cell_typed : (row : Row) (x : SubCellRow) → IsRowOf sub_cell_values IsWrittenSubCell row x → IsSubCellRow row
sub_cell_typed row x p =
    subst IsSubCellRow (sym p.values_are)
    (refl, (x.subscription, refl), (x.place, refl), is_text x.token p.written, (x.lo, refl), (x.hi, refl))

pub naming_typed : (row : Row) (x : NamingRow) → IsRowOf values_of_naming (λ _. Unit {0}) row x → IsNamingRow row
naming_typed row x p =
    subst IsNamingRow (sym p.values_are)
    (refl, (x.entity, refl), (x.subscription, refl))

pub number_typed : (row : Row) (x : ℤ) → IsRowOf number_values (λ _. Unit {0}) row x → IsNumberRow row
number_typed row x p = subst IsNumberRow (sym p.values_are) (refl, (x, refl))

pub number_of_values : Row → ℤ
number_of_values (Int n ∷ rest) = n
number_of_values _ = pos 0

pub number_back : (n : ℤ) → number_of_values (number_values n) ≡ n
unfolding number_of_values
number_back n = refl

pub naming_of_values : Row → NamingRow
naming_of_values (Int m ∷ Int n ∷ rest) = record { entity = m; subscription = n }
naming_of_values _ = record { entity = pos 0; subscription = pos 0 }

pub naming_back : (r : NamingRow) → naming_of_values (values_of_naming r) ≡ r
unfolding naming_of_values
naming_back r = refl

-- Rows are the values of one typed list.
pub one_typed : {X : Type 0} (values : X → Row) (decode : Row → X) → ((x : X) → decode (values x) ≡ x) → (rows : List Row) (xs ys : List X) → rows ≡ map values xs → rows ≡ map values ys → xs ≡ ys
one_typed values decode back rows xs ys p q = sym (map_back values decode back xs) ∙ (ap (map decode) (sym p ∙ q) ∙ map_back values decode back ys)

-- ---- row by row

module _ {X : Type 0} (values : X → Row) (W : X → Type 0) (decode : Row → X) (back : (x : X) → decode (values x) ≡ x) where
  abbrev From : List Row → List X → Type 0
  From rows xs = AreRowsOf values W rows xs

  first_row : (row : Row) (rows : List Row) (fs : List X) → From (row ∷ rows) fs → (x : X) × (ds : List X) × (fs ≡ x ∷ ds) × IsRowOf values W row x × From rows ds
  first_row row rows [] p = absurd (let e = p.values_are in cc)
  first_row row rows (x ∷ ds) p =
      let head : row ≡ values x = let e = p.values_are in cc in
      let rest : rows ≡ map values ds = let e = p.values_are in cc in
      (x, ds, refl, record { written = p.written.0; values_are = head }, record { written = p.written.1; values_are = rest })

  pub typed_more : (rows : List Row) (i : ℕ) (row : Row) (x : X) (out : List X) → drop i rows ≡ row ∷ drop (i + 1) rows → IsRowOf values W row x
      → ReadSoFar (From rows) (From (drop i rows)) out → ReadSoFar (From rows) (From (drop (i + 1) rows)) (out ++ x ∷ [])
  typed_more rows i row x out e s g =
      read_more (From rows) (From (drop i rows)) (From (drop (i + 1) rows)) out x g
      (λ ds h. record { written = (s.written, h.written); values_are = e ∙ ap₂ ◌∷◌ s.values_are h.values_are })
      (λ fs h.
      let a = first_row row (drop (i + 1) rows) fs (subst (λ (l : List Row). From l fs) e h) in
      let same : a.0 ≡ x = sym (back a.0) ∙ (ap decode (sym a.3.values_are ∙ s.values_are) ∙ back x) in
      (a.1, a.2 ∙ ap (λ (y : X). y ∷ a.1) same, a.4))

  pub typed_none : (rows : List Row) (i : ℕ) (row : Row) (out : List X) → drop i rows ≡ row ∷ drop (i + 1) rows → ((x : X) → ¬ IsRowOf values W row x)
      → ReadSoFar (From rows) (From (drop i rows)) out → (fs : List X) → ¬ From rows fs
  typed_none rows i row out e none g =
      read_nowhere (From rows) (From (drop i rows)) out g
      (λ ds h. let a = first_row row (drop (i + 1) rows) ds (subst (λ (l : List Row). From l ds) e h) in none a.0 a.3)

  pub typed_all : (rows : List Row) (i : ℕ) (out : List X) → length rows ≤ i → ReadSoFar (From rows) (From (drop i rows)) out → From rows out
  typed_all rows i out le g = read_all (From rows) (From (drop i rows)) out g (subst (λ (l : List Row). From l []) (sym (drop_of_length-le rows le)) (record { written = tt; values_are = refl }))
