-- Definitions of the rows of a result as rows of the tables.
use Rattle.std.specs.Prelude.{◌≡◌, ℤ, List, [], ◌∷◌, map, length, ℕ, IsUtf8}
use Rattle.std.specs.List.{AllByRecursion}
use Rattle.std.specs.Ordering.{int_cmp, ordering_then}
use Rattle.std.specs.declared.cmp.Ordering.{Ordering}
use Rattle.sqlite_value.specs.declared.value.Value.{Value}
use Rattle.sqlite_value.specs.declared.value.Value.TheVariants.{Int, Text}
use Rattle.sqlite_value.specs.Order.{Row, column}
use Rattle.space_rows.specs.declared.rows.EntityRow.{EntityRow}
use Rattle.space_rows.specs.declared.rows.VolumeRow.{VolumeRow}
use Rattle.space_rows.specs.declared.rows.CellRow.{CellRow}
use Rattle.space_rows.specs.declared.rows.SubRow.{SubRow}
use Rattle.space_rows.specs.declared.rows.SubCellRow.{SubCellRow}
use Rattle.space_sql_schema.specs.Spelling.{naming_values}
use Rattle.space_sql_select.specs.declared.sub_rows.NamingRow.{NamingRow}

-- ---- values

abbrev pub IsNumber : Value → Type 0
IsNumber v = (n : ℤ) × (v ≡ Int n)

-- Holds if the value is a UTF-8 text.
abbrev pub IsText : Value → Type 0
IsText v = (t : List ℕ) × (v ≡ Text t) × IsUtf8 t

-- Holds if the row has the columns of a table, of their kinds.
abbrev pub IsEntityRow : Row → Type 0
IsEntityRow r =
    (length r ≡ 9) × IsNumber (column r 0) × IsNumber (column r 1) × IsText (column r 2)
    × IsText (column r 3) × IsNumber (column r 4) × IsNumber (column r 5) × IsNumber (column r 6)
    × IsText (column r 7) × IsText (column r 8)

abbrev pub IsVolumeRow : Row → Type 0
IsVolumeRow r =
    (length r ≡ 6) × IsNumber (column r 0) × IsNumber (column r 1) × IsNumber (column r 2)
    × IsNumber (column r 3) × IsNumber (column r 4) × IsNumber (column r 5)

abbrev pub IsCellRow : Row → Type 0
IsCellRow r =
    (length r ≡ 6) × IsNumber (column r 0) × IsNumber (column r 1) × IsNumber (column r 2)
    × IsText (column r 3) × IsNumber (column r 4) × IsNumber (column r 5)

abbrev pub HasSubTexts : Row → Type 0
HasSubTexts r =
    IsText (column r 1) × IsText (column r 2) × IsText (column r 4) × IsText (column r 6)

abbrev pub HasSubNumbers : Row → Type 0
HasSubNumbers r =
    IsNumber (column r 0) × IsNumber (column r 3) × IsNumber (column r 5) × IsNumber (column r 7)
    × IsNumber (column r 8) × IsNumber (column r 9) × IsNumber (column r 10)
    × IsNumber (column r 11) × IsNumber (column r 12)

abbrev pub IsSubRow : Row → Type 0
IsSubRow r = (length r ≡ 13) × HasSubTexts r × HasSubNumbers r

abbrev pub IsSubCellRow : Row → Type 0
IsSubCellRow r =
    (length r ≡ 5) × IsNumber (column r 0) × IsNumber (column r 1) × IsText (column r 2)
    × IsNumber (column r 3) × IsNumber (column r 4)

abbrev pub IsNamingRow : Row → Type 0
IsNamingRow r =
    (length r ≡ 2) × IsNumber (column r 0) × IsNumber (column r 1)

abbrev pub IsNumberRow : Row → Type 0
IsNumberRow r = (length r ≡ 1) × IsNumber (column r 0)

-- ---- typed rows

-- The row of a single number.
abbrev pub number_values : ℤ → Row
number_values n = Int n ∷ []

-- The values of a row of `naming`.
abbrev pub values_of_naming : NamingRow → Row
values_of_naming r = naming_values r.entity r.subscription

-- Holds if the texts of the row are UTF-8.
pub record IsWrittenEntity (r : EntityRow) : Type 0 where
  pub id : IsUtf8 r.id
  pub manager : IsUtf8 r.manager
  pub ovn : IsUtf8 r.ovn
  pub url : IsUtf8 r.url

abbrev pub IsWrittenVolume : VolumeRow → Type 0
IsWrittenVolume r = Unit {0}

abbrev pub IsWrittenCell : CellRow → Type 0
IsWrittenCell r = IsUtf8 r.token

pub record IsWrittenSub (r : SubRow) : Type 0 where
  pub id : IsUtf8 r.id
  pub manager : IsUtf8 r.manager
  pub version : IsUtf8 r.version
  pub url : IsUtf8 r.url

abbrev pub IsWrittenSubCell : SubCellRow → Type 0
IsWrittenSubCell r = IsUtf8 r.token

abbrev pub IsWrittenNaming : NamingRow → Type 0
IsWrittenNaming r = Unit {0}

abbrev pub IsWrittenNumber : ℤ → Type 0
IsWrittenNumber n = Unit {0}

-- Holds if the values are those of a typed row whose texts are UTF-8.
pub record IsRowOf {X : Type 0} (values : X → Row) (IsWritten : X → Type 0) (row : Row) (x : X)
    : Type 0 where
  pub written : IsWritten x
  pub values_are : row ≡ values x

-- Holds if the rows are those of typed rows whose texts are UTF-8.
pub record AreRowsOf {X : Type 0} (values : X → Row) (IsWritten : X → Type 0) (rows : List Row)
    (xs : List X) : Type 0 where
  pub written : AllByRecursion IsWritten xs
  pub values_are : rows ≡ map values xs

-- ---- keys

abbrev pub entity_order : EntityRow → EntityRow → Ordering
entity_order x y = int_cmp x.num y.num

abbrev pub volume_order : VolumeRow → VolumeRow → Ordering
volume_order x y = ordering_then (int_cmp x.entity y.entity) (int_cmp x.place y.place)

abbrev pub cell_order : CellRow → CellRow → Ordering
cell_order x y =
    ordering_then (int_cmp x.entity y.entity)
    (ordering_then (int_cmp x.volume y.volume) (int_cmp x.place y.place))

abbrev pub sub_order : SubRow → SubRow → Ordering
sub_order x y = int_cmp x.num y.num

abbrev pub sub_cell_order : SubCellRow → SubCellRow → Ordering
sub_cell_order x y = ordering_then (int_cmp x.subscription y.subscription) (int_cmp x.place y.place)

abbrev pub naming_order : NamingRow → NamingRow → Ordering
naming_order x y = int_cmp x.entity y.entity
