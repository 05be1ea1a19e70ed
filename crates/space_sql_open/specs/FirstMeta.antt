-- Definitions of what the table `meta` says in tables of an old format.
use Rattle.std.specs.Prelude.{◌≡◌, ◌≢◌, ℕ, ℤ, pos, List, [], ◌∷◌, Result, Ok, Err, Vec}
use Rattle.std.specs.Global.{Global}
use Rattle.sqlite_value.specs.Order.{Row}
use Rattle.sqlite_value.specs.declared.value.Value.TheVariants.{Int}
use Rattle.sqlite.specs.Effect.{Database}
use Rattle.sqlite.specs.declared.error.Error.{Error}
use Rattle.space_sql_select.specs.Meta.{AreOtherFormat, ShowsMeta}
use Rattle.space_sql_schema.specs.declared.format.Format.{Format}
use Rattle.space_sql_schema.specs.Spelling.{meta_values}
use Rattle.space_sql_schema.specs.Making.{HasMeta}
use Rattle.space_sql_open.specs.Opening.{Refuses}
use Rattle.space_sql_open.specs.declared.open_fault.OpenFault.{OpenFault}
use Rattle.space_sql_open.specs.declared.open_fault.OpenFault.TheVariants.{NotADss, Version, Store}
use Rattle.space_sql_schema.specs.Trees.{meta_tree}

-- Holds if the row of `meta` says format 1, with a number as the serial.
abbrev pub IsFirstRow : Row → Type 0
IsFirstRow row = (serial : ℤ) × (row ≡ Int (pos 1) ∷ Int (pos 1) ∷ Int serial ∷ [])

-- Holds if the rows are one such row.
abbrev pub AreFirst : List Row → Type 0
AreFirst rows = (serial : ℤ) × (rows ≡ (Int (pos 1) ∷ Int (pos 1) ∷ Int serial ∷ []) ∷ [])

-- Holds if the result is right for the rows of `meta`.
abbrev pub SaysRows : List Row → Result (Unit {0}) OpenFault → Type 0
SaysRows rows (Ok x) = AreFirst rows
SaysRows rows (Err NotADss) = ¬ AreFirst rows × ¬ AreOtherFormat rows
SaysRows rows (Err Version) = AreOtherFormat rows
SaysRows rows (Err Store) = ⊥

-- Holds if the rows of `meta` are read, and the database is unchanged.
abbrev pub ReadsMeta : Database → Database → Result (Vec Row Global) Error → Type 0
ReadsMeta old new (Ok rows) = ShowsMeta old rows.items × (new ≡ old)
ReadsMeta old new (Err e) = Unit {0}

-- The same for format 2.
abbrev pub SaysSecondRows : List Row → Result (Unit {0}) OpenFault → Type 0
SaysSecondRows rows (Ok x) = (serial : ℕ) × (rows ≡ meta_values 2 serial ∷ [])
SaysSecondRows rows (Err NotADss) =
    ((serial : ℕ) → rows ≢ meta_values 2 serial ∷ []) × ¬ AreOtherFormat rows
SaysSecondRows rows (Err Version) = AreOtherFormat rows
SaysSecondRows rows (Err Store) = ⊥

-- Holds if `meta` says the number of the format and the database is unchanged, or the fault says
-- why the tables are rejected.
abbrev pub SaysMeta : ℕ → Format → Database → Database → Result (Unit {0}) OpenFault → Type 0
SaysMeta number format old new (Ok x) =
    ((serial : ℤ) × HasMeta number serial (old.trees meta_tree)) × (new ≡ old)
SaysMeta number format old new (Err fault) = Refuses format old fault
