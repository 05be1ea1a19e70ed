-- Laws of rows.
use Rattle.std.specs.Prelude.{◌≡◌, ℕ, List, Option}
use Rattle.entity_core.specs.declared.entity.Entity.{Entity}
use Rattle.space_rows.specs.declared.rows.EntityRow.{EntityRow}
use Rattle.space_rows.specs.declared.rows.VolumeRow.{VolumeRow}
use Rattle.space_rows.specs.declared.rows.CellRow.{CellRow}
use Rattle.space_rows.specs.declared.rows.SubRow.{SubRow}
use Rattle.space_rows.specs.declared.rows.SubCellRow.{SubCellRow}
use Rattle.entity_core.specs.declared.subscription.Sub.{Sub}
use Rattle.space_rows.specs.Rows.{SpellsEntity}
use Rattle.space_rows.specs.Subs.{SpellsSub}

-- States that rows represent at most one entity.
abbrev pub OneEntity : Type 0
OneEntity = (row : EntityRow) (volumes : List VolumeRow) (cells : List CellRow)
    (named : Option ℕ) (e f : Entity)
    → SpellsEntity row volumes cells named e → SpellsEntity row volumes cells named f → e ≡ f

-- States that rows represent at most one subscription.
abbrev pub OneSub : Type 0
OneSub = (row : SubRow) (cells : List SubCellRow) (s t : Sub)
    → SpellsSub row cells s → SpellsSub row cells t → s ≡ t
