-- The text of the statement that reads `meta`.
use Rattle.std.specs.Prelude.{ℕ, List, codes}

abbrev pub metas_read : List ℕ
metas_read = codes "SELECT one, format, serial FROM meta"
