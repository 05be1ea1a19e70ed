-- Proofs that requested ranges stay requested.
use Rattle.std.proofs.Common.{List}
use Rattle.std.specs.List.{AllByRecursion}
use Rattle.grid_core.specs.Cell.{Cell}
use Rattle.grid_core.specs.Extent.{Region}
use Rattle.space_rows.proofs.Chunks.{all_turned}
use Rattle.space_sql_search.specs.declared.search_ranges.SearchRanges.{SearchRanges}
use Rattle.space_sql_search.specs.SearchRanges.{AsksFor, AsksForAll, KeepsRanges}

pub cells_stay : (old new : SearchRanges) → KeepsRanges old new → (cells : List Cell) → AllByRecursion (AsksFor old) cells → AllByRecursion (AsksFor new) cells
cells_stay old new keeps cells all = all_turned (AsksFor old) (AsksFor new) (λ c h. record { is_cell = h.is_cell; range = keeps.0 _ h.range; ancestors = λ k lt low. keeps.1 _ (h.ancestors k lt low) }) cells all

pub areas_stay : (old new : SearchRanges) → KeepsRanges old new → (areas : List Region) → AsksForAll old areas → AsksForAll new areas
areas_stay old new keeps areas all = all_turned (λ (r : Region). AllByRecursion (AsksFor old) r.cells) (λ (r : Region). AllByRecursion (AsksFor new) r.cells) (λ r. cells_stay old new keeps r.cells) areas all
