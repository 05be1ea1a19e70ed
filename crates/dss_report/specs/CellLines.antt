-- The cells of the references of an airspace, one per line.
use Rattle.std.specs.Prelude.{◌≡◌, ℕ, List, ◌++◌, codes, decimal, map}
use Rattle.std.specs.Fmt.{signed_decimal}
use Rattle.std.specs.List.{AllZip, concat, flat_map}
use Rattle.grid_core.specs.Cell.{Cell}
use Rattle.grid_core.specs.Extent.{Extent}
use Rattle.grid_core.specs.Token.{IsShortest}
use Rattle.entity_core.specs.Airspace.{Airspace}
use Rattle.entity_core.specs.Entity.{kind_of}
use Rattle.entity_core.specs.EntityId.{printed}
use Rattle.entity_core.specs.Search.{all_in}
use Rattle.entity_core.specs.declared.entity.Entity.{Entity}
use Rattle.entity_core.specs.declared.nature.Kind.TheVariants.{Constraint, Intent}
use Rattle.dss_report.specs.Report.{kind_text, state_text}
use Rattle.dss_report.specs.declared.contents.Contents.{Contents}

-- A cell of a volume of an entity.
pub record Place : Type 0 where
  pub entity : Entity
  pub volume : Extent
  pub cell : Cell

abbrev pub place_in : Entity → Extent → Cell → Place
place_in e v c = record { entity = e; volume = v; cell = c }

-- The cells of a volume, of an entity, and of entities, in their order.
abbrev pub places_of_volume : Entity → Extent → List Place
places_of_volume e v = map (place_in e v) v.cells

abbrev pub places_of_entity : Entity → List Place
places_of_entity e = flat_map (places_of_volume e) e.volumes

abbrev pub places_of : List Entity → List Place
places_of es = flat_map places_of_entity es

-- The kind, id, manager and state of an entity, separated by spaces.
abbrev pub cell_prefix : Entity → List ℕ
cell_prefix e =
    kind_text (kind_of e.nature)
    ++ (codes " " ++ (printed e.id
    ++ (codes " " ++ (e.manager
    ++ (codes " " ++ state_text e.nature)))))

-- The lower and upper altitude of a volume in decimetres, its first and last time, and a line end.
abbrev pub volume_text : Extent → List ℕ
volume_text v =
    signed_decimal v.altitude.0
    ++ (codes " " ++ (signed_decimal v.altitude.1
    ++ (codes " " ++ (decimal v.time.0
    ++ (codes " " ++ (decimal v.time.1 ++ codes "\n"))))))

-- Both, with the token of a cell between them.
abbrev pub place_text : List ℕ → Entity → Extent → List ℕ
place_text token e v =
    cell_prefix e ++ (codes " " ++ (token ++ (codes " " ++ volume_text v)))

-- Holds if the text is the line of the cell, with its shortest token.
abbrev pub IsPlaceLine : List ℕ → Place → Type 0
IsPlaceLine line p = (token : List ℕ) × IsShortest token p.cell
    × (line ≡ place_text token p.entity p.volume)

-- Holds if the text consists of the lines of these cells.
abbrev pub HasPlaces : List Place → List ℕ → Type 0
HasPlaces ps text = (lines : List (List ℕ)) × AllZip IsPlaceLine lines ps × (text ≡ concat lines)

-- Holds if exactly the lines of these cells were appended to the text.
abbrev pub AddsPlaces : List Place → (old new : List ℕ) → Type 0
AddsPlaces ps old new = (more : List ℕ) × HasPlaces ps more × (new ≡ old ++ more)

-- Holds if the text has a line for each cell of each volume of each intent by ascending id, and
-- then of each constraint.
abbrev pub IsPlacesOf : Airspace → List ℕ → Type 0
IsPlacesOf a text =
    HasPlaces (places_of (all_in a.entities Intent) ++ places_of (all_in a.entities Constraint))
    text

-- Holds if the text has the same lines for what was read.
abbrev pub IsPlacesIn : Contents → List ℕ → Type 0
IsPlacesIn kept text =
    HasPlaces (places_of kept.intents.items ++ places_of kept.constraints.items) text
