-- Definitions of the rows of one subscription, and the subscription that they represent.
use Rattle.std.specs.Prelude.{◌≡◌, ℤ, List, [], ◌∷◌, Option, Some, None}
use Rattle.sqlite_value.specs.Order.{Row}
use Rattle.sqlite_value.specs.declared.value.Value.TheVariants.{Int}
use Rattle.sqlite_rules.specs.Lists.{Has}
use Rattle.sqlite.specs.Effect.{Database}
use Rattle.entity_core.specs.declared.subscription.Sub.{Sub}
use Rattle.entity_core.specs.Airspace.{Airspace}
use Rattle.space_sql_schema.specs.Spelling.{SubGroup, Spells, sub_values}
use Rattle.space_sql_select.specs.Selecting.{Answers}
use Rattle.space_sql_lookup.specs.Texts.{own_sub_cells_read}

-- Holds if the rows are the result of querying `subscription_cell` by a number.
abbrev pub AnswersSubCells : ℤ → Database → List Row → Type 0
AnswersSubCells num db rows = Answers own_sub_cells_read (Int num ∷ []) db rows

-- Holds if the result is the subscription of the row of `subscription`, if there is one.
pub record IsSubOfHead (heads : List Row) (subs : List SubGroup) (found : Option Sub) : Type 0 where
  pub none : heads ≡ [] → found ≡ None
  pub own : (s : SubGroup) → Has subs s → heads ≡ sub_values s.row ∷ [] → found ≡ Some s.sub

-- Holds if the result is right for the airspace that the tables represent, if they represent one.
abbrev pub FindsSubOfHead : List Row → Database → Option Sub → Type 0
FindsSubOfHead heads db found = (a : Airspace) (s : Spells db a) → IsSubOfHead heads s.subs found
