-- Definitions of looking up one subscription, by its id or by its number.
use Rattle.std.specs.Prelude.{◌≡◌, ℕ, ℤ, List, [], ◌∷◌, Option, Some, IfSome}
use Rattle.std.specs.FinMap.{get}
use Rattle.sqlite_value.specs.Order.{Row}
use Rattle.sqlite_value.specs.declared.value.Value.TheVariants.{Int, Text}
use Rattle.sqlite_rules.specs.Lists.{Has}
use Rattle.sqlite.specs.Effect.{Database}
use Rattle.entity_core.specs.declared.subscription.Sub.{Sub}
use Rattle.entity_core.specs.Airspace.{Airspace}
use Rattle.entity_core.specs.EntityId.{printed}
use Rattle.space_sql_schema.specs.Spelling.{SubGroup, Spells}
use Rattle.space_sql_select.specs.Selecting.{Answers}
use Rattle.space_sql_lookup.specs.Texts.{sub_numbered_read, sub_read}

-- Holds if the rows are the result of querying `subscription` by an id.
abbrev pub AnswersSub : ℕ → Database → List Row → Type 0
AnswersSub id db rows = Answers sub_read (Text (printed id) ∷ []) db rows

-- Holds if the result is the subscription with the id, in the airspace that the tables represent,
-- if they represent one.
abbrev pub FindsSub : ℕ → Database → Option Sub → Type 0
FindsSub id db found = (a : Airspace) → Spells db a → found ≡ get a.subscriptions id

-- Holds if the rows are the result of querying `subscription` by a number.
abbrev pub AnswersSubNumber : ℤ → Database → List Row → Type 0
AnswersSubNumber num db rows = Answers sub_numbered_read (Int num ∷ []) db rows

-- Holds if the result is the subscription whose rows have the number, or none if no rows have it.
pub record IsSubNumbered (num : ℤ) (subs : List SubGroup) (found : Option Sub) : Type 0 where
  pub own : (g : SubGroup) → Has subs g → g.row.num ≡ num → found ≡ Some g.sub
  pub kept : IfSome found (λ s. (g : SubGroup) × Has subs g × (g.row.num ≡ num) × (g.sub ≡ s))

-- Holds if the result is the subscription with the number, in the airspace that the tables
-- represent, if they represent one.
abbrev pub FindsSubNumbered : ℤ → Database → Option Sub → Type 0
FindsSubNumbered num db found = (a : Airspace) (s : Spells db a) → IsSubNumbered num s.subs found
