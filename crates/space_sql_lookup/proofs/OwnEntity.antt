-- Proofs that the entity with a number is the one whose rows are read.
use Rattle.std.proofs.Common.{◌≡◌, ◌≢◌, ◌⊎◌, inl, inr, ℤ, List, [], ◌∷◌, map, filter, false, Option, refl, sym, subst, int_eq}
use Rattle.std.specs.Prelude.{IsPermutation, IfSome}
use Rattle.std.specs.List.{list_all}
use Rattle.sqlite_rules.specs.Lists.{Has}
use Rattle.sqlite_typed.proofs.TestLemmas.{at_ints, last_term}
use Rattle.sqlite_sql.specs.declared.ops.CompareOp.TheVariants.{Eq}
use Rattle.sqlite.specs.declared.types.Value.TheVariants.{Null, Int}
use Rattle.sqlite.specs.Order.{Row}
use Rattle.sqlite.specs.Term.{holds}
use Rattle.sqlite.specs.Effect.{Database, Reads}
use Rattle.entity_core.specs.declared.entity.Entity.{Entity}
use Rattle.entity_core.specs.Airspace.{Airspace}
use Rattle.space_sql_schema.specs.Spelling.{Spells, Group, entity_values, entity_columns}
use Rattle.space_sql_schema.proofs.OneAirspace.{numbers_differ}
use Rattle.space_sql_lookup.specs.EntityRows.{FindsOfHead}
use Rattle.space_sql_lookup.specs.Entity.{AnswersNumber, FindsNumbered}
use Rattle.space_sql_lookup.proofs.Commands.{by_key, numbered_is}
use Rattle.space_sql_lookup.proofs.Picked.{selects_from, has_or_not, one_shown, none_shown}

module _ (db : Database) (a : Airspace) (s : Spells db a) (num : ℤ) (rows : List Row) (h : AnswersNumber num db rows) where
  -- The rows of the groups with the number are shown.
  shown : IsPermutation (map (λ (g : Group). entity_values g.row) (filter (λ (g : Group). int_eq g.row.num num) s.groups)) rows
  shown =
      let params = Int num ∷ [] in
      let read = subst (λ c. Reads c db params rows) numbered_is h in
      selects_from 1 by_key (0 ∷ 2 ∷ 3 ∷ 4 ∷ 5 ∷ 6 ∷ 7 ∷ 8 ∷ 9 ∷ []) db.trees params rows refl (read.answer Null) (λ (g : Group). entity_values g.row) entity_columns (λ c. list_all (holds (params ∷ c ∷ [])) by_key) (λ c. c) (λ (g : Group). int_eq g.row.num num)
      (λ r. refl) (λ r. refl) (λ g. last_term (at_ints false Eq g.row.num num)) s.groups s.entities

  pub numbered_shown : (g : Group) → Has s.groups g → g.row.num ≡ num → rows ≡ entity_values g.row ∷ []
  numbered_shown = one_shown (λ (g : Group). g.row.num) num (λ g. entity_values g.row) s.groups rows shown (numbers_differ s.groups s.rising)

  pub no_row_shown : ((g : Group) → Has s.groups g → g.row.num ≢ num) → rows ≡ []
  no_row_shown = none_shown (λ (g : Group). g.row.num) num (λ g. entity_values g.row) s.groups rows shown

-- A result that is right for the row is right for the number.
pub numbered_told : (num : ℤ) (db : Database) (heads : List Row) (found : Option Entity) → AnswersNumber num db heads → FindsOfHead heads db found → FindsNumbered num db found
numbered_told num db heads found h of a s = record {
  own = λ g there is. (of a s).own g there (numbered_shown db a s num heads h g there is);
  kept = go (has_or_not (λ (g : Group). g.row.num) num s.groups);
}
  where
    go : ((g : Group) → Has s.groups g → g.row.num ≢ num) ⊎ ((g : Group) × Has s.groups g × (g.row.num ≡ num)) → IfSome found (λ e. (g : Group) × Has s.groups g × (g.row.num ≡ num) × (g.entity ≡ e))
    go (inl absent) = subst (λ (p : Option Entity). IfSome p (λ e. (g : Group) × Has s.groups g × (g.row.num ≡ num) × (g.entity ≡ e))) (sym ((of a s).none (no_row_shown db a s num heads h absent))) tt
    go (inr (g, there, is)) = subst (λ (p : Option Entity). IfSome p (λ e. (g : Group) × Has s.groups g × (g.row.num ≡ num) × (g.entity ≡ e))) (sym ((of a s).own g there (numbered_shown db a s num heads h g there is))) (g, there, is, refl)
