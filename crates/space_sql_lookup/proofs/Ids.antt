-- Proofs about the id of the entity with a number.
use Rattle.std.proofs.Common.{◌≡◌, ℕ, ℤ, ◌<◌, ◌^◌, List, [], ◌∷◌, false, Result, Ok, Err, IfOk, refl, ap, subst, ◌∙◌, int_eq}
use Rattle.std.specs.List.{list_all}
use Rattle.sqlite_rules.specs.Lists.{Has}
use Rattle.sqlite_rules.proofs.ListLemmas.{all_has}
use Rattle.sqlite_typed.proofs.TestLemmas.{at_ints, last_term}
use Rattle.sqlite_sql.specs.declared.ops.CompareOp.TheVariants.{Eq}
use Rattle.sqlite.specs.declared.error.Error.{Error}
use Rattle.sqlite.specs.declared.types.Value.TheVariants.{Null, Int, Text}
use Rattle.sqlite.specs.Order.{Row, column}
use Rattle.sqlite.specs.Term.{holds}
use Rattle.sqlite.specs.Effect.{Database, Reads}
use Rattle.entity_core.specs.Airspace.{Airspace}
use Rattle.entity_core.specs.EntityId.{printed}
use Rattle.space_sql_schema.specs.Spelling.{Spells, Group, IsGroup, entity_values, entity_columns}
use Rattle.space_sql_schema.proofs.OneAirspace.{numbers_differ}
use Rattle.space_sql_lookup.specs.Dependents.{AnswersId, FindsId}
use Rattle.space_sql_lookup.proofs.Commands.{by_key, id_is}
use Rattle.space_sql_lookup.proofs.Picked.{selects_from, one_shown}

id_shown : (db : Database) (a : Airspace) (s : Spells db a) (num : ℤ) (rows : List Row) → AnswersId num db rows → (g : Group) → Has s.groups g → g.row.num ≡ num → rows ≡ (Text g.row.id ∷ []) ∷ []
id_shown db a s num rows h =
    let params = Int num ∷ [] in
    let read = subst (λ c. Reads c db params rows) id_is h in
    let all = selects_from 1 by_key (3 ∷ []) db.trees params rows refl (read.answer Null) (λ (g : Group). entity_values g.row) entity_columns (λ c. list_all (holds (params ∷ c ∷ [])) by_key) (λ c. column c 2 ∷ []) (λ (g : Group). int_eq g.row.num num)
    (λ r. refl) (λ r. refl) (λ g. last_term (at_ints false Eq g.row.num num)) s.groups s.entities in
    one_shown (λ (g : Group). g.row.num) num (λ g. Text g.row.id ∷ []) s.groups rows all (numbers_differ s.groups s.rising)

pub id_told : (num : ℤ) (rows sliced : List Row) (r : Result ℕ Error) → sliced ≡ rows → IfOk r (λ id. (n : ℕ) → n < 2 ^ 128 → sliced ≡ (Text (printed n) ∷ []) ∷ [] → id ≡ n) → (db : Database) → AnswersId num db rows → IfOk r (FindsId num db)
id_told num rows sliced (Ok id) e told db h = λ a s g there is.
    let own = (all_has (IsGroup a.serial s.subs) s.groups g s.each there).spelt in
    told g.entity.id own.kept.id (e ∙ (id_shown db a s num rows h g there is ∙ ap (λ (l : List ℕ). (Text l ∷ []) ∷ []) own.entity.id))
id_told num rows sliced (Err x) e told db h = tt
