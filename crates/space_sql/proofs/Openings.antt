-- Proofs about the result and the effects of opening, by the presence of the tables.
use Rattle.std.specs.Prelude.{◌≡◌, ◌≢◌, Bool, Result, Ok, Err, IfErr, refl}
use Rattle.std.proofs.Common.{ap, subst, sym, ◌∙◌}
use Rattle.sqlite_trees.specs.Tree.{Trees}
use Rattle.sqlite_schema.specs.declared.schema.Schema.{Schema}
use Rattle.sqlite.specs.Effect.{Database}
use Rattle.sqlite.specs.State.{State, Survives}
use Rattle.sqlite.proofs.StateLemmas.{survives_weaker}
use Rattle.entity_core.specs.Airspace.{Airspace}
use Rattle.space_sql_schema.specs.Making.{EmptyIfNoTable}
use Rattle.space_sql_schema.specs.Presence.{presence_in}
use Rattle.space_sql_schema.specs.Spelling.{SpellsAs}
use Rattle.space_sql_schema.specs.Tables.{schema_of}
use Rattle.space_sql_schema.specs.declared.format.Format.{Format}
use Rattle.space_sql_schema.specs.declared.format.Format.TheVariants.{One, TwoUnindexed, Two, OldOne, OldTwoUnindexed, OldTwo}
use Rattle.space_sql_schema.specs.declared.presence.Presence.{Presence}
use Rattle.space_sql_schema.specs.declared.presence.Presence.TheVariants.{Missing, Whole}
use Rattle.space_sql_schema.proofs.OneAirspace.{one_airspace_of}
use Rattle.space_sql_schema.proofs.Presences.{first_stands, unindexed_stands, second_stands, old_first_stands, old_unindexed_stands, old_second_stands}
use Rattle.space_sql_open.specs.declared.open_fault.OpenFault.{OpenFault}
use Rattle.space_sql_open.specs.declared.open_fault.OpenFault.TheVariants.{Store}
use Rattle.space_sql.specs.OpenResult.{MayBeOpened, CommittedIfFound, finds_first}

pub ok_is_no_fault : {X : Type 0} (x : X) (fault : OpenFault) → ◌≢◌ {A = Result X OpenFault} (Ok x) (Err fault)
ok_is_no_fault x fault = λ e. cc

-- ---- the schema that was found

-- The presence of the tables in a schema is that in an equal one.
pub stands_seen : {seen own : Schema} {presence : Presence} → seen ≡ own → presence ≡ presence_in seen → presence_in own ≡ presence
stands_seen same exact = ap presence_in (sym same) ∙ sym exact

pub stands_as : (format : Format) (schema : Schema) → schema ≡ schema_of format → presence_in schema ≡ Whole format
stands_as One schema e = ap presence_in e ∙ first_stands
stands_as TwoUnindexed schema e = ap presence_in e ∙ unindexed_stands
stands_as Two schema e = ap presence_in e ∙ second_stands
stands_as OldOne schema e = ap presence_in e ∙ old_first_stands
stands_as OldTwoUnindexed schema e = ap presence_in e ∙ old_unindexed_stands
stands_as OldTwo schema e = ap presence_in e ∙ old_second_stands

-- If P holds for the format that the tables are found to have, it holds for each format that they
-- have.
pub of_format : (schema : Schema) (P : Format → Type 0) (own : Format) → presence_in schema ≡ Whole own → (schema ≡ schema_of own → P own) → (format : Format) → schema ≡ schema_of format → P format
of_format schema P own stands f format e =
    let same : Whole own ≡ Whole format = sym stands ∙ stands_as format schema e in
    let is : own ≡ format = cc in
    subst (λ (x : Format). schema ≡ schema_of x → P x) is f e

-- ---- whether an opening upgraded the database

pub tells_found : (upgraded : Bool) (presence found : Presence) → upgraded ≡ finds_first found → presence ≡ found → upgraded ≡ finds_first presence
tells_found upgraded presence found is stands = is ∙ sym (ap finds_first stands)

-- ---- effects of a crash

module _ {X C : Type 0} (old : State) (shown : C → State) where
  -- After a fault, the trees are those that the fault allows.
  pub left_as : (presence : Presence) (P : OpenFault → Trees → Type 0) (r : Result X (OpenFault × C)) → presence_in old.now.schema ≡ presence → ((fault : OpenFault) (trees : Trees) → P fault trees → (fault ≡ Store) × CommittedIfFound presence old trees)
      → IfErr r (λ e. Survives old (shown e.1) (P e.0)) → IfErr r (λ e. Survives old (shown e.1) (MayBeOpened old e.0))
  left_as presence P (Ok x) is f left = tt
  left_as presence P (Err e) is f left = survives_weaker old (shown e.1) _ _ (λ clean db p. let it = f e.0 db p in (it.0, subst (λ (s : Presence). CommittedIfFound s old db) (sym is) it.1)) left

  pub left_made : (r : Result X (OpenFault × C)) → presence_in old.now.schema ≡ Missing → IfErr r (λ e. e.0 ≡ Store) → IfErr r (λ e. Survives old (shown e.1) (EmptyIfNoTable old)) → IfErr r (λ e. Survives old (shown e.1) (MayBeOpened old e.0))
  left_made (Ok x) is store left = tt
  left_made (Err e) is store left = survives_weaker old (shown e.1) _ _ (λ clean db made. (store, subst (λ (s : Presence). CommittedIfFound s old db) (sym is) made)) left

-- ---- the airspace that is stored

pub one_airspace_as : (format : Format) (D E : Database) (a b : Airspace) → D.trees ≡ E.trees → SpellsAs format D a → SpellsAs format E b → a ≡ b
one_airspace_as format D E a b same p q = one_airspace_of format D E a b same p q

-- If a database represents one airspace with P, each airspace that it represents has P.
pub of_each_spelt : (P : Airspace → Type 0) (format : Format) (db : Database) (a : Airspace) → ((b : Airspace) × SpellsAs format db b × P b) → SpellsAs format db a → P a
of_each_spelt P format db a own spelt = subst P (one_airspace_of format db db own.0 a refl own.1 spelt) own.2
