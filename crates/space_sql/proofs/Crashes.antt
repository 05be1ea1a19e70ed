-- Proofs that relate a crash to the next opening.
use Rattle.std.specs.Prelude.{◌≡◌, ◌∷◌, List, [], IsTrue, Result, Ok, Err, IfErr, IfOk, refl}
use Rattle.std.proofs.Common.{sym, ap, subst, ◌∙◌}
use Rattle.std.proofs.Math.Logic.{∥∥₁_map}
use Rattle.std.proofs.lemmas.Grind.{not_there}
use Rattle.sqlite_trees.specs.Tree.{Trees}
use Rattle.sqlite_value.specs.declared.value.Value.{Value}
use Rattle.sqlite_value.specs.declared.value.Value.TheVariants.{Null}
use Rattle.sqlite_value.specs.Order.{Row, column}
use Rattle.sqlite.specs.Effect.{Database}
use Rattle.sqlite.specs.State.{State, IsLive}
use Rattle.entity_core.specs.Airspace.{Airspace}
use Rattle.space_sql_select.specs.Meta.{IsOtherFormat}
use Rattle.space_sql_schema.specs.declared.format.Format.{Format}
use Rattle.space_sql_schema.specs.declared.format.Format.TheVariants.{One, TwoUnindexed, Two, OldOne, OldTwoUnindexed, OldTwo}
use Rattle.space_sql_schema.specs.Spelling.{Spells, SpellsAs}
use Rattle.space_sql_schema.specs.Tables.{dss_schema, schema_of}
use Rattle.space_sql_schema.proofs.OneAirspace.{one_airspace}
use Rattle.space_sql_open.specs.Opening.{Refuses}
use Rattle.space_sql.specs.Holding.{AreTablesOf, holds_in, is_whole_in, with_tables}
use Rattle.space_sql_open.specs.declared.open_fault.OpenFault.{OpenFault}
use Rattle.space_sql_open.specs.declared.open_fault.OpenFault.TheVariants.{NotADss, Version, Store}
use Rattle.space_sql.proofs.Outcomes.{one_schema, respell}

pub leaves_held : (s : State) → is_whole_in s → (db : Trees) → s.may_leave db → (a : Airspace) × holds_in s a × AreTablesOf db a
leaves_held s whole db may = let it = whole db may in (it.0, (db, may, it.1), it.1)

pub leaves_content : (s : State) (a : Airspace) → ((b : Airspace) → holds_in s b → b ≡ a) → is_whole_in s → (db : Trees) → s.may_leave db → AreTablesOf db a
leaves_content s a only whole db may = let it = leaves_held s whole db may in subst (λ b. AreTablesOf db b) (only it.0 it.1) it.2

-- Holds if the connection was opened over what a crash left.
record Found (old opened : State) : Type 0 where
  schema : opened.now.schema ≡ dss_schema
  held : Airspace
  holds : holds_in old held
  spelt : Spells opened.now held

found_again : (old opened : State) → is_whole_in old → IsLive opened → IsTrue opened.is_open → opened.now ≡ opened.committed → old.may_leave opened.committed.trees → Found old opened
found_again old opened whole live is_open settled may =
    let it = leaves_held old whole opened.committed.trees may in
    let committed = one_schema opened.committed.trees opened.committed.schema dss_schema (live is_open).1 it.2.0 in
    let now : opened.now.schema ≡ dss_schema = ap (λ (d : Database). d.schema) settled ∙ committed in
    record {
      schema = now;
      held = it.0;
      holds = it.1;
      spelt = respell (with_tables opened.committed.trees) opened.now it.0 now (ap (λ (d : Database). d.trees) (sym settled)) it.2.1;
    }

format_in : List Row → Value
format_in [] = Null
format_in (r ∷ rows) = column r 1

not_other : (format : Format) (db : Database) (a : Airspace) → SpellsAs format db a → IsOtherFormat db → ⊥
unfolding format_in
not_other One db a p other = other.not_one (ap format_in (sym other.only ∙ p.meta))
not_other TwoUnindexed db a p other = other.not_two (ap format_in (sym other.only ∙ p.meta))
not_other Two db a p other = other.not_two (ap format_in (sym other.only ∙ p.meta))
not_other OldOne db a p other = other.not_one (ap format_in (sym other.only ∙ p.meta))
not_other OldTwoUnindexed db a p other = other.not_two (ap format_in (sym other.only ∙ p.meta))
not_other OldTwo db a p other = other.not_two (ap format_in (sym other.only ∙ p.meta))

pub not_refused : (format : Format) (db : Database) (a : Airspace) (fault : OpenFault) → SpellsAs format db a → Refuses format db fault → (fault ≡ Store → ⊥) → ⊥
not_refused format db a NotADss p r other = r.0 a p
not_refused format db a Version p r other = not_other format db a p r
not_refused format db a Store p r other = other refl

-- The fault is `Store` if every other one is impossible.
pub is_store : (fault : OpenFault) → ((fault ≡ Store → ⊥) → ⊥) → fault ≡ Store
is_store NotADss h = absurd (h (λ e. cc))
is_store Version h = absurd (h (λ e. cc))
is_store Store h = refl

if_ok_as : {X E : Type 0} {P Q : X → Type 0} (r : Result X E) → ((x : X) → P x → Q x) → IfOk r P → IfOk r Q
if_ok_as (Ok x) f p = f x p
if_ok_as (Err e) f p = tt

if_err_as : {X E : Type 0} {P Q : E → Type 0} (r : Result X E) → ((e : E) → P e → Q e) → IfErr r P → IfErr r Q
if_err_as (Ok x) f p = tt
if_err_as (Err e) f p = f e p

module _ (old opened : State) (live : IsLive opened) (settled : IsTrue opened.is_open → opened.now ≡ opened.committed) {X C : Type 0} (r : Result X (OpenFault × C)) (Left : Type 0) (sees : Left → IsTrue opened.is_open × ∥ old.may_leave opened.committed.trees ∥₁) where
  pub taken_again : (Sound : X → Type 0) (Has : X → Airspace → Type 0) → IfOk r (λ s. (format : Format) → Sound s → opened.now.schema ≡ schema_of format → (a : Airspace) × SpellsAs format opened.now a × Has s a)
      → IfOk r (λ s. Sound s → is_whole_in old → Left → ∥ ((a : Airspace) × holds_in old a × Has s a) ∥₁)
  taken_again Sound Has taken = if_ok_as r (λ s got sound whole left. ∥∥₁_map (sees left).1 (λ may.
      let it = found_again old opened whole live (sees left).0 (settled (sees left).0) may in
      let own = got Two sound it.schema in
      (own.0, subst (λ a. holds_in old a) (one_airspace _ _ it.held own.0 refl it.spelt own.1) it.holds, own.2))) taken

  pub refused_again : (Clean : C → Type 0) → IfErr r (λ e. (format : Format) → Clean e.1 → opened.now.schema ≡ schema_of format → Refuses format opened.now e.0) → IfErr r (λ e. Clean e.1 → is_whole_in old → Left → e.0 ≡ Store)
  refused_again Clean refuses = if_err_as r (λ e why clean whole left. is_store e.0 (λ other. not_there (sees left).1 (λ may.
      let it = found_again old opened whole live (sees left).0 (settled (sees left).0) may in
      not_refused Two opened.now it.held e.0 it.spelt (why Two clean it.schema) other))) refuses
