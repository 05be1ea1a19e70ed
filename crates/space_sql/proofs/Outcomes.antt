-- Proofs about the effects of a crash on a store before and after a call.
use Rattle.std.proofs.Common.{◌≡◌, inl, inr, refl, sym, ap, subst, ◌∙◌, arith}
use Rattle.std.specs.Prelude.{IsTrue}
use Rattle.sqlite_trees.specs.Tree.{Trees}
use Rattle.sqlite_trees.specs.Objects.{catalog_tree}
use Rattle.sqlite_schema.specs.declared.schema.Schema.{Schema}
use Rattle.sqlite_catalog.proofs.ReadLemmas.{lists_once}
use Rattle.sqlite.specs.Effect.{Database, IsDatabase}
use Rattle.sqlite.specs.State.{State, HasCleanDisk, Survives}
use Rattle.entity_core.specs.Airspace.{Airspace}
use Rattle.space_sql_schema.specs.Spelling.{Spells}
use Rattle.space_sql_schema.specs.Tables.{dss_schema}
use Rattle.space_sql_schema.proofs.OneAirspace.{one_airspace}
use Rattle.space_sql.specs.Holding.{AreTablesOf, Rests, holds_in, is_whole_in, with_tables}

pub respell : (D E : Database) (a : Airspace) → E.schema ≡ dss_schema → D.trees ≡ E.trees → Spells D a → Spells E a
respell D E a is same p = let path : D ≡ E = λ i. record { schema = (p.schema ∙ sym is) i; trees = same i } in subst (λ d. Spells d a) path p

-- The trees determine the schema.
pub one_schema : (trees : Trees) (s t : Schema) → IsDatabase (record { schema = s; trees = trees }) → IsDatabase (record { schema = t; trees = trees }) → s ≡ t
one_schema trees s t p q = lists_once (trees catalog_tree) s t p.lists q.lists

module _ (s : State) (rests : Rests s) (is_open : IsTrue s.is_open) where
  -- A crash leaves only the visible trees.
  now_trees : (db : Trees) → s.may_leave db → db ≡ s.now.trees
  now_trees db may = rests.no_other db is_open may ∙ sym (ap (λ (d : Database). d.trees) (rests.settled is_open))

  -- The visible database represents the airspace that the space holds.
  pub held_is_spelt : (a : Airspace) → holds_in s a → Spells s.now a
  held_is_spelt a h =
      let trees = now_trees h.0 h.1 in
      let seen = subst (λ t. IsDatabase (with_tables t)) trees h.2.0 in
      respell _ s.now a (one_schema s.now.trees s.now.schema dss_schema (rests.live is_open).0 seen) trees h.2.1

  pub spelt_is_held : (a : Airspace) → Spells s.now a → holds_in s a
  spelt_is_held a p =
      let trees : s.now.trees ≡ s.committed.trees = ap (λ (d : Database). d.trees) (rests.settled is_open) in
      let obeys : IsDatabase (with_tables s.now.trees) = subst (λ k. IsDatabase (record { schema = k; trees = s.now.trees })) p.schema (rests.live is_open).0 in
      (s.committed.trees, rests.stays is_open, (subst (λ t. IsDatabase (with_tables t)) trees obeys, respell s.now _ a refl trees p))

  pub spelt_alone : (a b : Airspace) → Spells s.now a → holds_in s b → b ≡ a
  spelt_alone a b p h = one_airspace s.now s.now b a refl (held_is_spelt b h) p

  -- If all that may be committed is whole, the visible database represents an airspace.
  pub whole_is_spelt : is_whole_in s → (a : Airspace) × Spells s.now a
  whole_is_spelt whole = let it = whole _ (rests.stays is_open) in (it.0, held_is_spelt it.0 (_, rests.stays is_open, it.1))

-- ---- calls that commit nothing

module _ (old new : State) (went : Survives old new (λ _. ⊥)) (clean : HasCleanDisk new) where
  pub clean_before : HasCleanDisk old
  clean_before = omega (arith, went.clean)

  pub not_new : (db : Trees) → new.may_leave db → old.may_leave db
  not_new db may = elim (went.crash clean db may) [ inl earlier ↦ earlier | inr none ↦ absurd none ]

  pub no_other : (a : Airspace) → holds_in new a → holds_in old a
  no_other a h = (h.0, not_new h.0 h.1, h.2)

  pub stays_whole : is_whole_in old → is_whole_in new
  stays_whole whole db may = whole db (not_new db may)

  -- If the store is still open, the space holds the same airspaces.
  pub stays_held : Rests old → Rests new → IsTrue old.is_open → IsTrue new.is_open → (a : Airspace) → holds_in old a → holds_in new a
  stays_held before after was_open is_open a h =
      let may = after.stays is_open in
      let same : h.0 ≡ new.committed.trees = before.no_other h.0 was_open h.1 ∙ sym (before.no_other _ was_open (not_new _ may)) in
      (new.committed.trees, may, subst (λ t. AreTablesOf t a) same h.2)
