-- Proofs that the availability of a USS is replaced.
use Rattle.std.proofs.Common.{◌≡◌, ℕ, ◌<◌, ℤ, List, [], ◌∷◌, ◌++◌, filter, not, ◌&&◌, Bool, true, false, Ok, Err, Result, OnOk, refl, sym, ap, subst, ◌∙◌, arith}
use Rattle.std.specs.Prelude.{IsPermutation}
use Rattle.std.specs.Ordering.{eq_by_cmp}
use Rattle.std.specs.FinMap.{entries, insert, nat_cmp-IsAntisymmetric, slice_cmp-IsAntisymmetric, IsAntisymmetric}
use Rattle.std.proofs.lemmas.Cmp.{nat_list_cmp_total, eq_by_cmp_equiv}
use Rattle.std.proofs.lemmas.List.Elements.{All-from_recursion, recursion_from_All}
use Rattle.std.proofs.lemmas.List.Sorted.{All-permutation, IsPermutation-append_comm, IsPermutation-trans, IsPermutation-sym}
use Rattle.sqlite_keyed.proofs.ListLemmas.{all-filter}
use Rattle.sqlite_tied.proofs.RuleLemmas.{and_true}
use Rattle.sqlite_tied.specs.Compute.{everything}
use Rattle.sqlite_typed.proofs.TestLemmas.{at_texts}
use Rattle.sqlite_sql.specs.declared.ops.BinaryOp.TheVariants.{Compare}
use Rattle.sqlite_sql.specs.declared.ops.CompareOp.TheVariants.{Eq}
use Rattle.sqlite_sql.specs.Ops.{binary, is_true}
use Rattle.sqlite_value.specs.declared.keys.Collation.TheVariants.{Binary}
use Rattle.sqlite.specs.declared.types.Value.TheVariants.{Text}
use Rattle.sqlite.specs.Order.{Row, column}
use Rattle.sqlite.specs.Term.{col}
use Rattle.sqlite.specs.Tree.{Trees}
use Rattle.sqlite.specs.Edit.{edit_of}
use Rattle.sqlite_rules.specs.Edit.{taken_by}
use Rattle.sqlite_rules.specs.Action.{works}
use Rattle.sqlite_schema.specs.declared.schema.Keys.TheVariants.{Enforced}
use Rattle.sqlite.specs.Rowids.TheVariants.{Given}
use Rattle.sqlite.specs.Effect.{Database}
use Rattle.sqlite.specs.Command.TheVariants.{Delete}
use Rattle.sqlite.specs.declared.error.Error.{Error}
use Rattle.sqlite.specs.Listing.{understood}
use Rattle.sqlite.specs.State.{State, Executes}
use Rattle.sqlite.proofs.Callers.{IsPlain, command_of, one_step}
use Rattle.entity_core.specs.declared.availability.Availability.{Availability}
use Rattle.entity_core.specs.Airspace.{Availabilities, VersionedAvailability, text_cmp, with_availability}
use Rattle.entity_core.specs.Serial.{max_serial}
use Rattle.space_core.specs.declared.space.Change.TheVariants.{Avail}
use Rattle.space_sql_schema.specs.Tables.{dss_schema, availability}
use Rattle.space_sql_schema.specs.Spelling.{IsStated, availability_values, three_columns}
use Rattle.space_sql_write.specs.Layout.{Always, AreRows, LaysOut, Relays, ReplacesAvailability, layout_of, with_availability_row, without_availability_row, with_next_serial}
use Rattle.space_sql_write.specs.Statements.{RelaysSound, MakesChange}
use Rattle.space_sql_write.proofs.Texts.{clear_availability_text}
use Rattle.space_sql_schema.proofs.Selecting.{query_of}
use Rattle.space_sql_write.proofs.Means.{is_first}
use Rattle.space_sql_write.proofs.Selecting.{clears_table}
use Rattle.space_sql_write.proofs.Relaying.{availabilities_relaid}
use Rattle.space_sql_write.proofs.Rows.{some_left}
use Rattle.space_sql_write.proofs.Entries.{others, inserted}
use Rattle.space_sql_write.proofs.Numbered.{made}
use Rattle.space_sql_write.proofs.Spelt.{AreStated, entities_later, lay_out, own_entities, own_stated, own_subs, subs_later}

-- ---- deleting the row

clear_availability_is : command_of (understood dss_schema clear_availability_text) ≡ Delete 4 (record { lets = []; body = query_of 7 (is_first 1) (col 1 0 ∷ []) })
unfolding understood everything
clear_availability_is = refl

clear_availability_plain : IsPlain (understood dss_schema clear_availability_text)
unfolding understood everything
clear_availability_plain = (refl, refl)

no_works : (db : Trees) (ids : List ℤ) → works dss_schema Enforced 0 7 (taken_by db (edit_of db (availability 7) ids Given 0 [])) [] ≡ []
unfolding everything
no_works db ids = refl

-- The test of the statement, as it is computed.
abbrev names : List ℕ → Row → Bool
names uss c = is_true (binary (Compare Eq Binary) (column c 0) (Text uss)) && true

names_uss : (uss : List ℕ) (s : List ℕ × VersionedAvailability) → names uss (availability_values s) ≡ eq_by_cmp text_cmp uss s.0
names_uss uss s = and_true _ ∙ (at_texts false Eq s.0 uss ∙ (eq_by_cmp_equiv nat_list_cmp_total).symm s.0 uss)

pub clears_availability : (old new : State) (uss : List ℕ) (r : Result ℕ Error) → Executes clear_availability_text (Text uss ∷ []) old new r → OnOk r (Relays Always (without_availability_row uss) old.now new.now)
clears_availability old new uss (Err e) h = tt
clears_availability old new uss (Ok count) h = λ l _ has.
    let db = old.now.trees in
    let u = clears_table clear_availability_text (Text uss ∷ []) (availability 7) 4 (is_first 1) refl clear_availability_is clear_availability_plain old new count has.schema has.availabilities.apart refl h
    (λ ids next same wrote. one_step dss_schema Enforced db next (edit_of db (availability 7) ids Given 0 []) (no_works db ids) wrote) in
    let left = some_left availability_values three_columns l.availabilities (db 7) has.availabilities (λ c. not (names uss c)) (λ s. not (eq_by_cmp text_cmp uss s.0)) (λ s. ap not (names_uss uss s)) in
    subst (λ d. LaysOut d (without_availability_row uss l)) (sym u.is) (availabilities_relaid old.now u.next l has u.step.tables _ (subst (AreRows availability_values three_columns _) (sym u.rows) left))

-- ---- the new airspace

text_exact : IsAntisymmetric text_cmp
text_exact = slice_cmp-IsAntisymmetric nat_cmp-IsAntisymmetric

module _ (m : Availabilities) (uss : List ℕ) (stated : VersionedAvailability) (is : IsStated (uss, stated)) where
  together : IsPermutation ((uss, stated) ∷ others text_cmp nat_list_cmp_total text_exact uss (entries m)) (entries (insert m uss stated))
  together = inserted text_cmp nat_list_cmp_total text_exact m uss stated

  -- With the new availability, the rows are what each USS has set.
  stated_set : AreStated (entries m) m → AreStated (filter (λ (s : List ℕ × VersionedAvailability). not (eq_by_cmp text_cmp uss s.0)) (entries m) ++ (uss, stated) ∷ []) (insert m uss stated)
  stated_set are = record {
    are = IsPermutation-trans _ _ _ (IsPermutation-sym _ _ together) (IsPermutation-append_comm ((uss, stated) ∷ []) (others text_cmp nat_list_cmp_total text_exact uss (entries m)));
    stated = recursion_from_All IsStated _ (All-permutation IsStated _ _ together (All-from_recursion IsStated ((uss, stated) ∷ others text_cmp nat_list_cmp_total text_exact uss (entries m)) (is, all-filter IsStated _ (entries m) are.stated)));
  }

-- The availability of the USS is replaced, and the serial increases by one.
pub sets_availability : (old replaced new : Database) (uss : List ℕ) (availability : Availability) (version : List ℕ) → ReplacesAvailability uss (availability, version) old replaced → RelaysSound (λ l. l.serial < max_serial) with_next_serial replaced new
    → MakesChange (Avail uss availability version) [] old new
sets_availability old replaced new uss availability version replaces raises a p fits =
    let l = layout_of old a p in
    let stated : VersionedAvailability = (availability, version) in
    let set = with_availability_row uss stated (without_availability_row uss l) in
    let has = replaces.1 l tt (lay_out old a p) in
    made old new a (with_availability a uss stated) p (with_next_serial set) p.subs p.groups (raises.0 set fits.room has) (raises.1 set fits.room has) (record {
      serial = refl;
      most = let room = fits.room in omega (arith, room);
      subs = subs_later _ _ _ _ _ (own_subs old a p);
      entities = entities_later _ _ _ _ _ _ _ _ (own_entities old a p);
      stated = stated_set a.availabilities uss stated replaces.0 (own_stated old a p);
    }) (λ n k at there. at) (λ n k at there. at)
