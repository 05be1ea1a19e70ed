-- Proofs that the rows of `meta` describe the database.
use Rattle.std.proofs.Common.{◌≡◌, ◌↔◌, ℕ, List, [], ◌∷◌, map, codes, Bool, IsTrue, refl, sym, subst, ◌∙◌}
use Rattle.std.specs.Prelude.{IsPermutation}
use Rattle.std.proofs.lemmas.List.Sorted.{IsPermutation-sym}
use Rattle.sqlite_schema.specs.declared.command.Command.TheVariants.{Select}
use Rattle.sqlite_tied.specs.Compute.{everything}
use Rattle.sqlite.specs.declared.types.Value.TheVariants.{Null}
use Rattle.sqlite.specs.Order.{Row}
use Rattle.sqlite.specs.Effect.{Database, Reads}
use Rattle.sqlite.specs.Listing.{understood}
use Rattle.sqlite.proofs.Callers.{one_permutation}
use Rattle.space_sql_schema.specs.Tables.{dss_schema}
use Rattle.space_sql_schema.specs.Spelling.{meta_columns, meta_values}
use Rattle.space_sql_select.specs.Meta.{AreOtherFormat, IsOtherFormat, ShowsMeta}
use Rattle.space_sql_select.specs.Selecting.{IsSelect, Answers, command_of}
use Rattle.space_sql_select.proofs.Means.{listing}
use Rattle.space_sql_select.proofs.Selected.{selects_all}
use Rattle.space_sql_select.proofs.Shown.{all_pass}
use Rattle.space_sql_select.proofs.Texts.{metas_read}

pub one_serial : (rows : List Row) (m n : ℕ) → rows ≡ meta_values 2 m ∷ [] → rows ≡ meta_values 2 n ∷ [] → m ≡ n
one_serial rows m n p q = let e = sym p ∙ q in cc

pub not_other : (rows : List Row) (serial : ℕ) → rows ≡ meta_values 2 serial ∷ [] → ¬ AreOtherFormat rows
not_other rows serial p o = o.not_two (let e = sym o.only ∙ p in cc)

pub other_database : (db : Database) (rows : List Row) → ShowsMeta db rows → AreOtherFormat rows → IsOtherFormat db
other_database db rows shows o = record {
  one = o.one;
  format = o.format;
  serial = o.serial;
  only = one_permutation (o.one ∷ o.format ∷ o.serial ∷ []) (map meta_columns (db.trees 0)) (IsPermutation-sym _ _ (subst (IsPermutation (map meta_columns (db.trees 0))) o.only shows));
  not_one = o.not_one;
  not_two = o.not_two;
}

pub other_rows : (db : Database) (rows : List Row) → ShowsMeta db rows → IsOtherFormat db → AreOtherFormat rows
other_rows db rows shows o = record {
  one = o.one;
  format = o.format;
  serial = o.serial;
  only = one_permutation (o.one ∷ o.format ∷ o.serial ∷ []) rows (subst (λ l. IsPermutation l rows) o.only shows);
  not_one = o.not_one;
  not_two = o.not_two;
}

metas_are : command_of metas_read ≡ Select (record { lets = []; body = listing 0 [] (0 ∷ 2 ∷ 3 ∷ []) [] }) (codes "one" ∷ codes "format" ∷ codes "serial" ∷ [])
unfolding understood everything
metas_are = refl

pub metas_select : IsSelect metas_read
unfolding understood everything
metas_select = record { plain = (refl, refl); unlisted = refl }

metas_answered : (db : Database) (rows : List Row) → Answers metas_read [] db rows → ShowsMeta db rows
metas_answered db rows h =
    let read = subst (λ k. Reads k db [] rows) metas_are h in
    let all = selects_all 0 [] (0 ∷ 2 ∷ 3 ∷ []) [] db.trees [] rows refl (read.answer Null) in
    subst (λ l. IsPermutation (map meta_columns l) rows) (all_pass (db.trees 0)) all

pub other_told : (db : Database) (rows sliced : List Row) (b : Bool) → sliced ≡ rows → IsTrue b ↔ AreOtherFormat sliced → (db.schema ≡ dss_schema → Answers metas_read [] db rows)
    → db.schema ≡ dss_schema → IsTrue b ↔ IsOtherFormat db
other_told db rows sliced b e is h has =
    let shows = metas_answered db rows (h has) in
    let told = subst (λ l. IsTrue b ↔ AreOtherFormat l) e is in
    ((λ yes. other_database db rows shows (told.0 yes)), (λ other. told.1 (other_rows db rows shows other)))
