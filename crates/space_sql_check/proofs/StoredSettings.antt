-- Proofs that the rows of `availability` are read exactly if they represent availabilities.
use Rattle.std.proofs.Common.{List, map, sym, subst, ◌++◌, append-nil}
use Rattle.std.specs.Prelude.{IsPermutation}
use Rattle.std.specs.FinMap.{empty, entries}
use Rattle.std.proofs.lemmas.List.Sorted.{IsPermutation-map, IsPermutation-trans, IsPermutation-sym}
use Rattle.sqlite.specs.Order.{Row}
use Rattle.sqlite.specs.Effect.{Database}
use Rattle.entity_core.specs.Airspace.{Availabilities, text_cmp}
use Rattle.space_sql_schema.specs.Spelling.{availability_values, three_columns}
use Rattle.space_sql_schema.proofs.OneAirspace.{stated_of_values, stated_back}
use Rattle.space_sql_schema.proofs.Making.{no_entries}
use Rattle.space_sql_load.specs.Showing.{ShowsSettings}
use Rattle.space_sql_load.specs.Gathering.{ReadsAvailabilities}
use Rattle.space_sql_load.proofs.Junction.{settled_from, settles_from, swapped_back, all_stated}
use Rattle.space_sql_check.specs.Parts.{HasSettings}

module _ (db : Database) (rows : List Row) (r : ShowsSettings db rows) where
  pub settings_read : (all : Availabilities) → ReadsAvailabilities rows empty all → HasSettings db
  settings_read all h =
      let s = settled_from rows empty all h in
      let same = subst (λ k. IsPermutation k (entries all)) (append-nil s.0) (subst (λ m. IsPermutation (s.0 ++ m) (entries all)) (no_entries text_cmp) s.3) in
      record {
        all = all;
        rows = IsPermutation-sym _ _ (IsPermutation-trans _ _ _ (subst (IsPermutation (map three_columns (db.trees 7))) s.1 r) (IsPermutation-map availability_values _ _ same));
        stated = all_stated s.0 (entries all) same s.2;
      }

  pub settings_listed : (h : HasSettings db) → ReadsAvailabilities rows empty h.all
  settings_listed h =
      let back = swapped_back availability_values stated_of_values stated_back (entries h.all) rows (IsPermutation-trans _ _ _ h.rows r) in
      subst (λ l. ReadsAvailabilities l empty h.all) (sym back.0)
      (settles_from (map stated_of_values rows) empty h.all (all_stated (entries h.all) (map stated_of_values rows) back.1 h.stated)
      (subst (λ m. IsPermutation (map stated_of_values rows ++ m) (entries h.all)) (sym (no_entries text_cmp)) (subst (λ k. IsPermutation k (entries h.all)) (sym (append-nil _)) (IsPermutation-sym _ _ back.1))))
