-- Proofs of what the statements that read mean for tables of an old format.
use Rattle.std.proofs.Common.{◌≡◌, ℕ, List, refl, codes, [], ◌∷◌, false}
use Rattle.sqlite_tied.specs.Compute.{everything}
use Rattle.sqlite.specs.Listing.{understood, reads_listing}
use Rattle.sqlite.proofs.Callers.{IsPlain, command_of}
use Rattle.sqlite.specs.Command.TheVariants.{Select}
use Rattle.sqlite.specs.Schema.{Schema}
use Rattle.space_sql_schema.specs.declared.format.Format.{Format}
use Rattle.space_sql_schema.specs.declared.format.Format.TheVariants.{One, TwoUnindexed, Two, OldOne, OldTwoUnindexed, OldTwo}
use Rattle.space_sql_schema.specs.Tables.{old_first_schema, old_unindexed_schema, schema_of}
use Rattle.space_sql_select.proofs.Means.{listing}
use Rattle.space_sql_select.proofs.Texts.{metas_read}
use Rattle.space_sql_load.proofs.Texts.{settings_read, subs_read, sub_cells_read, namings_read}

-- Holds if the text means a query of some columns of all rows of a table.
pub record ListsIn (schema : Schema) (text : List ℕ) (t : ℕ) (shown order : List ℕ) : Type 0 where
  pub names : List (List ℕ)
  pub is : command_of (understood schema text) ≡ Select (record { lets = []; body = listing t [] shown order }) names
  pub plain : IsPlain (understood schema text)
  pub unlisted : reads_listing schema text ≡ false

abbrev meta_names : List (List ℕ)
meta_names = codes "one" ∷ codes "format" ∷ codes "serial" ∷ []

pub metas_in : (format : Format) → ListsIn (schema_of format) metas_read 0 (0 ∷ 2 ∷ 3 ∷ []) []
unfolding understood everything
metas_in One = record { names = meta_names; is = refl; plain = (refl, refl); unlisted = refl }
metas_in TwoUnindexed = record { names = meta_names; is = refl; plain = (refl, refl); unlisted = refl }
metas_in Two = record { names = meta_names; is = refl; plain = (refl, refl); unlisted = refl }
metas_in OldOne = record { names = meta_names; is = refl; plain = (refl, refl); unlisted = refl }
metas_in OldTwoUnindexed = record { names = meta_names; is = refl; plain = (refl, refl); unlisted = refl }
metas_in OldTwo = record { names = meta_names; is = refl; plain = (refl, refl); unlisted = refl }

pub subs_in : ListsIn old_unindexed_schema subs_read 10 (0 ∷ 2 ∷ 3 ∷ 4 ∷ 5 ∷ 6 ∷ 7 ∷ 8 ∷ 9 ∷ 10 ∷ 11 ∷ 12 ∷ 13 ∷ []) (0 ∷ [])
unfolding understood everything
subs_in = record { names = codes "num" ∷ codes "id" ∷ codes "manager" ∷ codes "serial" ∷ codes "version" ∷ codes "notes" ∷ codes "url" ∷ codes "for_intents" ∷ codes "for_constraints" ∷ codes "alt_lower" ∷ codes "alt_upper" ∷ codes "time_start" ∷ codes "time_end" ∷ []; is = refl; plain = (refl, refl); unlisted = refl }

pub cells_in : ListsIn old_unindexed_schema sub_cells_read 12 (1 ∷ 2 ∷ 3 ∷ 4 ∷ 5 ∷ []) (1 ∷ 2 ∷ [])
unfolding understood everything
cells_in = record { names = codes "subscription" ∷ codes "place" ∷ codes "token" ∷ codes "lo" ∷ codes "hi" ∷ []; is = refl; plain = (refl, refl); unlisted = refl }

pub namings_in : ListsIn old_unindexed_schema namings_read 15 (0 ∷ 2 ∷ []) (0 ∷ [])
unfolding understood everything
namings_in = record { names = codes "entity" ∷ codes "subscription" ∷ []; is = refl; plain = (refl, refl); unlisted = refl }

abbrev setting_names : List (List ℕ)
setting_names = codes "uss" ∷ codes "state" ∷ codes "version" ∷ []

pub settings_in : ListsIn old_unindexed_schema settings_read 8 (1 ∷ 2 ∷ 3 ∷ []) []
unfolding understood everything
settings_in = record { names = setting_names; is = refl; plain = (refl, refl); unlisted = refl }

pub first_settings_in : ListsIn old_first_schema settings_read 8 (1 ∷ 2 ∷ 3 ∷ []) []
unfolding understood everything
first_settings_in = record { names = setting_names; is = refl; plain = (refl, refl); unlisted = refl }
