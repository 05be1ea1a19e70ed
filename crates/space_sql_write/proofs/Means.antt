-- Proofs of what the statements mean.
use Rattle.std.proofs.Common.{◌≡◌, ℕ, List, refl, [], ◌∷◌, pos, false, codes}
use Rattle.sqlite.specs.declared.types.Value.TheVariants.{Null, Int}
use Rattle.sqlite_tied.specs.Compute.{everything}
use Rattle.sqlite.specs.Listing.{understood, reads_listing}
use Rattle.sqlite.proofs.Callers.{IsPlain, command_of}
use Rattle.sqlite.specs.Command.TheVariants.{Update, Delete, Select}
use Rattle.sqlite.specs.Term.{Term, lit, col, op2}
use Rattle.sqlite_sql.specs.declared.ops.BinaryOp.TheVariants.{Arith}
use Rattle.sqlite_sql.specs.declared.ops.ArithOp.TheVariants.{Add}
use Rattle.space_sql_schema.specs.Tables.{dss_schema}
use Rattle.space_sql_schema.proofs.Selecting.{equals, query_of, is_one}
use Rattle.space_sql_write.proofs.Texts.{clear_cells_text, clear_volumes_text, clear_naming_text, clear_row_text, clear_sub_cells_text, clear_sub_row_text, raise_serial_text, raise_notes_text, number_text, sub_number_text, update_sub_row_text}

-- The test that a column is the first parameter.
abbrev pub is_first : ℕ → List Term
is_first place = equals (col 1 place) (col 0 0) ∷ []

pub clear_cells_is : command_of (understood dss_schema clear_cells_text) ≡ Delete 3 (record { lets = []; body = query_of 5 (is_first 1) (col 1 0 ∷ []) })
unfolding understood everything
clear_cells_is = refl

pub clear_cells_plain : IsPlain (understood dss_schema clear_cells_text)
unfolding understood everything
clear_cells_plain = (refl, refl)

pub clear_volumes_is : command_of (understood dss_schema clear_volumes_text) ≡ Delete 2 (record { lets = []; body = query_of 3 (is_first 1) (col 1 0 ∷ []) })
unfolding understood everything
clear_volumes_is = refl

pub clear_volumes_plain : IsPlain (understood dss_schema clear_volumes_text)
unfolding understood everything
clear_volumes_plain = (refl, refl)

pub clear_row_is : command_of (understood dss_schema clear_row_text) ≡ Delete 1 (record { lets = []; body = query_of 1 (is_first 0) (col 1 0 ∷ []) })
unfolding understood everything
clear_row_is = refl

pub clear_row_plain : IsPlain (understood dss_schema clear_row_text)
unfolding understood everything
clear_row_plain = (refl, refl)

abbrev pub raised_row : List Term
raised_row = col 1 0 ∷ col 1 0 ∷ lit Null ∷ col 1 2 ∷ op2 (Arith Add) (col 1 3) (lit (Int (pos 1))) ∷ []

pub raise_serial_is : command_of (understood dss_schema raise_serial_text) ≡ Update 0 (record { lets = []; body = query_of 0 is_one raised_row })
unfolding understood everything
raise_serial_is = refl

pub raise_serial_plain : IsPlain (understood dss_schema raise_serial_text)
unfolding understood everything
raise_serial_plain = (refl, refl)

abbrev pub is_kind_and_id : List Term
is_kind_and_id = equals (col 1 2) (col 0 0) ∷ equals (col 1 3) (col 0 1) ∷ []

pub number_is : command_of (understood dss_schema number_text) ≡ Select (record { lets = []; body = query_of 1 is_kind_and_id (col 1 0 ∷ []) }) (codes "num" ∷ [])
unfolding understood everything
number_is = refl

pub number_plain : IsPlain (understood dss_schema number_text)
unfolding understood everything
number_plain = (refl, refl)

pub number_unlisted : reads_listing dss_schema number_text ≡ false
unfolding understood everything
number_unlisted = refl

pub clear_naming_is : command_of (understood dss_schema clear_naming_text) ≡ Delete 7 (record { lets = []; body = query_of 13 (is_first 0) (col 1 0 ∷ []) })
unfolding understood everything
clear_naming_is = refl

pub clear_naming_plain : IsPlain (understood dss_schema clear_naming_text)
unfolding understood everything
clear_naming_plain = (refl, refl)

pub clear_sub_cells_is : command_of (understood dss_schema clear_sub_cells_text) ≡ Delete 6 (record { lets = []; body = query_of 11 (is_first 1) (col 1 0 ∷ []) })
unfolding understood everything
clear_sub_cells_is = refl

pub clear_sub_cells_plain : IsPlain (understood dss_schema clear_sub_cells_text)
unfolding understood everything
clear_sub_cells_plain = (refl, refl)

pub clear_sub_row_is : command_of (understood dss_schema clear_sub_row_text) ≡ Delete 5 (record { lets = []; body = query_of 9 (is_first 0) (col 1 0 ∷ []) })
unfolding understood everything
clear_sub_row_is = refl

pub clear_sub_row_plain : IsPlain (understood dss_schema clear_sub_row_text)
unfolding understood everything
clear_sub_row_plain = (refl, refl)

pub sub_number_is : command_of (understood dss_schema sub_number_text) ≡ Select (record { lets = []; body = query_of 9 (is_first 2) (col 1 0 ∷ []) }) (codes "num" ∷ [])
unfolding understood everything
sub_number_is = refl

pub sub_number_plain : IsPlain (understood dss_schema sub_number_text)
unfolding understood everything
sub_number_plain = (refl, refl)

pub sub_number_unlisted : reads_listing dss_schema sub_number_text ≡ false
unfolding understood everything
sub_number_unlisted = refl

-- The row that an update of `subscription` shows: its number, then all columns with their new
-- values.
abbrev pub replaced_row : List Term
replaced_row = col 1 0 ∷ col 1 0 ∷ lit Null ∷ col 0 1 ∷ col 0 2 ∷ col 0 3 ∷ col 0 4 ∷ col 0 5 ∷ col 0 6 ∷ col 0 7 ∷ col 0 8 ∷ col 0 9 ∷ col 0 10 ∷ col 0 11 ∷ col 0 12 ∷ []

pub update_sub_row_is : command_of (understood dss_schema update_sub_row_text) ≡ Update 5 (record { lets = []; body = query_of 9 (is_first 0) replaced_row })
unfolding understood everything
update_sub_row_is = refl

pub update_sub_row_plain : IsPlain (understood dss_schema update_sub_row_text)
unfolding understood everything
update_sub_row_plain = (refl, refl)

abbrev pub notes_row : List Term
notes_row = col 1 0 ∷ col 1 0 ∷ lit Null ∷ col 1 2 ∷ col 1 3 ∷ col 1 4 ∷ col 1 5 ∷ op2 (Arith Add) (col 1 6) (lit (Int (pos 1))) ∷ col 1 7 ∷ col 1 8 ∷ col 1 9 ∷ col 1 10 ∷ col 1 11 ∷ col 1 12 ∷ col 1 13 ∷ []

pub raise_notes_is : command_of (understood dss_schema raise_notes_text) ≡ Update 5 (record { lets = []; body = query_of 9 (is_first 2) notes_row })
unfolding understood everything
raise_notes_is = refl

pub raise_notes_plain : IsPlain (understood dss_schema raise_notes_text)
unfolding understood everything
raise_notes_plain = (refl, refl)
