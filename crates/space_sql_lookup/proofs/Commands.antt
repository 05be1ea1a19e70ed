-- Proofs of what the statements mean that query rows by one column.
use Rattle.std.proofs.Common.{◌≡◌, List, [], ◌∷◌, codes, refl}
use Rattle.sqlite_schema.specs.declared.command.Command.TheVariants.{Select}
use Rattle.sqlite_tied.specs.Compute.{everything}
use Rattle.sqlite.specs.Listing.{understood}
use Rattle.sqlite.specs.Term.{Term, col}
use Rattle.space_sql_select.specs.Selecting.{IsSelect, command_of}
use Rattle.space_sql_select.proofs.Means.{listing}
use Rattle.space_sql_lookup.proofs.Found.{same}
use Rattle.space_sql_lookup.specs.Texts.{numbered_read, naming_read, sub_id_read, sub_read, sub_numbered_read, own_sub_cells_read, sub_num_read, namers_read, id_read}

-- The test that the key of a row is the parameter.
abbrev pub by_key : List Term
by_key = same (col 1 0) (col 0 0) ∷ []

-- The test that the first column is the parameter.
abbrev pub by_first : List Term
by_first = same (col 1 1) (col 0 0) ∷ []

-- The test that the second column is the parameter.
abbrev pub by_second : List Term
by_second = same (col 1 2) (col 0 0) ∷ []

pub numbered_select : IsSelect numbered_read
unfolding understood everything
numbered_select = record { plain = (refl, refl); unlisted = refl }

pub numbered_is : command_of numbered_read ≡ Select (record { lets = []; body = listing 1 by_key (0 ∷ 2 ∷ 3 ∷ 4 ∷ 5 ∷ 6 ∷ 7 ∷ 8 ∷ 9 ∷ []) [] }) (codes "num" ∷ codes "kind" ∷ codes "id" ∷ codes "manager" ∷ codes "state" ∷ codes "version" ∷ codes "serial" ∷ codes "ovn" ∷ codes "url" ∷ [])
unfolding understood everything
numbered_is = refl

pub naming_select : IsSelect naming_read
unfolding understood everything
naming_select = record { plain = (refl, refl); unlisted = refl }

pub naming_is : command_of naming_read ≡ Select (record { lets = []; body = listing 13 by_key (2 ∷ []) [] }) (codes "subscription" ∷ [])
unfolding understood everything
naming_is = refl

pub sub_id_select : IsSelect sub_id_read
unfolding understood everything
sub_id_select = record { plain = (refl, refl); unlisted = refl }

pub sub_id_is : command_of sub_id_read ≡ Select (record { lets = []; body = listing 9 by_key (2 ∷ []) [] }) (codes "id" ∷ [])
unfolding understood everything
sub_id_is = refl

pub sub_select : IsSelect sub_read
unfolding understood everything
sub_select = record { plain = (refl, refl); unlisted = refl }

pub sub_is : command_of sub_read ≡ Select (record { lets = []; body = listing 9 by_second (0 ∷ 2 ∷ 3 ∷ 4 ∷ 5 ∷ 6 ∷ 7 ∷ 8 ∷ 9 ∷ 10 ∷ 11 ∷ 12 ∷ 13 ∷ []) [] })
    (codes "num" ∷ codes "id" ∷ codes "manager" ∷ codes "serial" ∷ codes "version" ∷ codes "notes" ∷ codes "url" ∷ codes "for_intents" ∷ codes "for_constraints" ∷ codes "alt_lower" ∷ codes "alt_upper" ∷ codes "time_start" ∷ codes "time_end" ∷ [])
unfolding understood everything
sub_is = refl

pub sub_numbered_select : IsSelect sub_numbered_read
unfolding understood everything
sub_numbered_select = record { plain = (refl, refl); unlisted = refl }

pub sub_numbered_is : command_of sub_numbered_read ≡ Select (record { lets = []; body = listing 9 by_key (0 ∷ 2 ∷ 3 ∷ 4 ∷ 5 ∷ 6 ∷ 7 ∷ 8 ∷ 9 ∷ 10 ∷ 11 ∷ 12 ∷ 13 ∷ []) [] })
    (codes "num" ∷ codes "id" ∷ codes "manager" ∷ codes "serial" ∷ codes "version" ∷ codes "notes" ∷ codes "url" ∷ codes "for_intents" ∷ codes "for_constraints" ∷ codes "alt_lower" ∷ codes "alt_upper" ∷ codes "time_start" ∷ codes "time_end" ∷ [])
unfolding understood everything
sub_numbered_is = refl

pub own_sub_cells_select : IsSelect own_sub_cells_read
unfolding understood everything
own_sub_cells_select = record { plain = (refl, refl); unlisted = refl }

pub own_sub_cells_is : command_of own_sub_cells_read ≡ Select (record { lets = []; body = listing 11 by_first (1 ∷ 2 ∷ 3 ∷ 4 ∷ 5 ∷ []) (1 ∷ 2 ∷ []) }) (codes "subscription" ∷ codes "place" ∷ codes "token" ∷ codes "lo" ∷ codes "hi" ∷ [])
unfolding understood everything
own_sub_cells_is = refl

pub sub_num_select : IsSelect sub_num_read
unfolding understood everything
sub_num_select = record { plain = (refl, refl); unlisted = refl }

pub sub_num_is : command_of sub_num_read ≡ Select (record { lets = []; body = listing 9 by_second (0 ∷ []) [] }) (codes "num" ∷ [])
unfolding understood everything
sub_num_is = refl

pub namers_select : IsSelect namers_read
unfolding understood everything
namers_select = record { plain = (refl, refl); unlisted = refl }

pub namers_is : command_of namers_read ≡ Select (record { lets = []; body = listing 13 by_second (0 ∷ []) [] }) (codes "entity" ∷ [])
unfolding understood everything
namers_is = refl

pub id_select : IsSelect id_read
unfolding understood everything
id_select = record { plain = (refl, refl); unlisted = refl }

pub id_is : command_of id_read ≡ Select (record { lets = []; body = listing 1 by_key (3 ∷ []) [] }) (codes "id" ∷ [])
unfolding understood everything
id_is = refl
