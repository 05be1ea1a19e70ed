-- Proofs of what the statements mean.
use Rattle.std.proofs.Common.{refl, codes, [], ◌∷◌}
use Rattle.sqlite_tied.specs.Compute.{everything}
use Rattle.sqlite.specs.Listing.{understood}
use Rattle.space_sql_select.proofs.Means.{Lists}
use Rattle.space_sql_load.proofs.Texts.{entities_read, volumes_read, cells_read, settings_read, volume_ids_read, cell_ids_read, setting_ids_read, subs_read, sub_cells_read, namings_read, sub_cell_ids_read}

pub entities_list : Lists entities_read 1 (0 ∷ 2 ∷ 3 ∷ 4 ∷ 5 ∷ 6 ∷ 7 ∷ 8 ∷ 9 ∷ []) (0 ∷ [])
unfolding understood everything
entities_list = record { names = codes "num" ∷ codes "kind" ∷ codes "id" ∷ codes "manager" ∷ codes "state" ∷ codes "version" ∷ codes "serial" ∷ codes "ovn" ∷ codes "url" ∷ []; is = refl; plain = (refl, refl); unlisted = refl }

pub volumes_list : Lists volumes_read 3 (1 ∷ 2 ∷ 3 ∷ 4 ∷ 5 ∷ 6 ∷ []) (1 ∷ 2 ∷ [])
unfolding understood everything
volumes_list = record { names = codes "entity" ∷ codes "place" ∷ codes "alt_lower" ∷ codes "alt_upper" ∷ codes "time_start" ∷ codes "time_end" ∷ []; is = refl; plain = (refl, refl); unlisted = refl }

pub cells_list : Lists cells_read 5 (1 ∷ 2 ∷ 3 ∷ 4 ∷ 5 ∷ 6 ∷ []) (1 ∷ 2 ∷ 3 ∷ [])
unfolding understood everything
cells_list = record { names = codes "entity" ∷ codes "volume" ∷ codes "place" ∷ codes "token" ∷ codes "lo" ∷ codes "hi" ∷ []; is = refl; plain = (refl, refl); unlisted = refl }

pub settings_list : Lists settings_read 7 (1 ∷ 2 ∷ 3 ∷ []) []
unfolding understood everything
settings_list = record { names = codes "uss" ∷ codes "state" ∷ codes "version" ∷ []; is = refl; plain = (refl, refl); unlisted = refl }

pub volume_ids_list : Lists volume_ids_read 3 (0 ∷ []) (0 ∷ [])
unfolding understood everything
volume_ids_list = record { names = codes "rowid" ∷ []; is = refl; plain = (refl, refl); unlisted = refl }

pub cell_ids_list : Lists cell_ids_read 5 (0 ∷ []) (0 ∷ [])
unfolding understood everything
cell_ids_list = record { names = codes "rowid" ∷ []; is = refl; plain = (refl, refl); unlisted = refl }

pub setting_ids_list : Lists setting_ids_read 7 (0 ∷ []) (0 ∷ [])
unfolding understood everything
setting_ids_list = record { names = codes "rowid" ∷ []; is = refl; plain = (refl, refl); unlisted = refl }

pub subs_list : Lists subs_read 9 (0 ∷ 2 ∷ 3 ∷ 4 ∷ 5 ∷ 6 ∷ 7 ∷ 8 ∷ 9 ∷ 10 ∷ 11 ∷ 12 ∷ 13 ∷ []) (0 ∷ [])
unfolding understood everything
subs_list = record { names = codes "num" ∷ codes "id" ∷ codes "manager" ∷ codes "serial" ∷ codes "version" ∷ codes "notes" ∷ codes "url" ∷ codes "for_intents" ∷ codes "for_constraints" ∷ codes "alt_lower" ∷ codes "alt_upper" ∷ codes "time_start" ∷ codes "time_end" ∷ []; is = refl; plain = (refl, refl); unlisted = refl }

pub sub_cells_list : Lists sub_cells_read 11 (1 ∷ 2 ∷ 3 ∷ 4 ∷ 5 ∷ []) (1 ∷ 2 ∷ [])
unfolding understood everything
sub_cells_list = record { names = codes "subscription" ∷ codes "place" ∷ codes "token" ∷ codes "lo" ∷ codes "hi" ∷ []; is = refl; plain = (refl, refl); unlisted = refl }

pub namings_list : Lists namings_read 13 (0 ∷ 2 ∷ []) (0 ∷ [])
unfolding understood everything
namings_list = record { names = codes "entity" ∷ codes "subscription" ∷ []; is = refl; plain = (refl, refl); unlisted = refl }

pub sub_cell_ids_list : Lists sub_cell_ids_read 11 (0 ∷ []) (0 ∷ [])
unfolding understood everything
sub_cell_ids_list = record { names = codes "rowid" ∷ []; is = refl; plain = (refl, refl); unlisted = refl }
