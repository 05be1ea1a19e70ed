use Rattle.sqlite.specs.Held.{state}
use Rattle.space_sql_schema.specs.Tables.{old_unindexed_schema}
use Rattle.space_sql_open.specs.OldRows.{HoldsNamings, HoldsOthers, HoldsSettings, WantsNamings, WantsOthers, WantsSettings}
use Rattle.space_sql_open.proofs.OldReads.{both_taken, first_lacks, second_lacks}
use Rattle.space_sql_open.proofs.old_rows.take_others.Goals as goal

pub returns-in-Err-clause-takes : goal.returns-in-Err-clause-takes
returns-in-Err-clause-takes g c =
    first_lacks old_unindexed_schema WantsNamings WantsSettings WantsOthers HoldsNamings HoldsSettings HoldsOthers (λ trees want. want.0) (λ trees want. want.1) (state g.S.Store c.args.tx.now.conn.now) (state g.S.Store c.take_namings.new.tx.conn.now) c.in-Err.fault c.in-Err.ensures.takes

pub returns-in-Ok-take_settings-clause-takes : goal.returns-in-Ok-take_settings-clause-takes
returns-in-Ok-take_settings-clause-takes g c =
    both_taken old_unindexed_schema WantsNamings WantsSettings WantsOthers HoldsNamings HoldsSettings HoldsOthers (λ trees want. want.0) (λ trees want. want.1) (state g.S.Store c.args.tx.now.conn.now) (state g.S.Store c.take_namings.new.tx.conn.now) (state g.S.Store c.take_settings.new.tx.conn.now) _ _ _ (λ trees x y. (x, y)) c.in-Ok.ensures.takes c.in-Ok-take_settings.ensures.takes

pub returns-in-Err-take_settings-clause-takes : goal.returns-in-Err-take_settings-clause-takes
returns-in-Err-take_settings-clause-takes g c =
    second_lacks old_unindexed_schema WantsNamings WantsSettings WantsOthers HoldsNamings HoldsSettings HoldsOthers (λ trees want. want.0) (λ trees want. want.1) (state g.S.Store c.args.tx.now.conn.now) (state g.S.Store c.take_namings.new.tx.conn.now) (state g.S.Store c.take_settings.new.tx.conn.now) _ c.in-Err-take_settings.fault c.in-Ok.ensures.takes c.in-Err-take_settings.ensures.takes
