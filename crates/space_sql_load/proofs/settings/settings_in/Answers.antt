use Rattle.std.proofs.Common.{◌∙◌, ◌+◌, ap, drop}
use Rattle.space_rows.proofs.ReadSoFar.{front}
use Rattle.entity_core.specs.Airspace.{text_cmp}
use Rattle.entity_maps.specs.Availabilities.{availability_map, pair_of}
use Rattle.entity_maps.proofs.Maps.{map_of_none}
use Rattle.space_sql_select.specs.AvailabilityRecord.{stated_by}
use Rattle.space_sql_load.proofs.StoredAvailabilities.{settles_start, settles_more, settles_none}
use Rattle.space_sql_load.proofs.settings.settings_in.Goals as goal

pub loop-row-init : goal.loop-row-init
loop-row-init c = settles_start c.args.rows.now (availability_map c.new-out.result) (ap availability_map c.new-out.ensures ∙ map_of_none text_cmp pair_of)

pub loop-row-preserved : goal.loop-row-preserved
loop-row-preserved c =
    settles_more c.args.rows.now c.row-item.result (drop c.loop-row.row-index c.args.rows.now) (drop (c.loop-row.row-index + 1) c.args.rows.now) (availability_map c.loop-row.out) (availability_map c.put.new.self) (stated_by c.in-Some.setting)
    (front c.args.rows.now c.loop-row.row-index c.row-item.result c.loop-row-test.true c.row-item.is) (rw c.in-Some.is at c.in_ok-setting.ensures) c.in_ok-put-in-Some.ensures.ok c.loop-row.invariant

pub returns-in-None : goal.returns-in-None
returns-in-None c =
    settles_none c.args.rows.now c.row-item.result (drop c.loop-row.row-index c.args.rows.now) (drop (c.loop-row.row-index + 1) c.args.rows.now) (availability_map c.loop-row.out)
    (front c.args.rows.now c.loop-row.row-index c.row-item.result c.loop-row-test.true c.row-item.is) (rw c.in-None.is at c.in_ok-setting.ensures) c.loop-row.invariant
