use Rattle.space_rows.proofs.VolumeRows.{VolumesWritten}
use Rattle.space_rows.proofs.volumes.volume_rows.Given as goal

abbrev pub invariant-loop-place : goal.invariant-loop-place
invariant-loop-place l = VolumesWritten l.fn.num l.volumes l.place l.rows.items l.cells.items
