use Rattle.std.proofs.Common.{drop}
use Rattle.space_rows.specs.Volumes.{SpellsVolumes}
use Rattle.space_rows.proofs.ReadSoFar.{ReadSoFar}
use Rattle.space_rows.proofs.volumes.volumes_of.Given as goal

abbrev pub invariant-loop-place : goal.invariant-loop-place
invariant-loop-place l = ReadSoFar (SpellsVolumes l.fn.num 0 l.volumes l.cells) (SpellsVolumes l.fn.num l.place (drop l.place l.volumes) l.rest) l.out.items
