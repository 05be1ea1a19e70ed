use Rattle.std.proofs.Common.{◌≡◌, take}
use Rattle.space_sql.proofs.schema.lists.all_same.Given as goal

abbrev pub invariant-loop-i : goal.invariant-loop-i
invariant-loop-i g l = take l.i l.a ≡ take l.i l.b
