use Rattle.std.proofs.Common.{◌≡◌, ◌++◌, map, take, drop}
use Rattle.pool_instance.specs.Lists.{asked}
use Rattle.pool_instance.proofs.requests.note_question.Given as goal

abbrev pub invariant-loop-reading : goal.invariant-loop-reading
invariant-loop-reading l = l.readings ≡ map (asked l.in_flight l.question) (take l.reading-index l.fn.readings) ++ drop l.reading-index l.fn.readings
