use Rattle.std.proofs.Common.{◌≡◌, ◌++◌, take}
use Rattle.dss_report.specs.Report.{lines_of}
use Rattle.dss_report.proofs.line.put_lines.Given as goal

abbrev pub invariant-loop-entity : goal.invariant-loop-entity
invariant-loop-entity l = l.text.items ≡ l.fn.text.items ++ lines_of (take l.entity-index l.entities)
