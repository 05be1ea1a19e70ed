use Rattle.std.proofs.Common.{◌≤◌, ◌<◌, ◌⊎◌, max, length}
use Rattle.wire_http.specs.Source.{HasRead, bytes_of}
use Rattle.wire_http.proofs.source.Source.fill.Given as goal

abbrev pub invariant-filling : goal.invariant-filling
invariant-filling g l = record {
  reads : HasRead g.R.Read.remaining l.fn.self l.self;
  short : length (bytes_of l.self) ≤ max (length (bytes_of l.fn.self)) (max l.count 8192);
  fewer : (l.self.turns < l.fn.self.turns) ⊎ (length (bytes_of l.self) ≤ length (bytes_of l.fn.self));
}

abbrev pub decreases-filling : goal.decreases-filling
decreases-filling g l = l.self.turns
