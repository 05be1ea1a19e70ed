use Rattle.std.proofs.Common.{◌≡◌, length}
use Rattle.wire_http.specs.Source.{HasRead}
use Rattle.wire_http.proofs.request.next_request.Given as goal

abbrev pub invariant-reading : goal.invariant-reading
invariant-reading g l = record {
  reads : HasRead g.R.Read.remaining l.fn.source l.source;
  room : length l.fields ≡ 64;
}

abbrev pub decreases-reading : goal.decreases-reading
decreases-reading g l = l.source.turns
