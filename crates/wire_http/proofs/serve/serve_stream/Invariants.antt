use Rattle.std.proofs.Common.{◌≡◌, ◌+◌, ◌≤◌}
use Rattle.token_conf.specs.TokenFile.{callers_of}
use Rattle.service_calls.specs.Held.{Stays}
use Rattle.wire_http.specs.Counted.{inner_of, calls_of, failures_of}
use Rattle.wire_http.specs.Count.{Spends, max_reads, max_requests}
use Rattle.wire_http.specs.Source.{ahead_of, bytes_of}
use Rattle.wire_http.proofs.StreamLaws.{GoesOn}
use Rattle.wire_http.proofs.serve.serve_stream.Given as goal

abbrev pub invariant-serving : goal.invariant-serving
invariant-serving g l = record {
  goes : GoesOn g.S.Space g.M.Moments.gives (callers_of l.tokens) max_requests
      l.fn.service l.service l.fn.moments l.moments
      (g.W.Write.contents (inner_of l.fn.writer)) (g.W.Write.contents (inner_of l.writer))
      (g.R.Read.remaining (inner_of l.fn.reader)) (ahead_of g.R.Read.remaining l.source) (bytes_of l.source) l.left l.count;
  bounded : l.count + l.left ≤ max_requests;
  turns : Spends max_reads l.source.turns (calls_of l.fn.reader) (calls_of l.source.reader.now);
  reader : l.source.reader.ghost_name ≡ l.initial.source.reader.ghost_name;
  good_reader : failures_of l.source.reader.now ≡ failures_of l.fn.reader;
  good_writer : failures_of l.writer ≡ failures_of l.fn.writer;
  good_clock : g.M.Moments.failures l.moments ≡ g.M.Moments.failures l.fn.moments;
  rises : calls_of l.fn.writer ≤ calls_of l.writer;
  stays : Stays g.S.Space l.fn.service l.service;
}

abbrev pub decreases-serving : goal.decreases-serving
decreases-serving g l = l.left
