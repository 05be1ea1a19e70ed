use Rattle.std.proofs.lemmas.Result.{on_ok_weaker}
use Rattle.dss_command.proofs.stream.serve_in_memory.Goals as goal

pub returns : goal.returns
returns g c =
    on_ok_weaker c.serve_stream_over-done.result.0
    (λ over. (c.new-space.result, c.serve_stream_over-done.result.1, c.new-space.ensures.content, over))
    c.serve_stream_over-done.ensures.served
