use Rattle.token_conf.specs.TokenFile.{callers_of}
use Rattle.wire_http.proofs.PeekLaws.{peeked_head}
use Rattle.wire_http.proofs.connection.peek_head.Goals as goal

pub returns-in-Head : goal.returns-in-Head
returns-in-Head c = λ none. (
  none,
  peeked_head (callers_of c.args.tokens.now) c.args.held.now c.min.result c.head_so_far.new.fields c.in-Head.spans _ c.min.ensures c.in-Head.ensures c.find_caller.ensures,
)
