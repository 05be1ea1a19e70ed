use Rattle.std.proofs.Common.{◌∙◌, ap, take}
use Rattle.std.proofs.lemmas.List.{take_min}
use Rattle.admin_http.proofs.request.parse_admin_request.Goals as goal

pub said_by_head-requires-clause-front : goal.said_by_head-requires-clause-front
said_by_head-requires-clause-front c =
    ap (λ n. take n c.args.bytes.now) c.min.ensures ∙ take_min 8192 c.args.bytes.now
