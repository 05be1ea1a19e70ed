use Rattle.std.proofs.lemmas.Result.{IfOk-weaker}
use Rattle.std.proofs.Common.{refl, string_bytes}
use Rattle.grid_core.proofs.Tokens.{shortest_token}
use Rattle.grid_core.proofs.token.token.Goals as goal

pub returns : goal.returns
returns c =
    IfOk-weaker c.written.result _ _
    (λ text h. shortest_token c.args.cell c.raw-raw.ensures.valid c.raw-raw.result _ (string_bytes text) c.raw-raw.ensures.number refl h)
    c.written.ensures
