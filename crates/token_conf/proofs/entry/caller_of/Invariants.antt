use Rattle.std.proofs.Common.{◌≡◌, drop}
use Rattle.std.specs.FinMap.{find, get}
use Rattle.entity_core.specs.Airspace.{text_cmp}
use Rattle.token_conf.specs.TokenFile.{callers_in}
use Rattle.token_conf.proofs.entry.caller_of.Given as goal

abbrev pub invariant-loop-token : goal.invariant-loop-token
invariant-loop-token l = find text_cmp l.text (drop l.token-index l.tokens) ≡ get (callers_in l.tokens) l.text
