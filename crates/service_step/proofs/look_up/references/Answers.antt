use Rattle.std.proofs.Common.{◌≡◌, List, take, map, ap, ◌∙◌, arith}
use Rattle.std.proofs.lemmas.List.{take_all}
use Rattle.space_core.specs.declared.met.Met.{Met}
use Rattle.service_step.proofs.Visible.{seen_by, seen_there}
use Rattle.service_step.proofs.look_up.references.Goals as goal

pub returns : goal.returns
returns c = λ a es is.
    let all : take c.loop-found.found-index c.args.met.now ≡ c.args.met.now = take_all c.loop-found.found-index c.args.met.now (omega arith) in
    c.from_vec.ensures ∙ (c.loop-found.invariant ∙ (ap (λ (xs : List Met). map (seen_by c.args.uss.now) xs) (all ∙ is) ∙ seen_there c.args.uss.now a es))
