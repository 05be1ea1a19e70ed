use Rattle.std.proofs.Common.{ltb, rules}
use Rattle.std.proofs.lemmas.Fn.{always_returns_same}
use Rattle.entity_maps.proofs.Notified.{rising_answer}
use Rattle.entity_maps.proofs.subscriptions.are_rising.Goals as goal

pub returns : goal.returns
returns c = rising_answer c.args.ids.now c.is_sorted_by.result (c.is_sorted_by.ensures.cases (λ x y. ltb x y) (always_returns_same _ _ _ (λ a r f' h. search rules)))
