use Rattle.std.proofs.Common.{◌≡◌, ◌++◌, ◌∙◌, ap, sym}
use Rattle.std.specs.Option.{option_to_list}
use Rattle.pool_backend.proofs.Receive.{own_rest}
use Rattle.pool_backend.proofs.waiting_list.WaitingList.pop.Goals as goal

pub returns-in-Some : goal.returns-in-Some
returns-in-Some c = c.pop_front.ensures.items ∙ ap (λ o. option_to_list o ++ c.pop_front.new.self.items) c.in-Some.is

pub returns-in-None : goal.returns-in-None
returns-in-None c =
    let same : c.args.self.now.outcomes.items ≡ c.pop_front.new.self.items = c.pop_front.ensures.items ∙ ap (λ o. option_to_list o ++ c.pop_front.new.self.items) c.in-None.is in
    (own_rest c.args.self.now.outcomes.items (same ∙ c.pop_front.ensures.rest), sym same)
