use Rattle.wire_route.proofs.Paths as paths
use Rattle.wire_route.proofs.laws.sample_gaps.Goals as goal

pub returns-clause-past_query : goal.returns-clause-past_query
returns-clause-past_query c = paths.past_query

pub returns-clause-no_ovn : goal.returns-clause-no_ovn
returns-clause-no_ovn c = paths.no_ovn

pub returns-clause-no_word : goal.returns-clause-no_word
returns-clause-no_word c = paths.no_word

pub returns-clause-no_slash : goal.returns-clause-no_slash
returns-clause-no_slash c = paths.no_slash_there

pub returns-clause-three_words : goal.returns-clause-three_words
returns-clause-three_words c = paths.three_words

pub returns-clause-no_supplier : goal.returns-clause-no_supplier
returns-clause-no_supplier c = paths.no_supplier

pub returns-clause-two_suppliers : goal.returns-clause-two_suppliers
returns-clause-two_suppliers c = paths.two_suppliers

pub returns-clause-past_subscription_query : goal.returns-clause-past_subscription_query
returns-clause-past_subscription_query c = paths.past_subscription_query

pub returns-clause-no_version : goal.returns-clause-no_version
returns-clause-no_version c = paths.no_version

pub returns-clause-no_subscription : goal.returns-clause-no_subscription
returns-clause-no_subscription c = paths.no_subscription

pub returns-clause-three_subscription_words : goal.returns-clause-three_subscription_words
returns-clause-three_subscription_words c = paths.three_subscription_words

pub returns-clause-one_subscription : goal.returns-clause-one_subscription
returns-clause-one_subscription c = paths.one_subscription

pub returns-clause-other : goal.returns-clause-other
returns-clause-other c = paths.other

pub returns-clause-no_front : goal.returns-clause-no_front
returns-clause-no_front c = paths.no_front
