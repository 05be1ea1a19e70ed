use Rattle.wire_http.proofs.DeferredLaws.{all_ready, ready_and_back}
use Rattle.wire_http.proofs.laws.what_may_be_sent.Goals as goal

pub returns-clause-first : goal.returns-clause-first
returns-clause-first c = ready_and_back

pub returns-clause-all : goal.returns-clause-all
returns-clause-all c = all_ready
