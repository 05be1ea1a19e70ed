use Rattle.wire_http.proofs.Requests.{draft_is_a_turn, end_is_an_end, input_is_awaited, loss_is_a_part, no_request_is_a_part, no_time_is_a_part}
use Rattle.wire_http.proofs.laws.requests_are_turns.Goals as goal

pub returns-clause-drafts : goal.returns-clause-drafts
returns-clause-drafts g c = λ callers. draft_is_a_turn g.S.Space g.M.Moments.gives callers

pub returns-clause-losses : goal.returns-clause-losses
returns-clause-losses g c = λ callers. loss_is_a_part g.S.Space g.M.Moments.gives callers

pub returns-clause-clocks : goal.returns-clause-clocks
returns-clause-clocks g c = λ callers. no_time_is_a_part g.S.Space g.M.Moments.gives callers

pub returns-clause-memory : goal.returns-clause-memory
returns-clause-memory g c = λ callers. no_request_is_a_part g.S.Space g.M.Moments.gives callers

pub returns-clause-input : goal.returns-clause-input
returns-clause-input g c = λ callers. input_is_awaited g.S.Space g.M.Moments.gives callers

pub returns-clause-ends : goal.returns-clause-ends
returns-clause-ends g c = λ callers. end_is_an_end g.S.Space g.M.Moments.gives callers
