-- The requests that wait for the log, and the outcomes that are still to be given.
use Rattle.std.specs.Prelude.{◌+◌, ◌<◌, ℕ, List, vec_len}
use Rattle.std.specs.VecDeque.{deque_len}
use Rattle.server_backend.specs.declared.outcome.Outcome.{Outcome}
use Rattle.pool_backend.specs.declared.waiting_list.WaitingList.{WaitingList}

-- The outcomes that are still to be given, in order, each with its ticket.
abbrev pub given_by : WaitingList → List (ℕ × Outcome)
given_by list = list.outcomes.items

-- Holds if there is memory for one more request or outcome.
abbrev pub HasRoom : WaitingList → Type 0
HasRoom list = vec_len list.items + deque_len list.outcomes < list.most
