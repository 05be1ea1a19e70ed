-- How far the batch of a backend is, given its events.
use Rattle.std.specs.Prelude.{List, [], ◌∷◌}
use Rattle.server_backend.specs.BackendEvent.{Advances, Announces, Answers, BackendEvent, Forgets, Gives, GivesNone, Receives, Settles, Stops}

-- No request was received since the last batch, whose outcomes were all given; requests were
-- received since then; the batch ended, and outcomes may still be given; or a request was received
-- before they were.
pub data Phase : Type 0 where
  Quiet : Phase
  Running : Phase
  Ended : Phase
  Mixed : Phase

abbrev pub after_request : Phase → Phase
after_request Quiet = Running
after_request Running = Running
after_request Ended = Mixed
after_request Mixed = Mixed

abbrev pub after_settling : Phase → Phase
after_settling Quiet = Quiet
after_settling Running = Ended
after_settling Ended = Ended
after_settling Mixed = Mixed

-- After all outcomes were given.
abbrev pub after_giving : Phase → Phase
after_giving Quiet = Quiet
after_giving Running = Running
after_giving Ended = Quiet
after_giving Mixed = Running

abbrev pub phase_after : BackendEvent → Phase → Phase
phase_after (Receives moment call received) phase = after_request phase
phase_after Settles phase = after_settling phase
phase_after (Advances moment held now) phase = phase
phase_after (Gives ticket outcome) phase = phase
phase_after GivesNone phase = after_giving phase
phase_after (Announces ticket) phase = phase
phase_after (Answers moment ticket outcome) phase = phase
phase_after (Forgets ticket) phase = phase
phase_after Stops phase = phase

-- The phase after events, given the one before them.
abbrev pub phase_at_end : List BackendEvent → Phase → Phase
phase_at_end [] phase = phase
phase_at_end (event ∷ events) phase = phase_at_end events (phase_after event phase)
