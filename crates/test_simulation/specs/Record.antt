-- The history that simulated sockets record.
use Rattle.server_base.specs.History.{HistoryEvent, Accepted, Received, ReceivedEnd, Sent}
use Rattle.test_simulation.specs.declared.record.Noted.{Noted}
use Rattle.test_simulation.specs.declared.record.Noted.TheVariants as noted

-- The event of a history that a recorded event stands for.
abbrev pub event_of : Noted → HistoryEvent
event_of (noted.Accepted name) = Accepted name
event_of (noted.Received name bytes) = Received name bytes.items
event_of (noted.ReceivedEnd name) = ReceivedEnd name
event_of (noted.Sent name bytes) = Sent name bytes.items
