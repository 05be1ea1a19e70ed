use Rattle.service_calls.proofs.Meetings.{mutual_meeting}
use Rattle.service_calls.proofs.laws.meeting_is_mutual.Goals as goal

pub returns : goal.returns
returns c = mutual_meeting
