-- Questions for the end of the log.
use Rattle.std.specs.Prelude.{◌≤◌}
use Rattle.pool_etcd.specs.declared.questions.Questions.{Questions}

-- Holds if no question has an answer before the revision of the end was known for it, was sent to
-- etcd, and was asked.
pub record IsOrdered (q : Questions) : Type 0 where
  pub answered : q.answered ≤ q.known
  pub known : q.known ≤ q.sent
  pub sent : q.sent ≤ q.asked
