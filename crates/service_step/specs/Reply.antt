-- Replies of a service that has stopped.
use Rattle.std.specs.Prelude.{Bool, true, false}
use Rattle.service_step.specs.declared.reply.Reply.{Reply}
use Rattle.service_step.specs.declared.reply.Reply.TheVariants.{Stopped}

abbrev pub is_stopped : Reply → Bool
is_stopped Stopped = true
is_stopped r = false
