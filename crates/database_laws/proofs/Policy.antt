-- The clients get the replies of the policy.
use Rattle.std.proofs.Common.{List, Option, subst, ◌∙◌}
use Rattle.service_calls.specs.Purged.{all_delivered_in}
use Rattle.service_calls.proofs.InBatches.{Lawful}
use Rattle.service_step.specs.declared.reply.Reply.{Reply}
use Rattle.space_core.specs.declared.group_commit.GroupCommit as settles
use Rattle.space_core.specs.declared.space.Space as spaces
use Rattle.wire_http.specs.declared.moments.Moments as moments
use Rattle.server_watch.specs.declared.token_watch.TokenSource as sources
use Rattle.server_backend.specs.BackendEvent.{BackendEvent}
use Rattle.server_backend.specs.Told.{told_replies}
use Rattle.server_backend.specs.declared.backend.Backend as backends
use Rattle.server_clients.specs.Backends.{all_backend_events}
use Rattle.server_clients.specs.Clients.{EachClientIsServed}
use Rattle.database_backend.specs.Batches.{batches_of}
use Rattle.database_backend.specs.Database.{StepsAs, retention_of, service_of}
use Rattle.database_backend.specs.Delivered.{AreDelivered}
use Rattle.database_backend.specs.declared.database.Database.{Database}
use Rattle.database_backend.proofs.Policies.{are_the_policy}
use Rattle.database_backend.proofs.Stories.{are_delivered}
use Rattle.database_laws.specs.Responses.{ClientsGetThePolicy}
use Rattle.database_laws.proofs.Acts.{timed_are}
use Rattle.database_laws.proofs.Asked.{all_asked, asked_events, calls_asked}
use Rattle.database_laws.proofs.Responses.{each_is_sent}
use Rattle.database_laws.proofs.Told.{same_told}

module _ {S M T : Type 0} (g : spaces.Ghosts S) (k : settles.Ghosts S) (b : backends.Ghosts (Database S)) (m : moments.Ghosts M) (t : sources.Ghosts T)
    (is : (d : Database S) (event : BackendEvent) (d' : Database S) → b.steps d event d' → StepsAs g k d event d') (laws : Lawful g k) where
  pub get_the_policy : EachClientIsServed b m t → ClientsGetThePolicy g k b m t
  get_the_policy each setup events old new a follow quiet from =
      let asked = asked_events events in
      let found = are_delivered g k asked old.backend new.backend (all_asked g k b m t is setup events old new follow) quiet in
      let cut = found.0 in
      let replies = all_delivered_in cut.segments (batches_of cut) in
      let told : AreDelivered (told_replies (all_backend_events events)) replies = subst (λ (v : List (Option Reply)). AreDelivered v replies) (same_told events) found.1.told in
      let policy = are_the_policy g k laws (retention_of old.backend) asked (service_of old.backend) (service_of new.backend) a cut from in
      record {
        segments = cut.segments;
        batches = batches_of cut;
        calls = timed_are (retention_of old.backend) asked cut.segments cut.batches cut.calls cut.acts ∙ calls_asked g k b m t is setup events old new follow;
        runs = policy.runs;
        unseen = policy.unseen;
        clients = λ before during rest key name. each_is_sent g k b m t is setup key each events old new follow replies told before during rest name;
      }
