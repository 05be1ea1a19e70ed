-- The calls of all clients are one list.
use Rattle.std.proofs.Common.{◌≡◌, List, [], ◌∷◌, ◌++◌, Option, refl, sym, ap, append-nil, subst, ◌∙◌}
use Rattle.std.proofs.lemmas.List.Concat.{flat_map-append}
use Rattle.service_calls.specs.declared.service.Service.{Service}
use Rattle.service_calls.specs.Batches.{Batch, CallRecord, CalledInOrder, MadeBatches, all_delivered, replies_delivered, uncommitted}
use Rattle.service_calls.specs.Purged.{Segment, all_delivered_in}
use Rattle.service_calls.proofs.InBatches.{Lawful}
use Rattle.service_step.specs.declared.reply.Reply.{Reply}
use Rattle.space_core.specs.declared.group_commit.GroupCommit as settles
use Rattle.space_core.specs.declared.space.Space as spaces
use Rattle.token_conf.specs.TokenFile.{TokenFile}
use Rattle.wire_http.specs.declared.moments.Moments as moments
use Rattle.server_watch.specs.declared.token_watch.TokenSource as sources
use Rattle.server_backend.specs.BackendEvent.{BackendEvent}
use Rattle.server_backend.specs.Phase.{Quiet}
use Rattle.server_backend.specs.Told.{told_replies}
use Rattle.server_backend.specs.declared.backend.Backend as backends
use Rattle.server_clients.specs.Backends.{all_backend_events}
use Rattle.server_clients.specs.Clients.{EachClientIsServed}
use Rattle.database_backend.specs.Database.{StepsAs, retention_of, service_of}
use Rattle.database_backend.specs.Delivered.{AreDelivered}
use Rattle.database_backend.specs.declared.database.Database.{Database}
use Rattle.database_backend.proofs.Phases.{are_told}
use Rattle.database_backend.proofs.Purges.{are_plausible}
use Rattle.database_backend.proofs.Stories.{are_delivered}
use Rattle.database_laws.specs.OneList.{CallsOfClientsAreOneList}
use Rattle.database_laws.specs.Requests.{all_requests}
use Rattle.database_laws.specs.Serve.{AskedUnder}
use Rattle.database_backend.specs.Policy.{times_of}
use Rattle.database_laws.proofs.Acts.{all_timed_are, timed_are}
use Rattle.database_laws.proofs.Asked.{all_asked, asked_events, calls_asked, same_phase}
use Rattle.database_laws.proofs.Clocks.{all_moments, all_read, all_times, due_read, readings}
use Rattle.database_laws.proofs.Kept.{are_kept}
use Rattle.database_laws.proofs.Responses.{each_is_sent}
use Rattle.database_laws.proofs.Tables.{all_taken, asked_under, tables}
use Rattle.database_laws.proofs.Told.{same_told}

-- No call leaves an equal service.
called_none : {S : Type 0} (g : spaces.Ghosts S) (k : settles.Ghosts S) (calls : List CallRecord) (old new : Service S) → calls ≡ [] → CalledInOrder g k old calls new → new ≡ old
called_none g k calls old new none h = subst (λ (v : List CallRecord). CalledInOrder g k old v new) none h

none_delivered : (segments : List Segment) (batches : List Batch) (calls : List CallRecord) → calls ≡ [] → all_delivered_in segments (batches ++ uncommitted calls ∷ []) ≡ all_delivered_in segments batches
none_delivered [] batches calls none =
    flat_map-append replies_delivered batches (uncommitted calls ∷ [])
    ∙ ap (λ (v : List CallRecord). all_delivered batches ++ (replies_delivered (uncommitted v) ++ [])) none
    ∙ append-nil (all_delivered batches)
none_delivered (segment ∷ segments) batches calls none = ap (λ (v : List Reply). all_delivered segment.batches ++ v) (none_delivered segments batches calls none)

module _ {S M T : Type 0} (g : spaces.Ghosts S) (k : settles.Ghosts S) (b : backends.Ghosts (Database S)) (m : moments.Ghosts M) (t : sources.Ghosts T)
    (is : (d : Database S) (event : BackendEvent) (d' : Database S) → b.steps d event d' → StepsAs g k d event d') (laws : Lawful g k) where
  pub are_one_list : EachClientIsServed b m t → CallsOfClientsAreOneList g k b m t
  are_one_list each setup events old new follow start ends =
      let asked = asked_events events in
      let does = all_asked g k b m t is setup events old new follow in
      let end = are_told g k asked old.backend new.backend does start.quiet start.told (same_phase events Quiet ∙ ends) in
      let found = are_delivered g k asked old.backend new.backend does start.quiet in
      let cut = found.0 in
      let under : AskedUnder (setup.first ∷ tables events) (all_requests events) =
      subst (λ (v : TokenFile). AskedUnder (v ∷ tables events) (all_requests events)) start.table (asked_under b m t setup events old new follow) in
      let none = found.1.committed end.0.closed in
      let replies = all_delivered_in cut.segments cut.batches in
      let told : AreDelivered (told_replies (all_backend_events events)) replies =
      subst (λ (v : List (Option Reply)). AreDelivered v replies) (same_told events)
      (subst (λ (v : List Reply). AreDelivered (told_replies asked) v) (none_delivered cut.segments cut.batches cut.calls none) found.1.told) in
      let made = subst (λ (s : Service S). MadeBatches g k cut.last cut.batches s) (sym (called_none g k cut.calls cut.committed (service_of new.backend) none cut.calls_made)) cut.made in
      record {
        serves = record {
          all = all_requests events;
          segments = cut.segments;
          batches = cut.batches;
          told = readings events;
          later = tables events;
          taken = all_taken b m t setup events old new follow;
          requests = under;
          calls = all_timed_are cut.segments cut.batches cut.calls none ∙ timed_are (retention_of old.backend) asked cut.segments cut.batches cut.calls cut.acts
              ∙ calls_asked g k b m t is setup events old new follow;
          last = cut.last;
          segments_made = cut.segments_made;
          made = made;
          clock_told = all_read b m t setup events old new follow;
          moments = all_moments events;
          purges = due_read (retention_of old.backend) (times_of asked) (readings events) cut.segments (all_times b m t setup events old new follow)
              (are_plausible g k (retention_of old.backend) asked (service_of old.backend) (service_of new.backend) cut);
        };
        asked = refl;
        kept = λ goes. are_kept g k laws (service_of old.backend) cut.last (service_of new.backend) cut.segments cut.batches goes cut.segments_made made;
        sent = λ before during rest key name. each_is_sent g k b m t is setup key each events old new follow replies told before during rest name;
      }
