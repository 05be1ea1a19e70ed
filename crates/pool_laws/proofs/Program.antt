-- What the contract of `serve_pool_port` says is what the law of a pool asks of an instance.
use Rattle.std.proofs.Common.{◌≡◌, ◌∙◌, ◌++◌, List, ap, refl, sym, subst}
use Rattle.space_core.specs.declared.space.Space as spaces
use Rattle.wire_http.specs.declared.moments.Moments as moments
use Rattle.server_watch.specs.declared.token_watch.TokenSource as sources
use Rattle.server_backend.specs.declared.backend.Backend as backends
use Rattle.server_clients.specs.Backends.{all_backend_events}
use Rattle.server_clients.specs.ServerEvents.{FollowAll, ServerEvent}
use Rattle.server.specs.Rounds.{events_of_run, start as begin}
use Rattle.pool_core.specs.Events.{InstanceEvent}
use Rattle.pool_core.specs.declared.log.Log as logs
use Rattle.pool_instance.specs.Parts.{space_in}
use Rattle.pool_backend.specs.Pool.{AreGivenIn, instance_of, outcomes_of}
use Rattle.pool_backend.specs.Served.{AreKnown, Story, events_in}
use Rattle.pool_backend.specs.declared.pool.PoolInstance.{PoolInstance}
use Rattle.pool_laws.specs.Program.{ProgramServes}

module _ {L I S M T : Type 0} (gl : logs.Ghosts L) (gs : spaces.Ghosts S) (b : backends.Ghosts (PoolInstance L I S)) (m : moments.Ghosts M) (t : sources.Ghosts T) where
  -- What is known of an instance, over these events.
  record Known (old new : PoolInstance L I S) (events : List ServerEvent) (parts : List (List InstanceEvent)) : Type 0 where
    pub story : Story gl gs (all_backend_events events) old new
    pub given : (before : List InstanceEvent) → AreGivenIn before (outcomes_of old) → AreKnown before (all_backend_events events) story.parts
    pub same : story.parts ≡ parts

  pub program_serves : ProgramServes I gl gs b m t
  program_serves steps i start setup watch old new clock clock' past now log before served are after none sound name =
      let end = served.serves.end in
      let known = subst (λ (v : List ServerEvent). Known old end.backend v served.story.parts) (sym are.events)
      (subst (λ (v : PoolInstance L I S). Known old v (events_of_run served.serves.runs.rounds served.serves.runs.last) served.story.parts) (sym served.serves.backend_is) (record { story = served.story; given = served.given; same = refl })) in
      record {
        setup = setup;
        old = begin b m t setup old clock served.known watch;
        new = end;
        follow = subst (λ (v : List ServerEvent). FollowAll b m t setup v (begin b m t setup old clock served.known watch) end) (sym are.events) served.serves.runs.follow;
        story = known.story;
        given = known.given;
        each = are.each;
        parts = known.same ∙ are.parts;
        before = before;
        all = are.all ∙ ap (λ (v : List (List InstanceEvent)). before ++ events_in v) (sym known.same);
        none = none;
        past = log;
        after = after;
        sound = subst (λ (v : PoolInstance L I S). gs.is_sound (space_in (instance_of v))) (sym served.serves.backend_is) sound;
        salt_is = refl;
        name_is = name;
      }
