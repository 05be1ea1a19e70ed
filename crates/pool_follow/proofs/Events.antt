-- Lemmas: what a follower did, in order.
use Rattle.std.proofs.Common.{◌≡◌, ◌+◌, ℕ, Bool, true, false, List, [], ◌∷◌, ◌++◌, length, Option, None, Ok, refl, sym, ap, subst, ◌∙◌, append_assoc, arith}
use Rattle.std.proofs.lemmas.List.{append-nil}
use Rattle.std.specs.declared.time.Duration.{Duration}
use Rattle.entity_core.specs.Airspace.{Airspace}
use Rattle.space_core.specs.Space.{IsContent}
use Rattle.space_core.specs.declared.group_commit.GroupCommit as settles
use Rattle.space_core.specs.declared.space.Space as spaces
use Rattle.service_calls.specs.Batches.{IsCommitted}
use Rattle.service_calls.specs.Held.{is_shut, salt_of, space_of}
use Rattle.service_calls.specs.declared.service.Service.{Service}
use Rattle.pool_core.specs.Acts.{airspace_by}
use Rattle.pool_core.specs.Log.{AsksEnd, Continues, GivesEntry, LogEntry, LogEvent, TellsEnd, end_events}
use Rattle.pool_core.specs.Purging.{Keeps}
use Rattle.pool_core.specs.Serves.{acts_in}
use Rattle.pool_core.specs.declared.log.Log as logs
use Rattle.pool_core.proofs.Histories.{continues_same, continues_then}
use Rattle.pool_entry.specs.Acts.{acts_of}
use Rattle.pool_follow.specs.Acts.{DoesActs}
use Rattle.pool_follow.specs.Follower.{AsksForEnd, Commits, Did, DidSome, Follows, HasFollowed, KnowsEnd, Learns, RunsOnce, Stays, Takes, airspace_of, entries_in}
use Rattle.pool_follow.specs.Parts.{count_taken, end_of, is_at_end, log_of, salt_in, space_in, state_after}
use Rattle.pool_follow.specs.declared.end_state.EndState.TheVariants.{Asked}
use Rattle.pool_follow.specs.declared.follower.Follower.{Follower}
use Rattle.pool_follow.proofs.Airspaces.{air_append, air_entry, entries_count}
use Rattle.pool_follow.proofs.Ends.{knows_asked, knows_more, knows_reached, knows_told}

module _ {L S : Type 0} (gl : logs.Ghosts L) (gs : spaces.Ghosts S) where
  pub stays_same : (x : Follower L S) → Stays gl gs x x
  stays_same x = record { salt = refl; writer = refl; sound = λ h. h; whole = λ s h. h }

  pub stays_then : (old mid new : Follower L S) → Stays gl gs old mid → Stays gl gs mid new → Stays gl gs old new
  stays_then old mid new p q = record {
    salt = q.salt ∙ p.salt;
    writer = q.writer ∙ p.writer;
    sound = λ h. p.sound (q.sound h);
    whole = λ s h. q.whole s (p.whole (q.sound s) h);
  }

  pub did_none : (x : Follower L S) → Did gl gs x [] x
  did_none x = record {
    after = λ past start events is. subst (λ v. HasFollowed gl gs past start v x) (sym (append-nil events)) is;
    end = λ events is. subst (λ v. KnowsEnd v (end_of x)) (sym (append-nil events)) is;
  }

  pub did_then : (old : Follower L S) (a : List LogEvent) (mid : Follower L S) (b : List LogEvent) (new : Follower L S) → Did gl gs old a mid → Did gl gs mid b new → Did gl gs old (a ++ b) new
  did_then old a mid b new p q = record {
    after = λ past start events is. subst (λ v. HasFollowed gl gs past start v new) (append_assoc events a b) (q.after past start (events ++ a) (p.after past start events is));
    end = λ events is. subst (λ v. KnowsEnd v (end_of new)) (append_assoc events a b) (q.end (events ++ a) (p.end events is));
  }

  -- How a follower moved on.
  pub record Moved (old : Follower L S) (more : List LogEvent) (new : Follower L S) : Type 0 where
    pub history : Continues (gl.history (log_of old)) (gl.history (log_of new)) more
    pub taken : count_taken new ≡ count_taken old + length (entries_in more)
    pub salt : salt_in new ≡ salt_in old
    pub sound : gs.is_sound (space_in new) → gs.is_sound (space_in old)
    pub goes : is_shut old.service ≡ false → is_shut new.service ≡ false
    pub made : is_shut old.service ≡ false → gs.is_sound (space_in new) → (a : Airspace) → IsContent gs.holds (space_in old) a → IsContent gs.holds (space_in new) (airspace_of (salt_in old) a more)

  followed : (old : Follower L S) (more : List LogEvent) (new : Follower L S) → Moved old more new → (past : Option (List LogEvent)) (start : Airspace) (events : List LogEvent)
      → HasFollowed gl gs past start events old → HasFollowed gl gs past start (events ++ more) new
  followed old more new m past start events h = record {
    logged = continues_then past (gl.history (log_of old)) (gl.history (log_of new)) events more h.logged m.history;
    goes = m.goes h.goes;
    taken = m.taken ∙ ap (λ n. n + length (entries_in more)) h.taken ∙ sym (entries_count events more);
    held = λ sound.
        subst (λ (a : Airspace). IsContent gs.holds (space_in new) a)
        (sym (ap (λ (v : List ℕ). airspace_of v start (events ++ more)) m.salt ∙ air_append (salt_in old) start events more))
        (m.made h.goes sound (airspace_of (salt_in old) start events) (h.held (m.sound sound)));
  }

  pub did_moved : (old : Follower L S) (more : List LogEvent) (new : Follower L S) → Moved old more new → ((events : List LogEvent) → KnowsEnd events (end_of old) → KnowsEnd (events ++ more) (end_of new))
      → Did gl gs old more new
  did_moved old more new m ends = record { after = followed old more new m; end = ends }

  -- ---- operations that concern only the log

  pub stays_log : (old new : Follower L S) → new.service ≡ old.service → gl.writer (log_of new) ≡ gl.writer (log_of old) → Stays gl gs old new
  stays_log old new same writer = record {
    salt = ap (λ (v : Service S). salt_of v) same;
    writer = writer;
    sound = λ h. subst (λ (v : Service S). gs.is_sound (space_of v)) same h;
    whole = λ s h. subst (λ (v : Service S). gs.is_whole (space_of v)) (sym same) h;
  }

  pub moved_log : (old : Follower L S) (more : List LogEvent) (new : Follower L S) → new.service ≡ old.service → count_taken new ≡ count_taken old
      → Continues (gl.history (log_of old)) (gl.history (log_of new)) more → entries_in more ≡ [] → Moved old more new
  moved_log old more new same taken history none = record {
    history = history;
    taken = omega (arith, taken, ap (λ (v : List LogEntry). length v) none);
    salt = ap (λ (v : Service S). salt_of v) same;
    sound = λ h. subst (λ (v : Service S). gs.is_sound (space_of v)) same h;
    goes = λ h. ap (λ (v : Service S). is_shut v) same ∙ h;
    made = λ goes sound a content.
        subst (λ (b : Airspace). IsContent gs.holds (space_in new) b) (sym (ap (λ (v : List LogEntry). airspace_by (salt_in old) a (acts_in acts_of v)) none))
        (subst (λ (v : Service S). IsContent gs.holds (space_of v) a) (sym same) content);
  }

  -- ---- each operation

  -- Asks for the end.
  pub did_ask : (old new : Follower L S) (question : ℕ) → new.service ≡ old.service → count_taken new ≡ count_taken old
      → Continues (gl.history (log_of old)) (gl.history (log_of new)) (AsksEnd question ∷ []) → end_of new ≡ Asked question → AsksForEnd gl gs old new
  did_ask old new question same taken history asked = record {
    question = question;
    did = did_moved old (AsksEnd question ∷ []) new (moved_log old (AsksEnd question ∷ []) new same taken history refl)
        (λ events is. subst (λ v. KnowsEnd (events ++ AsksEnd question ∷ []) v) (sym asked) (knows_asked events question));
    asked = asked;
  }

  -- Does nothing at the log.
  pub did_nothing : (old new : Follower L S) → new.service ≡ old.service → count_taken new ≡ count_taken old
      → Continues (gl.history (log_of old)) (gl.history (log_of new)) [] → end_of new ≡ end_of old → Did gl gs old [] new
  did_nothing old new same taken history end =
      did_moved old [] new (moved_log old [] new same taken history refl)
      (λ events is. subst (λ v. KnowsEnd (events ++ []) v) (sym end) (knows_more events [] (end_of old) is))

  -- Learns an end.
  pub did_learn : (old new : Follower L S) (question count : ℕ) → new.service ≡ old.service → count_taken new ≡ count_taken old
      → Continues (gl.history (log_of old)) (gl.history (log_of new)) (TellsEnd question count ∷ []) → end_of new ≡ state_after question count (end_of old)
      → Did gl gs old (TellsEnd question count ∷ []) new
  did_learn old new question count same taken history end =
      did_moved old (TellsEnd question count ∷ []) new (moved_log old (TellsEnd question count ∷ []) new same taken history refl)
      (λ events is. subst (λ v. KnowsEnd (events ++ TellsEnd question count ∷ []) v) (sym end) (knows_told events question count (end_of old) is))

  -- Takes an entry.
  pub did_take : (old new : Follower L S) (entry : LogEntry) → count_taken new ≡ count_taken old + 1
      → Continues (gl.history (log_of old)) (gl.history (log_of new)) (GivesEntry entry ∷ []) → end_of new ≡ end_of old → Keeps gs old.service new.service
      → (is_shut old.service ≡ false → DoesActs gs (acts_of entry.bytes) old.service new.service) → Did gl gs old (GivesEntry entry ∷ []) new
  did_take old new entry taken history end keeps done =
      did_moved old (GivesEntry entry ∷ []) new
      (record {
        history = history;
        taken = taken;
        salt = keeps.salt;
        sound = keeps.sound;
        goes = λ goes. (done goes).goes;
        made = λ goes sound a content.
            subst (λ (b : Airspace). IsContent gs.holds (space_in new) b) (sym (air_entry (salt_in old) a entry)) ((done goes).done sound a content);
      })
      (λ events is. subst (λ v. KnowsEnd (events ++ GivesEntry entry ∷ []) v) (sym end) (knows_more events (GivesEntry entry ∷ []) (end_of old) is))

  -- Commits.
  pub did_commit : (k : settles.Ghosts S) (old new : Follower L S) → log_of new ≡ log_of old → count_taken new ≡ count_taken old → end_of new ≡ end_of old
      → IsCommitted gs k old.service new.service (Ok tt) → Commits gl gs k old new
  did_commit k old new same taken end c = record {
    did = did_moved old [] new
        (record {
          history = continues_same (gl.history (log_of old)) (gl.history (log_of new)) (ap (λ (l : L). gl.history l) same);
          taken = omega (arith, taken);
          salt = c.salt;
          sound = c.settles.sound;
          goes = λ goes. c.shuts ∙ goes;
          made = λ goes sound a content. c.settles.done sound a content.held;
        })
        (λ events is. subst (λ v. KnowsEnd (events ++ []) v) (sym end) (knows_more events [] (end_of old) is));
    calm = c.calm;
  }

  -- ---- operations in order

  pub some_none : (x : Follower L S) → DidSome gl gs x x
  some_none x = record { events = []; did = did_none x }

  pub some_did : (old mid : Follower L S) (more : List LogEvent) (new : Follower L S) → DidSome gl gs old mid → Did gl gs mid more new → DidSome gl gs old new
  some_did old mid more new p q = record { events = p.events ++ more; did = did_then old p.events mid more new p.did q }

  pub some_then : (old mid new : Follower L S) → DidSome gl gs old mid → DidSome gl gs mid new → DidSome gl gs old new
  some_then old mid new p q = some_did old mid q.events new p q.did

  pub some_took : (old mid new : Follower L S) (r : Bool) → DidSome gl gs old mid → Takes gl gs mid new r → DidSome gl gs old new
  some_took old mid new true p q = some_did old mid (GivesEntry q.0 ∷ []) new p q.1
  some_took old mid new false p q = some_did old mid [] new p q

  module _ (k : settles.Ghosts S) where
    pub runs_once : (old mid new : Follower L S) (rest : Option Duration) → DidSome gl gs old mid → Commits gl gs k mid new → (rest ≡ None → is_at_end new ≡ true) → RunsOnce gl gs k old new rest
    runs_once old mid new rest p q reached =
        let d = some_did old mid [] new p q.did in
        record { events = d.events; did = d.did; calm = q.calm; reached = reached }

    -- What a follower did since it asked for the end.
    pub record FollowsOn (old new : Follower L S) : Type 0 where
      pub events : List LogEvent
      pub did : Did gl gs old events new
      pub knows : KnowsEnd events (end_of new)

    pub on_asked : (old new : Follower L S) → AsksForEnd gl gs old new → FollowsOn old new
    on_asked old new a = record {
      events = AsksEnd a.question ∷ [];
      did = a.did;
      knows = subst (λ v. KnowsEnd (AsksEnd a.question ∷ []) v) (sym a.asked) (knows_asked [] a.question);
    }

    pub on_once : (old mid new : Follower L S) (rest : Option Duration) → FollowsOn old mid → RunsOnce gl gs k mid new rest → FollowsOn old new
    on_once old mid new rest p q = record {
      events = p.events ++ q.events;
      did = did_then old p.events mid q.events new p.did q.did;
      knows = q.did.end p.events p.knows;
    }

    pub on_end : (old mid new : Follower L S) (rest : Option Duration) → rest ≡ None → FollowsOn old mid → RunsOnce gl gs k mid new rest → Follows gl gs k old new
    on_end old mid new rest none p q =
        let on = on_once old mid new rest p q in
        record {
          events = on.events;
          did = on.did;
          end = knows_reached on.events (count_taken new) (end_of new) on.knows (q.reached none);
          calm = q.calm;
        }

    -- The steps of one iteration.
    pub iterated : (old advanced learned took new : Follower L S) (rest : Option Duration) → Did gl gs old [] advanced → Learns gl gs advanced learned → DidSome gl gs learned took
        → Commits gl gs k took new → (rest ≡ None → is_at_end new ≡ true) → RunsOnce gl gs k old new rest
    iterated old advanced learned took new rest a l t c reached =
        runs_once old took new rest
        (some_then old learned took (some_did old advanced (end_events l.0) learned (some_did old old [] advanced (some_none old) a) l.1) t) c reached
