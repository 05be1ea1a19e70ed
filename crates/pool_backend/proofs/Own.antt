-- Lemmas: what an instance does in an advance.
use Rattle.std.proofs.Common.{ℕ, zero, suc, Bool, true, false, List, [], ◌∷◌, ◌++◌, map, take, Option, Some, Result, Ok, Err, refl, sym, subst, inl, inr}
use Rattle.std.specs.Prelude.{All}
use Rattle.std.proofs.lemmas.List.Elements.{All-append, All-cons, All-nil}
use Rattle.space_core.specs.declared.space.Space as spaces
use Rattle.pool_core.specs.Acts.{Makes, Purges}
use Rattle.pool_core.specs.Events.{AsksForEnd, Gets, InstanceEvent, LearnsEnd, Offers}
use Rattle.pool_core.specs.declared.log.Log as logs
use Rattle.pool_instance.specs.Does.{AskedSo, Did, DidNothing, FailedSo, LearnedSo, OfferedSo, PurgeOfferedSo}
use Rattle.pool_instance.specs.Parts.{retention_in, unsent_in}
use Rattle.pool_instance.specs.Request.{call_of}
use Rattle.pool_instance.specs.declared.fault.InstanceFault.{InstanceFault}
use Rattle.pool_instance.specs.declared.fault.InstanceFault.TheVariants.{Ended, NoMemory}
use Rattle.pool_instance.specs.declared.instance.Instance.{Instance}
use Rattle.pool_instance.specs.declared.waiting.Held.{Held}
use Rattle.pool_backend.specs.Own.{DoesOwn}
use Rattle.pool_backend.specs.Pool.{IsActAt, MayDo}
use Rattle.pool_instance.proofs.Looked.{did_then}
use Rattle.pool_backend.proofs.Did.{did_none}

-- The calls of some requests, at a time.
all_at : (retention : Option ℕ) (held : Bool) (moment : ℕ) (hs : List Held) → All (IsActAt retention held moment) (map (λ (h : Held). Makes (moment, call_of h.request)) hs)
all_at retention held moment [] = All-nil (IsActAt retention held moment)
all_at retention held moment (h ∷ hs) = All-cons (IsActAt retention held moment) (Makes (moment, call_of h.request)) (map (λ (x : Held). Makes (moment, call_of x.request)) hs) refl (all_at retention held moment hs)

module _ {L S : Type 0} (gl : logs.Ghosts L) (gs : spaces.Ghosts S) (moment : Option ℕ) (held : Bool) where
  own_no_event : (old new : Instance L S) → Did gl gs old [] new → DoesOwn gl gs moment held old new
  own_no_event old new did = record { events = []; did = did; allowed = All-nil (MayDo (retention_in old) moment held) }

  pub own_none : (x : Instance L S) → DoesOwn gl gs moment held x x
  own_none x = own_no_event x x (did_none gl gs x)

  pub own_then : (old mid new : Instance L S) → DoesOwn gl gs moment held old mid → DoesOwn gl gs moment held mid new → DoesOwn gl gs moment held old new
  own_then old mid new p q = record {
    events = p.events ++ q.events;
    did = did_then gl gs old p.events mid q.events new p.did q.did;
    allowed = All-append (MayDo (retention_in old) moment held) p.events q.events p.allowed (subst (λ (v : Option ℕ). All (MayDo v moment held) q.events) p.did.retention q.allowed);
  }

  own_one : (old : Instance L S) (e : InstanceEvent) (new : Instance L S) → Did gl gs old (e ∷ []) new → MayDo (retention_in old) moment held e → DoesOwn gl gs moment held old new
  own_one old e new did may = record { events = e ∷ []; did = did; allowed = All-cons (MayDo (retention_in old) moment held) e [] may (All-nil (MayDo (retention_in old) moment held)) }

  pub own_nothing : (old new : Instance L S) → DidNothing gl gs old new → DoesOwn gl gs moment held old new
  own_nothing old new h = own_no_event old new h.did

  pub own_failed : (old new : Instance L S) (fault : InstanceFault) → FailedSo gl gs old new fault → DoesOwn gl gs moment held old new
  own_failed old new NoMemory h = own_nothing old new h.0
  own_failed old new Ended h =
      elim h.2 [
        | inl none ↦ own_no_event old new none
        | inr given ↦ own_one old (Gets given.0) new given.1 tt
      ]

  pub own_asked : (old new : Instance L S) (r : Result Bool InstanceFault) → AskedSo gl gs old new r → DoesOwn gl gs moment held old new
  own_asked old new (Ok true) h = own_one old (AsksForEnd h.0.0) new h.0.1 tt
  own_asked old new (Ok false) h = own_nothing old new h.0
  own_asked old new (Err fault) h = own_failed old new fault h

  pub own_learned : (old new : Instance L S) (r : Bool) → LearnedSo gl gs old new r → DoesOwn gl gs moment held old new
  own_learned old new true h = own_one old (LearnsEnd h.0 h.1.0) new h.1.1 tt
  own_learned old new false h = own_nothing old new h

module _ {L S : Type 0} (gl : logs.Ghosts L) (gs : spaces.Ghosts S) (time : ℕ) where
  pub own_offered : (held : Bool) (old new : Instance L S) (r : Result ℕ InstanceFault) → OfferedSo gl gs time old new r → DoesOwn gl gs (Some time) held old new
  own_offered held old new (Ok zero) h = own_nothing gl gs (Some time) held old new h.0
  own_offered held old new (Ok (suc n)) h =
      own_one gl gs (Some time) held old (Offers (map (λ (x : Held). x.id) (take (suc n) (unsent_in old))) h.0) new h.1
      (subst (λ v. All (IsActAt (retention_in old) held time) v) (sym h.2.calls) (all_at (retention_in old) held time (take (suc n) (unsent_in old))))
  own_offered held old new (Err fault) h = own_failed gl gs (Some time) held old new fault h

  pub own_purge_offered : (old new : Instance L S) (r : Result Bool InstanceFault) → PurgeOfferedSo gl gs time old new r → DoesOwn gl gs (Some time) false old new
  own_purge_offered old new (Ok true) h =
      own_one gl gs (Some time) false old (Offers [] h.0) new h.1
      (subst (λ v. All (IsActAt (retention_in old) false time) v) (sym h.2.acts)
      (All-cons (IsActAt (retention_in old) false time) (Purges h.2.until) [] (refl, (h.2.seconds, h.2.retained, h.2.past)) (All-nil (IsActAt (retention_in old) false time))))
  own_purge_offered old new (Ok false) h = own_nothing gl gs (Some time) false old new h.0
  own_purge_offered old new (Err fault) h = own_failed gl gs (Some time) false old new fault h
