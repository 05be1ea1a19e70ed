-- Lemmas: an instance before any event.
use Rattle.std.proofs.Common.{◌≡◌, ℕ, false, [], Option, None, refl, sym, subst, arith}
use Rattle.std.proofs.lemmas.List.Elements.{All-nil}
use Rattle.entity_core.specs.Airspace.{Airspace}
use Rattle.space_core.specs.Space.{IsContent}
use Rattle.space_core.specs.declared.space.Space as spaces
use Rattle.service_calls.specs.Held.{is_shut}
use Rattle.pool_core.specs.declared.log.Log as logs
use Rattle.pool_core.proofs.Lists.{contains_none}
use Rattle.pool_core.specs.Events.{Offers, Receives}
use Rattle.pool_instance.specs.Parts.{count_taken, heard_in, log_of, readings_in, sent_in, space_in, unsent_in}
use Rattle.pool_instance.specs.Purging.{IsHeard}
use Rattle.pool_instance.specs.State.{AreRequests, IsAfter, IsHeld, IsWaiting}
use Rattle.pool_instance.specs.declared.instance.Instance.{Instance}
use Rattle.pool_core.proofs.Histories.{continues_same}
use Rattle.pool_instance.proofs.After.{requests_same}
use Rattle.pool_instance.proofs.Agreed.{nothing_behind}

none_wait : AreRequests [] [] [] [] 0
none_wait = record {
  readings = All-nil (IsWaiting []);
  unsent = All-nil (IsHeld []);
  sent = λ id h. contains_none _ h;
  kept = λ id call h. contains_none (Receives id call) h.received;
  apart = λ id. omega arith;
  offered = λ id. omega arith;
  numbered = λ id call h. contains_none (Receives id call) h;
  ended_below = λ id some. absurd (omega (arith, some));
  offered_below = λ id some. absurd (omega (arith, some));
}

pub is_new : {L S : Type 0} (gl : logs.Ghosts L) (gs : spaces.Ghosts S) (start : Airspace) (x : Instance L S) → is_shut x.service ≡ false → (gs.is_sound (space_in x) → IsContent gs.holds (space_in x) start)
    → readings_in x ≡ [] → unsent_in x ≡ [] → x.in_flight ≡ None → count_taken x ≡ 0 → x.received ≡ 0 → heard_in x ≡ None → IsAfter gl gs (gl.history (log_of x)) start [] x
is_new gl gs start x goes content rs hs flight taken n none = record {
  logged = continues_same (gl.history (log_of x)) (gl.history (log_of x)) refl;
  serves = λ s. tt;
  up_to_date = λ h. record { goes = goes; taken = taken; held = content; flight = rw flight refl };
  requests = requests_same [] [] [] (readings_in x) [] (unsent_in x) [] (sent_in x) 0 x.received refl rs hs (rw flight refl) n none_wait;
  heard = subst (λ (v : Option ℕ). IsHeard (gl.writer (log_of x)) [] v) (sym none) tt;
  agreed = λ earlier later ids bytes until e c. absurd (nothing_behind earlier (Offers ids bytes) later e);
}
