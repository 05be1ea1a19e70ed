-- How the record of the calls of a batch grows.
use Rattle.std.proofs.Common.{◌≡◌, ℕ, List, [], ◌∷◌, ◌++◌, map, refl, sym, ap, subst, ◌∙◌, append_assoc, Option, Some, None}
use Rattle.std.specs.Prelude.{◌||◌, All}
use Rattle.std.proofs.lemmas.List.{map-append}
use Rattle.std.proofs.lemmas.List.Elements.{All-append, All-cons, All-nil}
use Rattle.space_core.specs.declared.group_commit.GroupCommit as settles
use Rattle.space_core.specs.declared.space.Space as spaces
use Rattle.service_calls.specs.declared.service.Service.{Service}
use Rattle.service_calls.specs.Held.{space_of}
use Rattle.service_calls.specs.Batches.{CallRecord, CalledInOrder}
use Rattle.service_calls.specs.Run.{IsReplyTo, TimedCall}
use Rattle.service_step.specs.declared.reply.Reply.{Reply}
use Rattle.token_conf.specs.TokenFile.{Callers}
use Rattle.wire_http.specs.declared.moments.Moments as moments
use Rattle.wire_http.specs.Wire.{RequestCall, timed}
use Rattle.server_base.specs.Calls.{AreAmong, ClockReadings, GoesOn, IsAskedBy, moments_of}

-- ---- the clock

module _ {M : Type 0} (m : moments.Ghosts M) where
  pub told_then : (told more : List (Option ℕ)) (clock mid clock' : M) → ClockReadings m told clock mid → ClockReadings m more mid clock' → ClockReadings m (told ++ more) clock clock'
  told_then [] more clock mid clock' h k = subst (λ (c : M). ClockReadings m more c clock') h k
  told_then (Some moment ∷ told) more clock mid clock' h k = (h.0, h.1, told_then told more h.0 mid clock' h.2 k)
  told_then (None ∷ told) more clock mid clock' h k = (h.0, h.1, told_then told more h.0 mid clock' h.2 k)

among_more : (more told : List (Option ℕ)) (ms : List ℕ) → AreAmong ms told → AreAmong ms (more ++ told)
among_more more told [] h = tt
among_more more told (moment ∷ ms) h = (more ++ h.0, h.1, ap (λ (x : List (Option ℕ)). more ++ x) h.2 ∙ sym (append_assoc more h.0 (Some moment ∷ h.1)), h.3)

pub among_then : (ms ns : List ℕ) (told more : List (Option ℕ)) → AreAmong ms told → AreAmong ns more → AreAmong (ms ++ ns) (told ++ more)
among_then [] ns told more h k = among_more told more ns k
among_then (moment ∷ ms) ns told more h k = (
  h.0,
  h.1 ++ more,
  ap (λ (x : List (Option ℕ)). x ++ more) h.2 ∙ append_assoc h.0 (Some moment ∷ h.1) more,
  among_then ms ns h.1 more h.3 k,
)

pub among_before : (ms : List ℕ) (told more : List (Option ℕ)) → AreAmong ms told → AreAmong ms (told ++ more)
among_before [] told more h = tt
among_before (moment ∷ ms) told more h =
    (h.0, h.1 ++ more, ap (λ (x : List (Option ℕ)). x ++ more) h.2 ∙ append_assoc h.0 (Some moment ∷ h.1) more, among_before ms h.1 more h.3)

-- ---- calls

module _ {S : Type 0} (g : spaces.Ghosts S) (k : settles.Ghosts S) where
  made_then : (xs ys : List CallRecord) (old mid new : Service S) → CalledInOrder g k old xs mid → CalledInOrder g k mid ys new → CalledInOrder g k old (xs ++ ys) new
  made_then [] ys old mid new p q = subst (λ (s : Service S). CalledInOrder g k s ys new) p q
  made_then (x ∷ xs) ys old mid new p q = (p.0, p.1, p.2, made_then xs ys p.0 mid new p.3 q)

module _ {S M : Type 0} (g : spaces.Ghosts S) (k : settles.Ghosts S) (m : moments.Ghosts M) (callers : Callers) where
  -- No call was made, whatever the clock returned.
  pub goes_nowhere : (old new : Service S) (told : List (Option ℕ)) (clock clock' : M) → new ≡ old → ClockReadings m told clock clock' → GoesOn g k m callers old new clock clock'
  goes_nowhere old new told clock clock' same h = record {
    all = [];
    batch = [];
    told = told;
    requests = All-nil (IsAskedBy callers);
    calls = refl;
    made = same;
    clock_told = h;
    moments = tt;
  }

  pub goes_still : (s : Service S) (clock : M) → GoesOn g k m callers s s clock clock
  goes_still s clock = goes_nowhere s s [] clock clock refl refl

  pub goes_on_then : (old mid new : Service S) (clock between clock' : M) → GoesOn g k m callers old mid clock between → GoesOn g k m callers mid new between clock'
      → GoesOn g k m callers old new clock clock'
  goes_on_then old mid new clock between clock' p q = record {
    all = p.all ++ q.all;
    batch = p.batch ++ q.batch;
    told = p.told ++ q.told;
    requests = All-append (IsAskedBy callers) p.all q.all p.requests q.requests;
    calls = map-append (λ (x : CallRecord). x.timed) p.batch q.batch ∙ ap (λ (v : List TimedCall). v ++ map (λ (x : CallRecord). x.timed) q.batch) p.calls
        ∙ ap (λ (v : List TimedCall). map timed p.all ++ v) q.calls ∙ sym (map-append timed p.all q.all);
    made = made_then g k p.batch q.batch old mid new p.made q.made;
    clock_told = told_then m p.told q.told clock between clock' p.clock_told q.clock_told;
    moments = subst (λ (v : List ℕ). AreAmong v (p.told ++ q.told)) (sym (map-append (λ (x : RequestCall). x.moment) p.all q.all))
        (among_then (moments_of p.all) (moments_of q.all) p.told q.told p.moments q.moments);
  }

  -- One call of a request was made, at the time that the clock returned.
  pub goes_by_call : (old new : Service S) (clock clock' : M) (asked : RequestCall) (reply : Reply) → IsAskedBy callers asked → IsReplyTo g old new asked.moment asked.call reply
      → m.gives clock asked.moment clock' → GoesOn g k m callers old new clock clock'
  goes_by_call old new clock clock' asked reply is_asked is_reply gives = record {
    all = asked ∷ [];
    batch = record { timed = timed asked; reply = reply; waits = k.is_pending (space_of old) || k.is_pending (space_of new) } ∷ [];
    told = Some asked.moment ∷ [];
    requests = All-cons (IsAskedBy callers) asked [] is_asked (All-nil (IsAskedBy callers));
    calls = refl;
    made = (new, is_reply, refl, refl);
    clock_told = (clock', gives, refl);
    moments = ([], [], refl, tt);
  }
