-- Lemmas: what becomes of a deferred response, or of a request that waits.
use Rattle.std.proofs.Common.{◌≡◌, ℕ, ◌||◌, List, [], ◌++◌, length, take, drop, Bool, true, false, Option, Some, None, is_some, option_map, refl, sym, ap, subst, ◌∙◌, append-nil, Result, Ok, Err, OnOk}
use Rattle.std.specs.Prelude.{OnErr}
use Rattle.std.specs.Option.{ForSome}
use Rattle.service_step.specs.declared.reply.Reply.{Reply}
use Rattle.wire_http.specs.declared.connection.Connection.{Connection}
use Rattle.wire_http.specs.declared.connection.DeferredResponse.{DeferredResponse}
use Rattle.wire_http.specs.declared.connection.awaited.Awaited.{Awaited}
use Rattle.wire_http.specs.declared.request_info.Outcome.{Outcome}
use Rattle.wire_http.specs.declared.request_info.RequestInfo.{RequestInfo}
use Rattle.wire_http.specs.declared.unavailable.Unavailable.{Unavailable}
use Rattle.wire_http.specs.Awaited.{noted_with, outcome_text, info_in, refusal_text}
use Rattle.wire_http.specs.Connection.{awaited_of, buffered_of, has_ended, left_of, noted_of, output_of, ready_of, slot_of}
use Rattle.wire_http.specs.Outcomes.{Resolves}
use Rattle.wire_http.specs.DeferredResponse.{StandsWithin, before_last, slot_at, text_at}
use Rattle.wire_http.specs.RequestInfo.{noted_instead, outcome_of, recorded_as}
use Rattle.wire_http.specs.Text.{noted_text, unavailable_text}
use Rattle.wire_http.specs.Texts.{texts_for}
use Rattle.wire_http.proofs.DeferredLaws.{cut_then}

pub on_ok : {E A B : Type 0} (r : Result (Unit {0}) E) → OnOk r A → (A → B) → OnOk r B
on_ok (Ok x) a f = f a
on_ok (Err e) a f = tt

pub on_err : {E A B : Type 0} (r : Result (Unit {0}) E) → OnErr r A → (A → B) → OnErr r B
on_err (Ok x) a f = tt
on_err (Err e) a f = f a

pub first_false : (a b : Bool) → (a || b) ≡ false → a ≡ false
first_false true b e = e
first_false false b e = refl

-- Without a deferred response there is no slot, and all output may be sent.
pub none_slot : (d : Option DeferredResponse) → is_some d ≡ false → option_map slot_at d ≡ None
none_slot None e = refl
none_slot (Some last) e = cc

pub none_ready : (sent : ℕ) (output : List ℕ) (d : Option DeferredResponse) → is_some d ≡ false → before_last sent output d ≡ output
none_ready sent output None e = refl
none_ready sent output (Some last) e = cc

-- ---- a deferred response

pub text_drafted : (d : Option DeferredResponse) (a : Option Awaited) (reply : Reply) → is_some d ≡ true
    → text_at (option_map slot_at d) reply ≡ outcome_text (option_map slot_at d) a reply
text_drafted None a reply e = cc
text_drafted (Some last) a reply e = refl

pub noted_drafted : (d : Option DeferredResponse) (a : Option Awaited) (reply : Reply) (noted : Option RequestInfo) → is_some d ≡ true
    → noted_instead (option_map slot_at d) reply noted ≡ noted_with (option_map slot_at d) a (outcome_of reply) noted
noted_drafted None a reply noted e = cc
noted_drafted (Some last) a reply noted e = refl

pub refusal_drafted : (d : Option DeferredResponse) (a : Option Awaited) (last : DeferredResponse) (reason : Unavailable) → d ≡ Some last
    → refusal_text (option_map slot_at d) a reason ≡ unavailable_text last.closing reason
refusal_drafted d a last reason e = ap (λ v. refusal_text (option_map slot_at v) a reason) e

pub recorded_last : (d : Option DeferredResponse) (a : Option Awaited) (last : DeferredResponse) (outcome : Outcome) (noted : Option RequestInfo) → d ≡ Some last
    → recorded_as outcome noted ≡ noted_with (option_map slot_at d) a outcome noted
recorded_last d a last outcome noted e = sym (ap (λ v. noted_with (option_map slot_at v) a outcome noted) e)

-- A text takes the place of the deferred response.
pub instead : (sent : ℕ) (answers cut q t : List ℕ) (d : Option DeferredResponse) (last : DeferredResponse) → d ≡ Some last
    → ForSome d (StandsWithin sent (length answers)) → cut ≡ take last.start answers → q ≡ cut ++ t
    → drop sent q ≡ before_last sent (drop sent answers) d ++ t
instead sent answers cut q t d last is fits c w =
    let within = fits last is in
    subst (λ (v : Option DeferredResponse). drop sent q ≡ before_last sent (drop sent answers) v ++ t) (sym is) (cut_then sent last.start answers cut q t within.0 within.1 c w)

pub instead_none : (sent : ℕ) (answers cut q : List ℕ) (d : Option DeferredResponse) (last : DeferredResponse) → d ≡ Some last
    → ForSome d (StandsWithin sent (length answers)) → cut ≡ take last.start answers → q ≡ cut
    → drop sent q ≡ before_last sent (drop sent answers) d ++ []
instead_none sent answers cut q d last is fits c w = instead sent answers cut q [] d last is fits c (w ∙ sym (append-nil cut))

-- ---- a request that waits

pub text_awaited : (d : Option DeferredResponse) (a : Option Awaited) (w : Awaited) (reply : Reply) → is_some d ≡ false → a ≡ Some w
    → noted_text (texts_for w.texts reply) w.endpoint w.closing reply ≡ outcome_text (option_map slot_at d) a reply
text_awaited None a w reply none e = sym (ap (λ v. outcome_text None v reply) e)
text_awaited (Some last) a w reply none e = cc

pub refusal_awaited : (d : Option DeferredResponse) (a : Option Awaited) (w : Awaited) (reason : Unavailable) → is_some d ≡ false → a ≡ Some w
    → unavailable_text w.closing reason ≡ refusal_text (option_map slot_at d) a reason
refusal_awaited None a w reason none e = sym (ap (λ v. refusal_text None v reason) e)
refusal_awaited (Some last) a w reason none e = cc

pub noted_awaited : (d : Option DeferredResponse) (a : Option Awaited) (w : Awaited) (outcome : Outcome) (noted : Option RequestInfo) → is_some d ≡ false → a ≡ Some w
    → Some (info_in w outcome) ≡ noted_with (option_map slot_at d) a outcome noted
noted_awaited None a w outcome noted none e = sym (ap (λ v. noted_with None v outcome noted) e)
noted_awaited (Some last) a w outcome noted none e = cc

pub text_of_none : (d : Option DeferredResponse) (a : Option Awaited) (reply : Reply) → is_some d ≡ false → a ≡ None → [] ≡ outcome_text (option_map slot_at d) a reply
text_of_none None a reply none e = sym (ap (λ v. outcome_text None v reply) e)
text_of_none (Some last) a reply none e = cc

pub refusal_of_none : (d : Option DeferredResponse) (a : Option Awaited) (reason : Unavailable) → is_some d ≡ false → a ≡ None → [] ≡ refusal_text (option_map slot_at d) a reason
refusal_of_none None a reason none e = sym (ap (λ v. refusal_text None v reason) e)
refusal_of_none (Some last) a reason none e = cc

pub noted_of_none : (d : Option DeferredResponse) (a : Option Awaited) (outcome : Outcome) (noted : Option RequestInfo) → is_some d ≡ false → a ≡ None
    → noted ≡ noted_with (option_map slot_at d) a outcome noted
noted_of_none None a outcome noted none e = sym (ap (λ v. noted_with None v outcome noted) e)
noted_of_none (Some last) a outcome noted none e = cc

-- ---- both outcomes of memory

module _ {E : Type 0} (r : Result (Unit {0}) E) (outcome : Outcome) (c c' : Connection) (ready : ready_of c' ≡ output_of c') (slot : slot_of c' ≡ None) (awaited : awaited_of c' ≡ None) (held : buffered_of c' ≡ buffered_of c)
    (left : left_of c' ≡ left_of c) (ended : has_ended c' ≡ has_ended c) (noted : noted_of c' ≡ noted_with (slot_of c) (awaited_of c) outcome (noted_of c)) where
  resolves : (text : List ℕ) → output_of c' ≡ ready_of c ++ text → Resolves text outcome c c'
  resolves text output = record {
    output = output;
    ready = ready;
    slot = slot;
    awaited = awaited;
    held = held;
    left = left;
    ended = ended;
    noted = noted;
  }

  pub resolves_ok : (text : List ℕ) → OnOk r (output_of c' ≡ ready_of c ++ text) → OnOk r (Resolves text outcome c c')
  resolves_ok text w = on_ok r w (resolves text)

  pub resolves_err : OnErr r (output_of c' ≡ ready_of c) → OnErr r (Resolves [] outcome c c')
  resolves_err w = on_err r w (λ e. resolves [] (e ∙ sym (append-nil (ready_of c))))
