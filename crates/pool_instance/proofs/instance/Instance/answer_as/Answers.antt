use Rattle.std.proofs.Common.{◌≡◌, [], ◌∷◌, ◌++◌, refl, sym, ap, subst, ◌∙◌, true, List, Some, None, Ok, Err, inl, inr}
use Rattle.std.specs.Prelude.{position}
use Rattle.policy_core.specs.declared.call.Call.{Call}
use Rattle.std.specs.List.{remove}
use Rattle.service_calls.specs.Run.{IsAllowed, IsReplyTo}
use Rattle.pool_core.proofs.Histories.{continues_same}
use Rattle.pool_instance.specs.Does.{AnsweredAs, HasOutcome}
use Rattle.pool_instance.specs.Evaluate.{ChangesNothing}
use Rattle.pool_instance.specs.Parts.{is_due, is_due_as, is_ended, sent_in}
use Rattle.pool_instance.specs.Request.{call_of}
use Rattle.pool_instance.specs.declared.fault.InstanceFault.{InstanceFault}
use Rattle.pool_instance.specs.declared.fault.InstanceFault.TheVariants.{Ended}
use Rattle.pool_instance.specs.declared.outcome.Outcome.TheVariants.{Failed, Replied}
use Rattle.pool_instance.specs.declared.waiting.Held.{Held}
use Rattle.pool_instance.specs.declared.waiting.Reading.{Reading}
use Rattle.pool_instance.proofs.After.{Alike, did_alike, ids_alike}
use Rattle.pool_instance.proofs.Answered.{answer_stops, answered_fault, answered_reply, due_as, final_reply, found_is, id_due_as, reading_waits}
use Rattle.pool_instance.proofs.Fails.{stopped_before}
use Rattle.pool_instance.proofs.Looked.{allowed_looks, did_look, did_release, did_then}
use Rattle.pool_instance.proofs.Places.{position_found, position_none, position_within}
use Rattle.pool_instance.proofs.Times.{both, remove_split}
use Rattle.pool_instance.proofs.instance.Instance.answer_as.Goals as goal

pub returns-in_default : goal.returns-in_default
returns-in_default g c =
    let old = c.args.self.now in
    let none : position (is_due_as c.args.id old.taken) old.readings.items ≡ None = ap (λ (v : List Reading). position (is_due_as c.args.id old.taken) v) (sym c.as_slice.ensures.value) ∙ sym c.place_of_due.ensures ∙ c.in_default.is in
    inl (refl, position_none (is_due_as c.args.id old.taken) old.readings.items none)

pub returns-then-self : goal.returns-then-self
returns-then-self g c =
    let old = c.args.self.now in
    let ended : is_ended old ≡ true = c.if-self.true in
    (stopped_before g.L.Log g.S.Space old ended, λ going. absurd (both (is_ended old) ended going))

pub returns-then-is_stopped : goal.returns-then-is_stopped
returns-then-is_stopped g c =
    let old = c.args.self.now in
    let i = c.in-Some.index in
    let p = is_due_as c.args.id old.taken in
    let xs = old.readings.items in
    let there : position p xs ≡ Some i = ap (λ (v : List Reading). position p v) (sym c.as_slice.ensures.value) ∙ sym c.place_of_due.ensures ∙ c.in-Some.is in
    let w = position_found p xs i there (position_within p xs i there) in
    subst (λ (v : InstanceFault). AnsweredAs g.L.Log g.S.Space c.args.now c.args.id old c.end.new.self (Err v)) (sym c.end.ensures.fault)
    (subst (λ v. AnsweredAs g.L.Log g.S.Space c.args.now c.args.id old v (Err Ended)) (sym c.end.ensures.ended) (
      answer_stops g.L.Log g.S.Space old c.reply_after_end.new.service c.in-Some-reply_after_end.ensures.reply.stays,
      λ going. reading_waits c.args.id old.taken xs old.unsent.items (sent_in old) i w,
    ))

pub returns-in-Fault : goal.returns-in-Fault
returns-in-Fault g c =
    let old = c.args.self.now in
    let i = c.in-Some.index in
    let p = is_due_as c.args.id old.taken in
    let xs = old.readings.items in
    let new = record old { service = c.reply_after_end.new.service; readings = c.remove-id.new.self } in
    let there : position p xs ≡ Some i = ap (λ (v : List Reading). position p v) (sym c.as_slice.ensures.value) ∙ sym c.place_of_due.ensures ∙ c.in-Some.is in
    let w = position_found p xs i there (position_within p xs i there) in
    let f = due_as c.args.id old.taken xs i w in
    let same : c.call-call.result.now ≡ call_of f.one.held.request = c.call-call.ensures ∙ ap (λ (v : Reading). call_of v.held.request) (sym (found_is (is_due old.taken) xs i c.index.result.now f c.index.ensures)) in
    let asked = subst (λ (v : Call). IsReplyTo g.S.Space old.service c.reply_after_end.new.service c.args.now v c.in-Some-reply_after_end.reply) same c.in-Some-reply_after_end.ensures.reply in
    let plain = subst (λ (v : Call). ChangesNothing v c.in-Some-reply_after_end.reply) same c.in-Some-reply_after_end.ensures.plain in
    let removed = found_is (is_due old.taken) xs i c.remove-id.result f c.remove-id.ensures.value in (
      ap (λ (v : Reading). v.held.id) (sym removed) ∙ id_due_as c.args.id old.taken xs i w,
      subst (λ (v : Reading). HasOutcome g.L.Log g.S.Space c.args.now old new (Failed v.held.id)) removed
          (answered_fault g.L.Log g.S.Space old new c.args.now i c.in-Some-reply_after_end.reply f c.if-self.false asked plain refl c.remove-id.ensures.items refl refl refl refl refl (sym c.is_stopped.ensures ∙ c.if-is_stopped.false) refl refl c.in-Fault.is),
    )

pub returns-in_default-reply : goal.returns-in_default-reply
returns-in_default-reply g c =
    let old = c.args.self.now in
    let i = c.in-Some.index in
    let p = is_due_as c.args.id old.taken in
    let xs = old.readings.items in
    let new = record old { service = c.reply_after_end.new.service; readings = c.remove-id.new.self } in
    let there : position p xs ≡ Some i = ap (λ (v : List Reading). position p v) (sym c.as_slice.ensures.value) ∙ sym c.place_of_due.ensures ∙ c.in-Some.is in
    let w = position_found p xs i there (position_within p xs i there) in
    let f = due_as c.args.id old.taken xs i w in
    let same : c.call-call.result.now ≡ call_of f.one.held.request = c.call-call.ensures ∙ ap (λ (v : Reading). call_of v.held.request) (sym (found_is (is_due old.taken) xs i c.index.result.now f c.index.ensures)) in
    let asked = subst (λ (v : Call). IsReplyTo g.S.Space old.service c.reply_after_end.new.service c.args.now v c.in-Some-reply_after_end.reply) same c.in-Some-reply_after_end.ensures.reply in
    let plain = subst (λ (v : Call). ChangesNothing v c.in-Some-reply_after_end.reply) same c.in-Some-reply_after_end.ensures.plain in
    let goes = sym c.is_stopped.ensures ∙ c.if-is_stopped.false in
    let removed = found_is (is_due old.taken) xs i c.remove-id.result f c.remove-id.ensures.value in (
      ap (λ (v : Reading). v.held.id) (sym removed) ∙ id_due_as c.args.id old.taken xs i w,
      subst (λ (v : Reading). HasOutcome g.L.Log g.S.Space c.args.now old new (Replied v.held.id c.in-Some-reply_after_end.reply)) removed
          (answered_reply g.L.Log g.S.Space old new c.args.now i c.in-Some-reply_after_end.reply f c.if-self.false asked plain refl c.remove-id.ensures.items refl refl refl refl refl goes refl refl
          (final_reply c.in-Some-reply_after_end.reply c.in_default-reply.not-Fault goes)),
    )

pub returns-then-is_err : goal.returns-then-is_err
returns-then-is_err g c =
    let old = c.args.self.now in
    let i = c.in-Some.index in
    let s = c.reply_after_end.new.service in
    let p = is_due_as c.args.id old.taken in
    let xs = old.readings.items in
    let there : position p xs ≡ Some i = ap (λ (v : List Reading). position p v) (sym c.as_slice.ensures.value) ∙ sym c.place_of_due.ensures ∙ c.in-Some.is in
    let w = position_found p xs i there (position_within p xs i there) in
    let mid = record old { service = s } in
    let new = record old { service = s; unsent = c.reserve.new.self } in
    let alike : Alike g.L.Log g.S.Space mid new =
    record { service = refl; history = refl; writer = refl; readings = refl; unsent = c.reserve.ensures.items; in_flight = refl; taken = refl; received = refl; ended = λ h. h; retention = refl; heard = refl } in
    let looks = allowed_looks g.S.Space old.service s c.args.now _ c.in_default-reply_after_end.ensures.reply in (
      (
        record {
          did = did_then g.L.Log g.S.Space old [] mid [] new (did_look g.L.Log g.S.Space old s looks) (did_alike g.L.Log g.S.Space mid new alike);
          same = ids_alike g.L.Log g.S.Space mid new alike;
          taken = refl;
        },
        refl,
      ),
      λ going. reading_waits c.args.id old.taken xs c.reserve.new.self.items (sent_in old) i w,
    )

pub returns-in_default-reply_after_end : goal.returns-in_default-reply_after_end
returns-in_default-reply_after_end g c =
    let old = c.args.self.now in
    let i = c.in-Some.index in
    let s = c.reply_after_end.new.service in
    let p = is_due_as c.args.id old.taken in
    let xs = old.readings.items in
    let there : position p xs ≡ Some i = ap (λ (v : List Reading). position p v) (sym c.as_slice.ensures.value) ∙ sym c.place_of_due.ensures ∙ c.in-Some.is in
    let w = position_found p xs i there (position_within p xs i there) in
    let f = due_as c.args.id old.taken xs i w in
    let same : c.call-call.result.now ≡ call_of f.one.held.request = c.call-call.ensures ∙ ap (λ (v : Reading). call_of v.held.request) (sym (found_is (is_due old.taken) xs i c.index.result.now f c.index.ensures)) in
    let allowed = subst (λ (v : Call). IsAllowed g.S.Space old.service s c.args.now v) same c.in_default-reply_after_end.ensures.reply in
    let removed = found_is (is_due old.taken) xs i c.remove.result f c.remove.ensures.value in
    let mid = record old { service = s } in
    let new = record old { service = s; readings = c.remove.new.self; unsent = c.push_reserved.new.self } in
    let less = c.remove.ensures.items ∙ ap (λ (v : List Reading). remove v i) f.split.split ∙ remove_split f.split.front f.one f.split.back i f.split.at in
    let more : c.push_reserved.new.self.items ≡ old.unsent.items ++ f.one.held ∷ [] =
    c.push_reserved.ensures.items ∙ ap (λ (v : List Held). v ++ c.remove.result.held ∷ []) c.reserve.ensures.items ∙ ap (λ (r : Reading). old.unsent.items ++ r.held ∷ []) (sym removed) in
    inr (record {
      did =
          did_then g.L.Log g.S.Space old [] mid [] new (did_look g.L.Log g.S.Space old s (allowed_looks g.S.Space old.service s c.args.now (call_of f.one.held.request) allowed))
          (did_release g.L.Log g.S.Space mid new (record { service = refl; history = continues_same (g.L.Log.history old.log) (g.L.Log.history old.log) refl; writer = refl; taken = refl; ended = refl; retention = refl; heard = refl })
          f.split.front f.one f.split.back f.split.split less more refl refl);
      one = f.one.held;
      number = id_due_as c.args.id old.taken xs i w;
      allowed = allowed;
      unsent = more;
    })
