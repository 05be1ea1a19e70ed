use Rattle.std.proofs.Common.{is_some, Bool, ◌≡◌, refl, sym, ap, subst, ◌∙◌, false, map, List, length, arith}
use Rattle.std.specs.Prelude.{All}
use Rattle.std.specs.Vec.{with_items}
use Rattle.std.proofs.lemmas.List.{length-map, with_items_is}
use Rattle.pool_instance.specs.Lists.{asked}
use Rattle.pool_instance.specs.Parts.{is_unasked}
use Rattle.pool_instance.specs.declared.waiting.Reading.{Reading}
use Rattle.pool_instance.proofs.Did.{did_ask}
use Rattle.pool_instance.proofs.Fails.{none_unasked}
use Rattle.pool_instance.proofs.instance.Instance.ask.Goals as goal

pub returns-in-Ok : goal.returns-in-Ok
returns-in-Ok g c =
    let old = c.args.self.now in
    let q = c.in-Ok.question in
    let f = is_some old.in_flight in
    let flag : c.is_some-in_flight.result ≡ f = c.is_some-in_flight.ensures in
    let m : c.note_question.new.readings ≡ map (asked f q) old.readings.items =
    c.note_question.ensures ∙ ap (λ (v : List Reading). map (asked c.is_some-in_flight.result q) v) c.as_mut_slice.ensures.value ∙ ap (λ (v : Bool). map (asked v q) old.readings.items) flag in
    let long : length c.note_question.new.readings ≡ old.readings.len = omega (arith, ap (λ (v : List Reading). length v) m, length-map old.readings.items (asked f q), old.readings.ok.0) in
    let items = with_items_is old.readings c.note_question.new.readings long ∙ m in (
      (
        q,
        did_ask g.L.Log g.S.Space f old (record old { log = c.ask_end.new.self; readings = with_items old.readings c.note_question.new.readings }) q
            (record { service = refl; history = c.in-Ok.ensures.history; writer = c.ask_end.ensures.writer; taken = refl; ended = refl; retention = refl; heard = refl }) refl items refl refl,
        items,
      ),
      subst (λ (v : List Reading). All (λ (r : Reading). is_unasked f r ≡ false) v) (sym items) (none_unasked f q old.readings.items),
    )
