use Rattle.std.proofs.Common.{◌≡◌, ◌==◌, ◌∙◌, ap, sym, subst, refl, Some, None, List, arith, Bool}
use Rattle.std.specs.Prelude.{position}
use Rattle.std.specs.List.{remove}
use Rattle.pool_instance.specs.Effects.{Forgets}
use Rattle.pool_instance.specs.declared.waiting.Held.{Held}
use Rattle.pool_instance.specs.declared.waiting.Reading.{Reading}
use Rattle.pool_core.proofs.Histories.{continues_same}
use Rattle.pool_instance.proofs.Did.{did_fail_change, did_fail_reading, did_forget, did_same}
use Rattle.pool_instance.proofs.Ends.{none_there, unsent_change, unsent_reading}
use Rattle.pool_instance.proofs.Places.{position_found, position_none, position_within}
use Rattle.pool_instance.proofs.Times.{remove_split}
use Rattle.pool_instance.proofs.instance.Instance.fail.Goals as goal

pub returns-in-Some : goal.returns-in-Some
returns-in-Some g c =
    let old = c.args.self.now in
    let id = c.args.id in
    let i = c.in-Some.index in
    let p : Reading → Bool = λ r. r.held.id == id in
    let found : position p old.readings.items ≡ Some i = ap (λ (v : List Reading). position p v) (sym c.as_slice.ensures.value) ∙ sym c.place_of_reading.ensures ∙ c.in-Some.is in
    let f = position_found p old.readings.items i found (position_within p old.readings.items i found) in
    let number : f.one.held.id ≡ id = grind (arith, f.passes) in
    let less = c.remove-gone.ensures.items ∙ ap (λ (v : List Reading). remove v i) f.split.split ∙ remove_split f.split.front f.one f.split.back i f.split.at in (
      did_fail_reading g.L.Log g.S.Space old (record old { readings = c.remove-gone.new.self }) id
          (record { service = refl; history = continues_same (g.L.Log.history old.log) (g.L.Log.history old.log) refl; writer = refl; taken = refl; ended = refl; retention = refl; heard = refl }) refl refl
          f.split.front f.one f.split.back f.split.split less refl number,
      unsent_reading old.readings.items old.unsent.items f.split.front f.one f.split.back id f.split.split number,
    )

pub returns-in-Some-place_of_change : goal.returns-in-Some-place_of_change
returns-in-Some-place_of_change g c =
    let old = c.args.self.now in
    let id = c.args.id in
    let i = c.in-Some-place_of_change.index in
    let p : Held → Bool = λ h. h.id == id in
    let found : position p old.unsent.items ≡ Some i = ap (λ (v : List Held). position p v) (sym c.as_slice-2.ensures.value) ∙ sym c.place_of_change.ensures ∙ c.in-Some-place_of_change.is in
    let f = position_found p old.unsent.items i found (position_within p old.unsent.items i found) in
    let number : f.one.id ≡ id = grind (arith, f.passes) in
    let less = c.remove-gone-in-Some-place_of_change.ensures.items ∙ ap (λ (v : List Held). remove v i) f.split.split ∙ remove_split f.split.front f.one f.split.back i f.split.at in (
      did_fail_change g.L.Log g.S.Space old (record old { unsent = c.remove-gone-in-Some-place_of_change.new.self }) id
          (record { service = refl; history = continues_same (g.L.Log.history old.log) (g.L.Log.history old.log) refl; writer = refl; taken = refl; ended = refl; retention = refl; heard = refl }) refl refl
          f.split.front f.one f.split.back f.split.split less refl number,
      unsent_change old.readings.items old.unsent.items f.split.front f.one f.split.back id f.split.split number,
    )

pub returns-then-forget : goal.returns-then-forget
returns-then-forget g c = did_forget g.L.Log g.S.Space c.args.self.now c.forget.new.self c.args.id (subst (λ (b : Bool). Forgets c.args.id c.args.self.now c.forget.new.self b) c.if-forget.true c.forget.ensures)

pub returns : goal.returns
returns g c =
    let old = c.args.self.now in
    let id = c.args.id in
    let p : Reading → Bool = λ r. r.held.id == id in
    let q : Held → Bool = λ h. h.id == id in
    let f = subst (λ (b : Bool). Forgets id old c.forget.new.self b) c.if-forget.false c.forget.ensures in
    let rs : position p old.readings.items ≡ None = ap (λ (v : List Reading). position p v) (sym c.as_slice.ensures.value) ∙ sym c.place_of_reading.ensures ∙ c.in_default.is in
    let hs : position q old.unsent.items ≡ None = ap (λ (v : List Held). position q v) (sym c.as_slice-2.ensures.value) ∙ sym c.place_of_change.ensures ∙ c.in_default-place_of_change.is in (
      did_same g.L.Log g.S.Space old c.forget.new.self f.0,
      none_there old.readings.items old.unsent.items _ id (position_none p old.readings.items rs) (position_none q old.unsent.items hs) f.1,
    )
