use Rattle.std.proofs.Common.{◌≡◌, refl, ap, ◌∙◌, map, List, length, arith}
use Rattle.std.proofs.lemmas.List.{length-map, with_items_is}
use Rattle.std.specs.Vec.{with_items}
use Rattle.pool_instance.specs.Lists.{told}
use Rattle.pool_instance.specs.declared.waiting.Reading.{Reading}
use Rattle.pool_instance.proofs.Did.{did_learn}
use Rattle.pool_instance.proofs.instance.Instance.learn.Goals as goal

pub returns : goal.returns
returns g c =
    let old = c.args.self.now in
    let q = c.in-Some.end.question in
    let n = c.in-Some.end.count in
    let m : c.note_end.new.readings ≡ map (told q n) old.readings.items = c.note_end.ensures ∙ ap (λ (v : List Reading). map (told q n) v) c.as_mut_slice.ensures.value in
    let long : length c.note_end.new.readings ≡ old.readings.len = omega (arith, ap (λ (v : List Reading). length v) m, length-map old.readings.items (told q n), old.readings.ok.0) in (
      q,
      (
        n,
        did_learn g.L.Log g.S.Space old (record old { log = c.end.new.self; readings = with_items old.readings c.note_end.new.readings }) q n
            (record { service = refl; history = c.in-Some.ensures.history; writer = c.end.ensures.writer; taken = refl; ended = refl; retention = refl; heard = refl }) refl
            (with_items_is old.readings c.note_end.new.readings long ∙ m) refl refl,
      ),
    )
