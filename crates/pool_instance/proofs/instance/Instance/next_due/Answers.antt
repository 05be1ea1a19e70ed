use Rattle.std.proofs.Common.{◌∙◌, refl, sym, arith}
use Rattle.std.proofs.lemmas.Option.{slice_get_read}
use Rattle.pool_instance.proofs.instance.Instance.next_due.Goals as goal

pub returns-then-is_reading_due : goal.returns-then-is_reading_due
returns-then-is_reading_due g c =
    let rs = c.args.self.now.readings in (
      c.index-reading.result.now,
      slice_get_read rs.items rs.len c.loop-place.place c.index-reading.result.now rs.ok.0 (omega arith) c.index-reading.ensures,
      refl,
      sym c.is_reading_due.ensures ∙ c.if-is_reading_due.true,
    )
