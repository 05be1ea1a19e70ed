use Rattle.std.proofs.Common.{◌∙◌}
use Rattle.entity_core.specs.Airspace.{empty_at}
use Rattle.test_simulation.proofs.simulation.with_mirror.Goals as goal

pub new-requires : goal.new-requires
new-requires g c = record {
  live = c.in-Ok.ensures.tells.breaks ∙ c.requires.works;
  base = λ sound.
      let content = c.requires.content (c.in-Ok.ensures.reads.sound sound) in (
        empty_at 0,
        record {
          held = c.in-Ok.ensures.reads.stays sound (empty_at 0) content.held;
          only = λ b held. content.only b (c.in-Ok.ensures.reads.no_other sound b held);
        },
        tt,
        c.in-Ok.ensures.reads.answer sound (empty_at 0) content.held,
      );
}
