use Rattle.std.proofs.Common.{subst, sym}
use Rattle.entity_core.specs.Airspace.{empty_at}
use Rattle.test_simulation.proofs.simulation.failing.Goals as goal

pub with_mirror-requires-clause-content : goal.with_mirror-requires-clause-content
with_mirror-requires-clause-content g c = λ sound.
    let same = c.new.ensures.space in
    let content = c.requires.content (subst (λ (k : g.row.S.Denot). g.S.Space.is_sound k) same sound) in
    record {
      held = subst (λ (k : g.row.S.Denot). g.S.Space.holds k (empty_at 0)) (sym same) content.held;
      only = λ b held. content.only b (subst (λ (k : g.row.S.Denot). g.S.Space.holds k b) same held);
    }
