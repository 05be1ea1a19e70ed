use Rattle.std.proofs.Common.{◌∙◌, ap}
use Rattle.test_libraries.proofs.Breakings.{tells_broken, reads_broken, tells_inside, reads_inside}
use Rattle.test_libraries.proofs.breaking.BreakingSpace.entity.Goals as goal

pub returns-then-breaks : goal.returns-then-breaks
returns-then-breaks g c = record {
  fixed = ap g.S.Space.fixed c.breaks.ensures.space;
  tells = tells_broken g.S.Space _ _ _ _ c.breaks.ensures.space (c.breaks.ensures.broken ∙ c.if-breaks.true);
  reads = reads_broken g.S.Space _ _ _ c.breaks.ensures.space;
}

pub returns : goal.returns
returns g c = record {
  fixed = c.entity.ensures.fixed ∙ ap g.S.Space.fixed c.breaks.ensures.space;
  tells = tells_inside g.S.Space _ _ _ _ _ _ c.breaks.ensures.space (c.breaks.ensures.whole c.if-breaks.false) (c.breaks.ensures.broken ∙ c.if-breaks.false) c.entity.ensures.tells;
  reads = reads_inside g.S.Space _ _ _ _ _ c.breaks.ensures.space c.entity.ensures.reads;
}
