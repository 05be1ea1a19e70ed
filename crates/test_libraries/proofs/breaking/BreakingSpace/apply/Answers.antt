use Rattle.std.proofs.Common.{◌∙◌, ap, subst}
use Rattle.test_libraries.proofs.Breakings.{tells_broken, changes_broken, tells_inside, changes_inside}
use Rattle.test_libraries.proofs.breaking.BreakingSpace.apply.Goals as goal

pub apply-requires : goal.apply-requires
apply-requires g c = record {
  fits = λ k a h.
      c.requires.fits (subst g.S.Space.is_sound c.breaks.ensures.space k) a (subst (λ s. g.S.Space.holds s a) c.breaks.ensures.space h);
}

pub returns-then-breaks : goal.returns-then-breaks
returns-then-breaks g c = record {
  fixed = ap g.S.Space.fixed c.breaks.ensures.space;
  tells = tells_broken g.S.Space _ _ _ _ c.breaks.ensures.space (c.breaks.ensures.broken ∙ c.if-breaks.true);
  changes = changes_broken g.S.Space _ _ _ _ c.breaks.ensures.space;
}

pub returns : goal.returns
returns g c = record {
  fixed = c.apply.ensures.fixed ∙ ap g.S.Space.fixed c.breaks.ensures.space;
  tells = tells_inside g.S.Space _ _ _ _ _ _ c.breaks.ensures.space (c.breaks.ensures.whole c.if-breaks.false) (c.breaks.ensures.broken ∙ c.if-breaks.false) c.apply.ensures.tells;
  changes = changes_inside g.S.Space _ _ _ _ _ _ c.breaks.ensures.space (c.breaks.ensures.whole c.if-breaks.false) c.apply.ensures.changes;
}
