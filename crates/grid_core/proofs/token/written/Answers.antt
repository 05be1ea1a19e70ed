use Rattle.std.proofs.Common.{subst, sym, ap, ◌∙◌, ◌++◌, string_bytes, List, ℕ, ◌+◌, ◌<◌, arith}
use Rattle.grid_core.specs.Token.{Written}
use Rattle.grid_core.proofs.Tokens.{written_more, lower_is_ascii}
use Rattle.grid_core.proofs.token.written.Goals as goal

pub loop-place-preserved : goal.loop-place-preserved
loop-place-preserved c =
    let few : c.loop-place.place < 16 = omega arith in
    subst (Written c.args.raw (c.loop-place.place + 1)) (sym (c.in_ok-push.ensures.bytes ∙ ap (λ (xs : List ℕ). string_bytes c.loop-place.text ++ xs) (c.in_ok-push.ensures.ascii (lower_is_ascii c.glyph_at.result c.glyph_at.ensures.lower))))
    (written_more c.args.raw c.loop-place.place _ c.glyph_at.result few c.loop-place.invariant c.glyph_at.ensures.value c.glyph_at.ensures.lower)
