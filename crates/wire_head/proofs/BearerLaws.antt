-- Lemmas: visible characters are valid UTF-8.
use Rattle.std.proofs.Common.{◌≡◌, ◌<◌, ℕ, List, [], ◌∷◌, true, false, arith, refl, Bool, suc, zero}
use Rattle.std.specs.Prelude.{◌&&◌}
use Rattle.std.specs.List.{list_all}
use Rattle.std.specs.Char.{is_ascii_graphic}
use Rattle.std.specs.Str.{IsUtf8, IsAscii}
use Rattle.std.proofs.lemmas.Str.{IsUtf8-from_ascii}
use Rattle.std.proofs.lemmas.Grind.{common_steps}

graphic_small : (c : ℕ) → is_ascii_graphic c ≡ true → c < 128
graphic_small c h = grind (arith, common_steps)

both_first : (a b : Bool) → (a && b) ≡ true → a ≡ true
both_first true b h = refl
both_first false b h = cc

both_second : (a b : Bool) → (a && b) ≡ true → b ≡ true
both_second true b h = h
both_second false b h = cc

graphic_at : (text : List ℕ) → list_all is_ascii_graphic text ≡ true → IsAscii text
graphic_at [] h i = omega arith
graphic_at (c ∷ text) h zero = graphic_small c (both_first (is_ascii_graphic c) (list_all is_ascii_graphic text) h)
graphic_at (c ∷ text) h (suc i) = graphic_at text (both_second (is_ascii_graphic c) (list_all is_ascii_graphic text) h) i

pub visible_text : (text : List ℕ) → list_all is_ascii_graphic text ≡ true → IsUtf8 text
visible_text text h = IsUtf8-from_ascii text (graphic_at text h)
