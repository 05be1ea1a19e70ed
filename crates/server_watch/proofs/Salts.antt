-- Texts that are known to differ.
use Rattle.std.proofs.Common.{◌≡◌, ℕ, List, Bool, false, sym, ◌∙◌, true≢false}
use Rattle.std.specs.Prelude.{nat_eq}
use Rattle.std.specs.Cmp.{unsigned_Decides}
use Rattle.std.specs.Cmp.Lexicographic.{pointwise, pointwise_decides}

pub differ : (found : Bool) (a b : List ℕ) → found ≡ pointwise nat_eq a b → found ≡ false → a ≡ b → ⊥
differ found a b is other same = true≢false (sym ((pointwise_decides unsigned_Decides a b).1 same) ∙ sym is ∙ other)
