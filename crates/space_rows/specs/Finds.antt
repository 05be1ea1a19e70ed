-- Definitions of the result of a search.
use Rattle.std.specs.Prelude.{List, MatchOption, Option}
use Rattle.std.specs.declared.vec.Vec.{Vec}

-- Holds if the value returned has P, and `None` is returned exactly if no value has P.
abbrev pub Finds : {X : Type 0} → (X → Type 0) → Option X → Type 0
Finds {X} P o = MatchOption o ((x : X) → ¬ P x) P

-- The same for a list.
abbrev pub FindsList : {X A : Type 0} → (List X → Type 0) → Option (Vec X A) → Type 0
FindsList {X} P o = MatchOption o ((xs : List X) → ¬ P xs) (λ v. P v.items)
