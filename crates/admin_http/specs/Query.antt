-- The query of a request's target.
use Rattle.std.specs.Prelude.{◌==◌, ℕ, List}
use Rattle.std.specs.List.{after_first}

-- The text after the first question mark, if there is one.
abbrev pub query_of : (target : List ℕ) → List ℕ
query_of target = after_first (λ b. b == 63) target
