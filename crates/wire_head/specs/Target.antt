-- The target of a request.
use Rattle.std.specs.Prelude.{◌==◌, ℕ, List}
use Rattle.std.specs.List.{before_first}

-- The path of a target: the bytes before the first question mark.
abbrev pub path_of : List ℕ → List ℕ
path_of target = before_first (λ b. b == 63) target
