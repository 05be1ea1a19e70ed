-- Values with one of them changed.
use Rattle.std.specs.Prelude.{ℕ, ◌==◌, if◌then◌else◌}

-- The same values, except for one key.
abbrev pub set_at : {X : Type 0} → (ℕ → X) → ℕ → X → ℕ → X
set_at values who value other = if other == who then value else values other
