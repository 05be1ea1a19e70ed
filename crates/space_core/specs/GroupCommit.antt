-- The effect of a commit on a space.
use Rattle.std.specs.Prelude.{◌≡◌, Result, OnOk, IsErrOf, ◌↔◌, ◌⊎◌}
use Rattle.entity_core.specs.Airspace.{Airspace}
use Rattle.space_core.specs.declared.space.SpaceFault.{SpaceFault}
use Rattle.space_core.specs.declared.space.SpaceFault.TheVariants.{Unchanged}
use Rattle.space_core.specs.Space.{IsContent}

-- Holds if a commit has its effect. After `Ok`, the airspace that was visible is the content of the
-- space. After `Unchanged`, the last durable airspace is visible. In every case, each visible
-- airspace was durable or visible before. A whole space stays whole.
pub record CommitEffect {S T : Type 0} (Holds Keeps : S → Airspace → Type 0)
    (IsSound IsWhole : S → Type 0) (old new : S) (result : Result T SpaceFault) : Type 0 where
  pub sound : IsSound new → IsSound old
  pub whole : IsSound new → IsWhole old → IsWhole new
  pub done : IsSound new → OnOk result ((a : Airspace) → Holds old a → IsContent Holds new a)
  pub refused : IsSound new → IsErrOf result Unchanged → (a : Airspace) → Keeps old a ↔ Holds new a
  pub no_other : IsSound new → (a : Airspace) → Holds new a → Keeps old a ⊎ Holds old a
