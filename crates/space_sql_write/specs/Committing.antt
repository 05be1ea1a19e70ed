-- Definitions of the effect of a change in one transaction.
use Rattle.std.specs.Prelude.{IsTrue, Result, OnOk, OnErr}
use Rattle.sqlite_trees.specs.Tree.{Trees}
use Rattle.sqlite.specs.Effect.{Database}
use Rattle.sqlite.specs.State.{State, HasCleanDisk, Survives}
use Rattle.sqlite.specs.declared.error.Error.{Error}
use Rattle.entity_core.specs.Airspace.{Airspace}
use Rattle.space_sql_schema.specs.Spelling.{Spells}
use Rattle.space_sql_schema.specs.Making.{AreOf, IsSettled, IsUndone}

-- Holds if the trees are those of a database that represents the changed airspace. A commit may
-- have left them.
abbrev pub MayBeChanged : (P : Airspace → Type 0) (change : Airspace → Airspace)
    → State → Trees → Type 0
MayBeChanged P change old trees =
    (a : Airspace) → Spells old.now a → P a → AreOf (λ db. Spells db (change a)) trees

-- Holds if, when the tables represent an airspace with P, the changed airspace is committed, or the
-- last commit stays as it was. A crash leaves one of the two.
pub record Commits {X : Type 0} (P : Airspace → Type 0) (change : Airspace → Airspace)
    (old new : State) (result : Result X Error) : Type 0 where
  pub done : HasCleanDisk new
      → OnOk result
      (((a : Airspace) → Spells old.now a → P a → Spells new.now (change a)) × IsSettled new)
  pub err : HasCleanDisk new → IsTrue new.is_open → OnErr result (IsUndone old new)
  pub crash : Survives old new (MayBeChanged P change old)

-- Holds if, when a change is made, `Keeps` relates the airspace, the tables before the change and
-- those after it.
abbrev pub HoldsAcrossChange : {X : Type 0} → (P : Airspace → Type 0)
    → (Keeps : Airspace → Database → Database → Type 0) → State → State → Result X Error → Type 0
HoldsAcrossChange P Keeps old new result =
    HasCleanDisk new
    → OnOk result ((a : Airspace) → Spells old.now a → P a → Keeps a old.now new.now)
