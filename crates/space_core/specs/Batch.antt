-- The effect of a batch of changes on an airspace.
use Rattle.std.specs.Prelude.{List, [], ◌∷◌, fold}
use Rattle.entity_core.specs.Airspace.{Airspace}
use Rattle.space_core.specs.declared.batch.BatchChange.{BatchChange}
use Rattle.space_core.specs.Space.{Fits, changed}

-- The airspace after one change of a batch.
abbrev pub changed_once : BatchChange → Airspace → Airspace
changed_once c = changed c.change c.notify.items

-- The airspace after all changes of a batch, in order.
abbrev pub changed_all : List BatchChange → Airspace → Airspace
changed_all batch a = fold (λ b c. changed_once c b) a batch

-- Holds if every change fits the airspace that the previous ones leave.
abbrev pub FitAll : List BatchChange → Airspace → Type 0
FitAll [] a = Unit {0}
FitAll (c ∷ cs) a = Fits c.change c.notify.items a × FitAll cs (changed_once c a)
