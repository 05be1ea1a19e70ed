-- A proof that lifts a read of a database to a read of its connection.
use Rattle.std.proofs.Common.{Ok}
use Rattle.sqlite.specs.State.{State}
use Rattle.entity_core.specs.Airspace.{Airspace}
use Rattle.space_sql_select.specs.Reading.{ReadsTables}

pub tables_as : {X Y : Type 0} (P : Airspace → X → Type 0) (Q : Airspace → Y → Type 0) (old new : State) (x : X) (y : Y) → ((a : Airspace) → P a x → Q a y) → ReadsTables old new (Ok x) P → ReadsTables old new (Ok y) Q
tables_as P Q old new x y f p = record { answer = λ clean a s. f a (p.answer clean a s); rests = p.rests; is_open = p.is_open; survives = p.survives }
