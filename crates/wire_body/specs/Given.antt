-- The result of a reader, compared with the value of its definition.
use Rattle.std.specs.Prelude.{◌≡◌, Option, Some, None, Result, Ok, Err}
use Rattle.wire_body.specs.declared.body_fault.BodyFault.{BodyFault}
use Rattle.wire_body.specs.declared.body_fault.BodyFault.TheVariants.{Malformed, Memory}

-- Holds if the fault is possible: `Malformed` exactly if the definition has no value, `Memory`
-- always.
abbrev pub Fails : {A : Type 0} → BodyFault → Option A → Type 0
Fails Malformed said = said ≡ None
Fails Memory said = Unit {0}

-- Holds if the result is the value of the definition, under a view, or a possible fault.
abbrev pub GivesBy : {X A : Type 0} → (X → A) → Result X BodyFault → Option A → Type 0
GivesBy view (Ok x) said = said ≡ Some (view x)
GivesBy view (Err fault) said = Fails fault said

abbrev pub Gives : {A : Type 0} → Result A BodyFault → Option A → Type 0
Gives result said = GivesBy (λ x. x) result said
