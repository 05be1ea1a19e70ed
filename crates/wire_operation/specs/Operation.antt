-- The operation that a path, a method and a body give.
use Rattle.std.specs.Prelude.{◌≡◌, ℕ, List, Option}
use Rattle.policy_core.specs.declared.call.Operation.{Operation}
use Rattle.wire_route.specs.declared.endpoint.Endpoint.{Endpoint}
use Rattle.wire_operation.specs.Asked.{IsAsked}

-- Holds if path, method and body give this operation, at an endpoint or without a route.
abbrev pub GivesOperation : List ℕ → List ℕ → List ℕ → Operation → Type 0
GivesOperation path method body op = (endpoint : Option Endpoint)
    × IsAsked path method body endpoint op

-- States that every path, method and body give an operation.
abbrev pub EachGives : Type 0
EachGives = (path method body : List ℕ)
    → (op : Operation) × GivesOperation path method body op

-- States that they give no other operation.
abbrev pub OneOperation : Type 0
OneOperation = (path method body : List ℕ) (op other : Operation)
    → GivesOperation path method body op → GivesOperation path method body other → other ≡ op
