-- The call that a request makes.
use Rattle.std.specs.Prelude.{◌≡◌, ◌⊎◌, ℕ, List, map, Option, Some, None, option_and_then}
use Rattle.std.specs.FinMap.{get}
use Rattle.httparse.specs.Grammar.{RequestHead}
use Rattle.httparse.specs.Spans.{name_and_value}
use Rattle.policy_core.specs.declared.scope.Caller.{Caller}
use Rattle.policy_core.specs.declared.call.OpKind.{OpKind}
use Rattle.policy_core.specs.declared.call.Operation.{Operation}
use Rattle.policy_core.specs.declared.call.Operation.TheVariants.{NoRoute, NoMethod, Malformed}
use Rattle.policy_core.specs.declared.call.Call.{Call}
use Rattle.token_conf.specs.TokenFile.{Callers}
use Rattle.wire_body.specs.Body.{IsBody, Words}
use Rattle.wire_route.specs.declared.endpoint.Endpoint.{Endpoint}
use Rattle.wire_route.specs.Endpoint.{kind_at}
use Rattle.wire_route.specs.Route.{IsRoute, HasNoRoute}
use Rattle.wire_head.specs.Fields.{Fields}
use Rattle.wire_head.specs.Bearer.{bearer_token}
use Rattle.wire_head.specs.Target.{path_of}

-- The names and the values of the fields of a head.
abbrev pub fields_of : RequestHead → Fields
fields_of h = map name_and_value h.fields

-- The caller with the bearer token in the fields.
abbrev pub caller_of : Callers → Fields → Option Caller
caller_of callers fields = option_and_then (get callers) (bearer_token fields)

-- Holds if this is the operation of the kind. It is `Malformed` exactly if path parameters and body
-- give none.
abbrev pub IsReadAs : OpKind → Words → List ℕ → Operation → Type 0
IsReadAs kind words body op =
    IsBody kind words body op
    ⊎ (((other : Operation) → IsBody kind words body other → ⊥) × (op ≡ Malformed kind))

-- Holds if this is the operation of a method. Without a kind, the endpoint does not allow the
-- method.
abbrev pub IsAskedAs : Option OpKind → Words → List ℕ → Operation → Type 0
IsAskedAs None words body op = op ≡ NoMethod
IsAskedAs (Some kind) words body op = IsReadAs kind words body op

-- Holds if the path leads to this endpoint, or to none, and path, method and body give this
-- operation.
abbrev pub IsAsked : List ℕ → List ℕ → List ℕ → Option Endpoint → Operation → Type 0
IsAsked path method body None op = HasNoRoute path × (op ≡ NoRoute)
IsAsked path method body (Some endpoint) op = (words : Words) × IsRoute path endpoint words
    × IsAskedAs (kind_at endpoint method) words body op

-- Holds if a request makes this call, at the endpoint of its path.
pub record IsCallOf (callers : Callers) (h : RequestHead) (body : List ℕ) (endpoint : Option Endpoint)
    (call : Call) : Type 0 where
  pub caller : call.caller ≡ caller_of callers (fields_of h)
  pub op : IsAsked (path_of h.target) h.method body endpoint call.op
