-- The calls of a batch.
use Rattle.std.specs.Prelude.{ℕ, List, Some}
use Rattle.httparse.specs.Grammar.{RequestHead}
use Rattle.policy_core.specs.declared.call.Operation.{Operation}
use Rattle.policy_core.specs.declared.scope.Caller.{Caller}
use Rattle.service_calls.specs.Run.{TimedCall}
use Rattle.wire_head.specs.Target.{path_of}
use Rattle.wire_operation.proofs.Asked.{asked}
use Rattle.pool_entry.specs.declared.pool_call.PoolCall.{PoolCall}

-- The operation that a path, a method and a body give: the only one for which `GivesOperation`
-- holds.
unfoldable pub operation_of : List ℕ → List ℕ → List ℕ → Operation
operation_of path method body = (asked path method body).op

-- The call of an entry, with its time. It has a caller. If its request breaks a form, the operation
-- says so, and the policy denies the call at its place.
abbrev pub timed_call : PoolCall → TimedCall
timed_call c =
    (c.moment, record { caller = Some c.caller; op = operation_of c.path c.method c.body })

-- The call that an instance writes for a request of a caller.
abbrev pub written_for : ℕ → Caller → RequestHead → List ℕ → PoolCall
written_for moment caller h body = record {
  moment = moment;
  caller = caller;
  method = h.method;
  path = path_of h.target;
  body = body;
}
