-- The call of a request, and how an entry represents it.
use Rattle.std.specs.Prelude.{ℕ, List, Option, option_map}
use Rattle.policy_core.specs.declared.call.Call.{Call}
use Rattle.policy_core.specs.declared.scope.Caller.{Caller}
use Rattle.pool_entry.specs.Calls.{operation_of}
use Rattle.pool_entry.specs.declared.pool_call.PoolCall.{PoolCall}
use Rattle.pool_instance.specs.declared.request.Request.{Request}

abbrev pub call_of : Request → Call
call_of r = r.call

-- The call that a caller and the parts of a request give.
abbrev pub call_from : Option Caller → (path method body : List ℕ) → Call
call_from caller path method body =
    record { caller = caller; op = operation_of path method body }

-- The call of a request as an entry represents it, made by this caller at this time.
abbrev pub written_by : (now : ℕ) → Request → Caller → PoolCall
written_by now r caller = record {
  moment = now;
  caller = caller;
  method = r.method;
  path = r.path;
  body = r.body;
}

-- The call of a request as an entry represents it, if the request has a caller.
abbrev pub written_at : (now : ℕ) → Request → Option PoolCall
written_at now r = option_map (written_by now r) (call_of r).caller
