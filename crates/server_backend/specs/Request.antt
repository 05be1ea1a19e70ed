-- Which call is made for a request.
use Rattle.policy_core.specs.declared.call.Operation.{Operation}
use Rattle.wire_operation.specs.Operation.{GivesOperation}
use Rattle.wire_http.specs.Unread.{IsMadeFor}
use Rattle.server_backend.specs.declared.request.Request.{Request}

-- Holds if the call is made for the operation that path, method and body give: it is the same call,
-- or one that is denied alike.
abbrev pub IsRequestFor : Request → Type 0
IsRequestFor r = (op : Operation) × GivesOperation r.path.now r.method.now r.body.now op
    × IsMadeFor r.call.now (record { caller = r.call.now.caller; op = op })
