use Rattle.std.proofs.Common.{◌≡◌}
use Rattle.std.proofs.lemmas.Result.{IfOk-weaker}
use Rattle.wire_operation.specs.Operation.{GivesOperation}
use Rattle.pool_entry.specs.Calls.{operation_of}
use Rattle.pool_entry.proofs.Entries.{operation_is}
use Rattle.pool_instance.proofs.request.operation_of.Goals as goal

pub returns : goal.returns
returns c =
    let path = c.args.path.now in
    let method = c.args.method.now in
    let body = c.args.body.now in
    IfOk-weaker c.read_operation.result (GivesOperation path method body) (λ op. op ≡ operation_of path method body)
    (λ op given. operation_is path method body op given) c.read_operation.ensures
