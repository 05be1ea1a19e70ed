use Rattle.std.proofs.Common.{ap, ◌∙◌, Ok}
use Rattle.std.proofs.lemmas.Result.{err_from_is_err_and}
use Rattle.pool_entry.specs.Reading.{form_of}
use Rattle.pool_entry.proofs.Entries.{calls_are, error_is, purge_is}
use Rattle.pool_entry.proofs.entry.entry_acts.Goals as goal

pub returns-in_err-batch-clause-errors : goal.returns-in_err-batch-clause-errors
returns-in_err-batch-clause-errors c =
    let p = err_from_is_err_and c.from_residual.result c.from_residual.ensures.1 in
    rw (p.1, p.2) (error_is c.args.bytes.now c.in_err-batch.field-0.0 c.in_err-batch.ensures)

pub returns-in_ok-calls-in-Batch-clause-acts : goal.returns-in_ok-calls-in-Batch-clause-acts
returns-in_ok-calls-in-Batch-clause-acts c =
    calls_are c.args.bytes.now c.in-Batch.batch.items c.in_ok-calls-in-Batch.calls.items
    (c.in_ok-batch.ensures ∙ ap (λ v. Ok (form_of v)) c.in-Batch.is) c.in_ok-calls-in-Batch.ensures

pub returns-in-Purge-clause-acts : goal.returns-in-Purge-clause-acts
returns-in-Purge-clause-acts c =
    purge_is c.args.bytes.now c.in-Purge.until (c.in_ok-batch.ensures ∙ ap (λ v. Ok (form_of v)) c.in-Purge.is)
