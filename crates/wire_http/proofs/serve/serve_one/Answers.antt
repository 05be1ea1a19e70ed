use Rattle.std.proofs.Common.{◌-◌, Err, ap}
use Rattle.std.proofs.lemmas.Result.{err_from_is_err_and}
use Rattle.token_conf.specs.TokenFile.{callers_of}
use Rattle.wire_http.specs.declared.explaining.Explaining.TheVariants.{Off}
use Rattle.wire_http.specs.Source.{bytes_of}
use Rattle.wire_http.proofs.Told.{tells_answering, tells_good}
use Rattle.wire_http.proofs.TurnLaws.{of_answering, part_none, part_end, part_ask, part_answered, turn_answered, turn_stopped, fits_at, fewer_left}
use Rattle.wire_http.proofs.Unread.{part_for, replies_for}
use Rattle.wire_http.proofs.serve.serve_one.Goals as goal

pub returns-in_err-spans-clause-part : goal.returns-in_err-spans-clause-part
returns-in_err-spans-clause-part g c = let p = err_from_is_err_and c.from_residual.result c.from_residual.ensures.1 in rw (p.1, p.2) (
    part_none g.S.Space g.M.Moments.gives (callers_of c.args.tokens.now) (c.args.count - 1)
    _ _ _ (bytes_of c.args.source.now) c.args.service.now c.args.moments.now _ _ c.in_err-spans.ensures.reads)

pub returns-in_err-end_with-in-Stop-clause-part : goal.returns-in_err-end_with-in-Stop-clause-part
returns-in_err-end_with-in-Stop-clause-part g c = let p = err_from_is_err_and c.from_residual-in_err-end_with-in-Stop.result c.from_residual-in_err-end_with-in-Stop.ensures.1 in rw (p.1, p.2) (
    part_end g.S.Space g.M.Moments.gives (callers_of c.args.tokens.now) (c.args.count - 1)
    _ _ (bytes_of c.args.source.now) (bytes_of c.next_request.new.source) c.next_request.new.fields c.in_ok-spans.field-0 c.in-Stop.end c.args.service.now c.args.moments.now _ _ _
    c.in-Stop.is c.in_ok-spans.ensures.reads.came c.in_ok-spans.ensures.next (of_answering _ _ _ _ c.in_err-end_with-in-Stop.ensures.err) c.in_err-end_with-in-Stop.ensures.part)

pub returns-in_err-pending-clause-part : goal.returns-in_err-pending-clause-part
returns-in_err-pending-clause-part g c = let p = err_from_is_err_and c.from_residual-in_err-pending.result c.from_residual-in_err-pending.ensures.1 in rw (p.1, p.2) (
    part_ask g.S.Space g.M.Moments.gives (callers_of c.args.tokens.now) (c.args.count - 1)
    _ _ (bytes_of c.args.source.now) (bytes_of c.next_request.new.source) c.next_request.new.fields c.in_ok-spans.field-0 c.in-Request.spans c.in-Request.size c.args.service.now c.args.moments.now c.ask.new.moments _ _ _ _
    c.in-Request.is c.in_ok-spans.ensures.reads.came c.in_ok-spans.ensures.next c.in_err-pending.ensures.err (λ e. c.in_err-pending.ensures.taken (ap Err e)))

pub returns-in_err-answer-clause-part : goal.returns-in_err-answer-clause-part
returns-in_err-answer-clause-part g c = let p = err_from_is_err_and c.from_residual-in_err-answer.result c.from_residual-in_err-answer.ensures.1 in rw (p.1, p.2) (
    part_answered g.S.Space g.M.Moments.gives (callers_of c.args.tokens.now) (c.args.count - 1)
    _ _ (bytes_of c.args.source.now) (bytes_of c.next_request.new.source) c.as_slice.result.now c.next_request.new.fields c.in_ok-spans.field-0 c.in-Request.spans c.in-Request.size
    c.in_ok-pending.pending.endpoint c.in_ok-pending.pending.moment c.in_ok-pending.ensures.made.0 c.left_after-left.result
    c.args.service.now c.answer.new.service c.args.moments.now c.ask.new.moments _ _ _
    c.in-Request.is c.as_slice.ensures.value (of_answering _ _ _ _ c.in_err-answer.ensures.err) c.in_ok-spans.ensures.reads.came c.in_ok-spans.ensures.next
    c.in_ok-pending.ensures.made.1 c.left_after-left.ensures c.in_ok-pending.ensures.moment
    (part_for g.S.Space _ _ _ _ _ _ _ _ _ c.in_ok-pending.ensures.made.2 c.in_err-answer.ensures.part))

pub returns-in-Stop-clause-turn : goal.returns-in-Stop-clause-turn
returns-in-Stop-clause-turn g c =
    turn_stopped g.S.Space g.M.Moments.gives (callers_of c.args.tokens.now) (c.args.count - 1)
    _ _ (bytes_of c.args.source.now) (bytes_of c.next_request.new.source) (bytes_of c.next_request.new.source) c.next_request.new.fields c.in_ok-spans.field-0 c.in-Stop.end c.args.service.now c.args.moments.now _ _
    c.in-Stop.is c.in_ok-spans.ensures.reads.came c.in_ok-spans.ensures.next c.in_ok-end_with-in-Stop.ensures.whole

pub returns-clause-turn : goal.returns-clause-turn
returns-clause-turn g c =
    turn_answered g.S.Space g.M.Moments.gives (callers_of c.args.tokens.now) (c.args.count - 1)
    _ _ (bytes_of c.args.source.now) (bytes_of c.next_request.new.source) c.as_slice.result.now c.shift.new.buffer.items c.next_request.new.fields c.in_ok-spans.field-0 c.in-Request.spans c.in-Request.size
    c.in_ok-pending.pending.endpoint c.in_ok-pending.pending.moment c.in_ok-pending.ensures.made.0 c.left_after-left.result
    c.args.service.now c.answer.new.service c.args.moments.now c.ask.new.moments _ _
    c.in-Request.is c.as_slice.ensures.value c.in_ok-spans.ensures.reads.came c.in_ok-spans.ensures.next
    (fits_at (bytes_of c.next_request.new.source) c.next_request.new.fields c.in_ok-spans.field-0 c.in-Request.spans c.in-Request.size c.in-Request.is c.in_ok-spans.ensures.within) c.shift.ensures
    c.in_ok-pending.ensures.made.1 c.left_after-left.ensures c.in_ok-pending.ensures.moment
    (replies_for g.S.Space _ _ _ Off _ _ _ _ _ _ c.in_ok-pending.ensures.made.2 c.in_ok-answer.ensures.replies)

pub returns-clause-goes_on : goal.returns-clause-goes_on
returns-clause-goes_on g c = fewer_left _ c.left_after-left.result c.args.count c.requires.some c.left_after-left.ensures

pub returns-in_err-answer-clause-tells : goal.returns-in_err-answer-clause-tells
returns-in_err-answer-clause-tells g c = let p = err_from_is_err_and c.from_residual-in_err-answer.result c.from_residual-in_err-answer.ensures.1 in rw (p.1, p.2) (
    tells_answering c.args.source.now c.next_request.new.source c.args.writer.now c.answer.new.writer (g.M.Moments.failures c.args.moments.now) (g.M.Moments.failures c.ask.new.moments)
    c.in_ok-spans.ensures.reads.good c.in_ok-pending.ensures.good _ c.in_err-answer.ensures.err)

pub returns-clause-tells : goal.returns-clause-tells
returns-clause-tells g c =
    tells_good c.args.source.now _ c.args.writer.now c.answer.new.writer (g.M.Moments.failures c.args.moments.now) (g.M.Moments.failures c.ask.new.moments)
    c.in_ok-spans.ensures.reads.good c.in_ok-pending.ensures.good _ c.in_ok-answer.ensures.good
