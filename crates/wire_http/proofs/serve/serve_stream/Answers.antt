use Rattle.std.proofs.Common.{◌≡◌, ◌∙◌, ◌-◌, suc, arith, rules}
use Rattle.std.proofs.lemmas.Grind.{common_steps}
use Rattle.std.proofs.lemmas.Result.{err_from_is_err_and}
use Rattle.service_calls.proofs.Runs.{stays_same, stays_then}
use Rattle.token_conf.specs.TokenFile.{callers_of}
use Rattle.wire_http.specs.Count.{max_requests}
use Rattle.wire_http.specs.Source.{bytes_of}
use Rattle.wire_http.proofs.StreamLaws.{goes_init, goes_more, goes_stop, goes_close, goes_part}
use Rattle.wire_http.proofs.TurnLaws.{go_on_at, ok_told}
use Rattle.wire_http.proofs.serve.serve_stream.Goals as goal

pub serving-init : goal.serving-init
serving-init g c = record {
  goes = goes_init g.S.Space g.M.Moments.gives (callers_of c.args.tokens.now)
      _ c.new-buffer.result.items max_requests c.args.service.now c.args.moments.now _ c.new-buffer.ensures.items;
  bounded = search rules;
  turns = search rules;
  reader = search rules;
  good_reader = search rules;
  good_writer = search rules;
  good_clock = search rules;
  rises = omega arith;
  stays = stays_same g.S.Space c.args.service.now;
}

pub returns-in_err-then-clause-part : goal.returns-in_err-then-clause-part
returns-in_err-then-clause-part g c =
    let p = err_from_is_err_and c.from_residual.result c.from_residual.ensures.1 in
    let inv = c.serving.invariant in
    let some : c.serving.left ≡ suc (c.serving.left - 1) = omega (arith, c.serving-test.true) in
    rw (p.1, p.2) (
    goes_part g.S.Space g.M.Moments.gives (callers_of c.args.tokens.now)
    _ _ (bytes_of c.serving.source) max_requests c.args.service.now c.serving.service c.serve_one.new.service c.args.moments.now c.serving.moments c.serve_one.new.moments
    _ _ _ c.serving.left (c.serving.left - 1) c.serving.count _
    inv.goes some c.in_err-then.ensures.part)

pub serving-preserved : goal.serving-preserved
serving-preserved g c =
    let inv = c.serving.invariant in
    let some : c.serving.left ≡ suc (c.serving.left - 1) = omega (arith, c.serving-test.true) in
    let on = go_on_at c.serving.left c.in_ok-then.field-0 c.in-Answered.then c.in-Answered.is c.in_ok-then.ensures.goes_on in
    record {
      goes = goes_more g.S.Space g.M.Moments.gives (callers_of c.args.tokens.now)
          _ _ _ (bytes_of c.serving.source) (bytes_of c.serve_one.new.source) max_requests c.args.service.now c.serving.service c.serve_one.new.service c.args.moments.now c.serving.moments c.serve_one.new.moments
          _ _ _ c.serving.left (c.serving.left - 1) c.serving.count c.in-Answered.then c.in_ok-then.field-0
          inv.goes some c.in-Answered.is c.in_ok-then.ensures.turn;
      bounded = omega (arith, inv.bounded, on);
      turns = grind (arith, common_steps);
      reader = c.serve_one.ensures.spends.reader ∙ inv.reader;
      good_reader = ok_told c.in_ok-then.field-0 _ _ c.in_ok-then.ensures.tells.good_reader ∙ inv.good_reader;
      good_writer = ok_told c.in_ok-then.field-0 _ _ c.in_ok-then.ensures.tells.good_writer ∙ inv.good_writer;
      good_clock = ok_told c.in_ok-then.field-0 _ _ c.in_ok-then.ensures.tells.good_clock ∙ inv.good_clock;
      rises = omega (arith, inv.rises, c.serve_one.ensures.rises);
      stays = stays_then g.S.Space c.args.service.now c.serving.service c.serve_one.new.service inv.stays c.serve_one.ensures.stays;
    }

pub returns-in-Ended-clause-serves : goal.returns-in-Ended-clause-serves
returns-in-Ended-clause-serves g c =
    let inv = c.serving.invariant in
    let some : c.serving.left ≡ suc (c.serving.left - 1) = omega (arith, c.serving-test.true) in
    goes_stop g.S.Space g.M.Moments.gives (callers_of c.args.tokens.now)
    _ _ _ (bytes_of c.serving.source) (bytes_of c.serve_one.new.source) max_requests c.args.service.now c.serving.service c.serve_one.new.service c.args.moments.now c.serving.moments c.serve_one.new.moments
    _ _ _ c.serving.left (c.serving.left - 1) c.serving.count c.in-Ended.end c.in_ok-then.field-0
    inv.goes some c.in-Ended.is c.in_ok-then.ensures.turn

pub returns-clause-serves : goal.returns-clause-serves
returns-clause-serves g c =
    goes_close g.S.Space g.M.Moments.gives (callers_of c.args.tokens.now)
    _ _ (bytes_of c.serving.source) max_requests c.args.service.now c.serving.service c.args.moments.now c.serving.moments _ _ c.serving.left c.serving.count
    c.serving.invariant.goes (omega (arith, c.serving-test.false))

pub returns-in_err-then-clause-stays : goal.returns-in_err-then-clause-stays
returns-in_err-then-clause-stays g c = stays_then g.S.Space c.args.service.now c.serving.service c.serve_one.new.service c.serving.invariant.stays c.in_err-then.ensures.stays

pub returns-in-Ended-clause-stays : goal.returns-in-Ended-clause-stays
returns-in-Ended-clause-stays g c = stays_then g.S.Space c.args.service.now c.serving.service c.serve_one.new.service c.serving.invariant.stays c.in_ok-then.ensures.stays
