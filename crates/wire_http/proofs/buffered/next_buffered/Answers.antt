use Rattle.std.proofs.Common.{[], take, arith}
use Rattle.wire_head.proofs.KindFinds.{kind_head}
use Rattle.wire_http.specs.declared.end.End.TheVariants as ends
use Rattle.wire_head.specs.declared.rule.WireRule.TheVariants as rules
use Rattle.wire_http.proofs.BufferedLaws.{front_short, front_is, held_bad, held_large, held_full, held_open, held_end, is_cut, is_large}
use Rattle.wire_http.proofs.buffered.next_buffered.Goals as goal

pub buffered_body-requires-clause-front : goal.buffered_body-requires-clause-front
buffered_body-requires-clause-front c = front_is c.args.bytes.now c.min.result c.min.ensures

pub returns-in-Head-clause-held : goal.returns-in-Head-clause-held
returns-in-Head-clause-held c =
    let e = front_is c.args.bytes.now c.min.result c.min.ensures in
    let found = kind_head (take c.min.result c.args.bytes.now) c.head_so_far.new.fields c.in-Head.spans [] (front_short c.args.bytes.now _ e) c.in-Head.ensures in
    c.buffered_body.ensures.held found.0 found.1 found.2

pub returns-in-Bad-clause-held : goal.returns-in-Bad-clause-held
returns-in-Bad-clause-held c =
    held_bad c.args.bytes.now (take c.min.result c.args.bytes.now) c.args.ended c.head_so_far.new.fields (front_is c.args.bytes.now c.min.result c.min.ensures) c.in-Bad.ensures

pub returns-in-Large-clause-held : goal.returns-in-Large-clause-held
returns-in-Large-clause-held c =
    held_large c.args.bytes.now (take c.min.result c.args.bytes.now) c.args.ended c.head_so_far.new.fields (front_is c.args.bytes.now c.min.result c.min.ensures) c.in-Large.ensures

pub returns-then-bytes-ge-HEAD_LIMIT-clause-held : goal.returns-then-bytes-ge-HEAD_LIMIT-clause-held
returns-then-bytes-ge-HEAD_LIMIT-clause-held c =
    held_full c.args.bytes.now (take c.min.result c.args.bytes.now) c.args.ended c.head_so_far.new.fields (front_is c.args.bytes.now c.min.result c.min.ensures)
    (omega (arith, c.if-bytes-ge-HEAD_LIMIT.true)) c.in-More.ensures

pub returns-then-not-ended-clause-held : goal.returns-then-not-ended-clause-held
returns-then-not-ended-clause-held c =
    held_open c.args.bytes.now (take c.min.result c.args.bytes.now) c.args.ended c.head_so_far.new.fields (front_is c.args.bytes.now c.min.result c.min.ensures)
    c.if-not-ended.true (omega (arith, c.if-bytes-ge-HEAD_LIMIT.false)) c.in-More.ensures

pub returns-in-Part-clause-held : goal.returns-in-Part-clause-held
returns-in-Part-clause-held c =
    held_end c.args.bytes.now (take c.min.result c.args.bytes.now) c.args.ended c.head_so_far.new.fields c.at_end.result ends.Cut (front_is c.args.bytes.now c.min.result c.min.ensures)
    c.if-not-ended.false (omega (arith, c.if-bytes-ge-HEAD_LIMIT.false)) c.in-More.ensures c.at_end.ensures (is_cut c.at_end.result c.in-Part.is)

pub returns-in-Large-at_end-clause-held : goal.returns-in-Large-at_end-clause-held
returns-in-Large-at_end-clause-held c =
    held_end c.args.bytes.now (take c.min.result c.args.bytes.now) c.args.ended c.head_so_far.new.fields c.at_end.result (ends.Wire rules.HeadSize) (front_is c.args.bytes.now c.min.result c.min.ensures)
    c.if-not-ended.false (omega (arith, c.if-bytes-ge-HEAD_LIMIT.false)) c.in-More.ensures c.at_end.ensures (is_large c.at_end.result c.in-Large-at_end.is)
