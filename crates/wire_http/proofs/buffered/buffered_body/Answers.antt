use Rattle.std.proofs.Common.{arith, sym}
use Rattle.wire_http.proofs.BufferedLaws.{front_fits, held_refused, held_taken, held_cut, held_more, held_fits, most_wanted}
use Rattle.wire_http.proofs.buffered.buffered_body.Goals as goal

pub overflow_sub-bytes : goal.overflow_sub-bytes
overflow_sub-bytes c = omega (arith, c.requires.within.section.len_fits, front_fits c.args.bytes.now c.args.front.now c.requires.front)

pub overflow_add-result : goal.overflow_add-result
overflow_add-result c = omega (arith, most_wanted c.args.bytes.now c.args.front.now c.args.fields.now c.args.spans c.in-Ok.size c.requires.front c.requires.within (sym c.in-Ok.ensures))

pub returns-in-Err-clause-held : goal.returns-in-Err-clause-held
returns-in-Err-clause-held c = λ h x covers.
    held_refused c.args.bytes.now c.args.front.now c.args.ended c.args.fields.now c.args.spans c.in-Err.rule c.requires.front (sym c.in-Err.ensures) h x covers

pub returns-then-bytes-spans-clause-held : goal.returns-then-bytes-spans-clause-held
returns-then-bytes-spans-clause-held c = λ h x covers.
    held_taken c.args.bytes.now c.args.front.now c.args.ended c.args.fields.now c.args.spans c.in-Ok.size c.requires.front c.requires.within
    (omega (arith, c.if-bytes-spans.true, c.requires.within.section.len_fits, front_fits c.args.bytes.now c.args.front.now c.requires.front))
    (sym c.in-Ok.ensures) h x covers

pub returns-then-bytes-spans-clause-fits : goal.returns-then-bytes-spans-clause-fits
returns-then-bytes-spans-clause-fits c =
    held_fits c.args.bytes.now c.args.front.now c.args.fields.now c.args.spans c.in-Ok.size c.requires.front c.requires.within c.requires.text
    (omega (arith, c.if-bytes-spans.true, c.requires.within.section.len_fits, front_fits c.args.bytes.now c.args.front.now c.requires.front))

pub returns-then-ended-clause-held : goal.returns-then-ended-clause-held
returns-then-ended-clause-held c = λ h x covers.
    held_cut c.args.bytes.now c.args.front.now c.args.ended c.args.fields.now c.args.spans c.in-Ok.size c.requires.front c.if-ended.true
    (omega (arith, c.if-bytes-spans.false, c.requires.within.section.len_fits, front_fits c.args.bytes.now c.args.front.now c.requires.front))
    (sym c.in-Ok.ensures) h x covers

pub returns-else-ended-clause-held : goal.returns-else-ended-clause-held
returns-else-ended-clause-held c = λ h x covers.
    held_more c.args.bytes.now c.args.front.now c.args.ended c.args.fields.now c.args.spans c.in-Ok.size c.requires.front c.if-ended.false c.requires.within
    (omega (arith, c.if-bytes-spans.false, c.requires.within.section.len_fits, front_fits c.args.bytes.now c.args.front.now c.requires.front))
    (sym c.in-Ok.ensures) h x covers
