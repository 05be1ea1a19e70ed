use Rattle.std.proofs.Common.{◌∙◌, sym, ap, Some}
use Rattle.serde_json.specs.View.{view}
use Rattle.wire_body.proofs.Lengths.{no_key, a_key}
use Rattle.wire_body.proofs.put.key_in.Goals as goal

pub returns-then-items-gt4096 : goal.returns-then-items-gt4096
returns-then-items-gt4096 c =
    no_key (view c.args.value.now) c.in-Some.items.now.items c.as_slice-items.result.now c.in-Some.ensures c.as_slice-items.ensures.value c.if-items-gt4096.true

pub returns : goal.returns
returns c =
    a_key (view c.args.value.now) c.in-Some.items.now.items c.as_slice-items.result.now c.in_ok-ovns.ovns.items c.in-Some.ensures
    c.as_slice-items.ensures.value c.if-items-gt4096.false c.in_ok-ovns.ensures
    ∙ ap (λ v. Some v) (sym c.from_vec.ensures)
