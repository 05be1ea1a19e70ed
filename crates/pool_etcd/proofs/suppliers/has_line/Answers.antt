use Rattle.std.proofs.Common.{◌≡◌, ◌+◌, ◌-◌, ℕ, List, length, take, drop, sym, ◌∙◌, ap, arith, length-drop}
use Rattle.std.proofs.lemmas.List.{take_rest}
use Rattle.pool_etcd.specs.Suppliers.{has_line}
use Rattle.pool_etcd.proofs.ListLines.{first_line_has, first_line_lacks, last_line_decides}
use Rattle.pool_etcd.proofs.suppliers.has_line.Goals as goal

pub returns-then-is_line_of : goal.returns-then-is_line_of
returns-then-is_line_of c =
    sym (c.loop-end.invariant.same ∙ first_line_has c.loop-end.rest.now _ _ c.args.organization.now c.args.uss.now c.is_line_of.result c.in-Some.ensures.some c.is_line_of.ensures c.if-is_line_of.true)

pub loop-end-preserved : goal.loop-end-preserved
loop-end-preserved c =
    let rest = c.loop-end.rest.now in
    let n = c.in-Some.end + 1 in
    let left : take (length rest - n) (drop n rest) ≡ drop n rest = take_rest rest n in
    let same = c.loop-end.invariant.same ∙ first_line_lacks rest _ _ c.args.organization.now c.args.uss.now c.is_line_of.result c.in-Some.ensures.some c.is_line_of.ensures c.if-is_line_of.false in
    record {
      within = rw left (omega (arith, length-drop n rest, c.loop-end.invariant.within));
      same = same ∙ ap (λ (xs : List ℕ). has_line xs c.args.organization.now c.args.uss.now) (sym left);
    }

pub returns : goal.returns
returns c =
    last_line_decides c.loop-end.rest.now c.args.organization.now c.args.uss.now c.is_line_of-2.result c.in_default.ensures.none c.is_line_of-2.ensures ∙ sym c.loop-end.invariant.same
