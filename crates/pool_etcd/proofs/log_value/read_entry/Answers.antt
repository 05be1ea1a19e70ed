use Rattle.std.proofs.Common.{◌≡◌, ◌+◌, ℕ, List, sym, ◌∙◌, subst, drop, arith}
use Rattle.std.proofs.lemmas.List.{take_all}
use Rattle.std.proofs.Common.{length-drop}
use Rattle.pool_etcd.specs.LogValue.{IsEntry}
use Rattle.pool_etcd.proofs.FirstLines.{entry_here, no_entry_behind, no_entry_in_line}
use Rattle.pool_etcd.proofs.log_value.read_entry.Goals as goal

pub returns-in_default : goal.returns-in_default
returns-in_default c = no_entry_in_line c.args.value.now c.in_default.ensures.none

pub returns-in_default-2 : goal.returns-in_default-2
returns-in_default-2 c =
    no_entry_behind c.args.value.now _ _ c.in-Some.ensures.some (rw c.in_default-2.is at c.in_ok-head.ensures)

pub returns : goal.returns
returns c =
    let head = c.in-Some-2.head in
    let rest : c.from_vec-2.result ≡ drop (c.in-Some.end + 1) c.args.value.now =
    c.from_vec-2.ensures ∙ c.in_ok-bytes.ensures.items
    ∙ take_all _ (drop (c.in-Some.end + 1) c.args.value.now) (omega (arith, length-drop (c.in-Some.end + 1) c.args.value.now)) in
    let here = entry_here c.args.value.now _ _ head.number head.link c.in-Some.ensures.some (rw c.in-Some-2.is at c.in_ok-head.ensures) in (
      c.from_vec.ensures ∙ c.in_ok-own.ensures.items,
      (
        head.number,
        subst (λ (bytes : List ℕ). IsEntry c.args.value.now head.number head.link bytes) (sym rest) here,
        c.in_ok-writer.ensures,
      ),
    )
