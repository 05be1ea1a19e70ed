use Rattle.std.proofs.Common.{◌≡◌, ◌∙◌, subst, sym, rules, arith, OnOk}
use Rattle.sqlite.specs.State.{HasCleanDisk}
use Rattle.sqlite.specs.Held.{state}
use Rattle.space_sql_schema.specs.declared.format.Format.TheVariants.{One}
use Rattle.space_sql_schema.specs.Making.{AreMadeFirst, SpellsEmptyAs}
use Rattle.space_sql_schema.proofs.Steps.{ok_map}
use Rattle.space_sql_schema.proofs.make.make_format_1.Goals as goal

pub returns-clause-done : goal.returns-clause-done
returns-clause-done g c =
    let old = c.args.conn.now in
    let last = c.make_all_first.new.tx.conn.now in
    let begun = c.transaction-tx.ensures.begun in
    let ran = λ (clean : HasCleanDisk (state g.S.Store last)). rw begun at (c.in_ok-make_all_first.ensures.leads.done clean) in
    let same : c.commit.new.self.0 ≡ c.conn-2-1.given.0 = search rules in
    subst (λ h. HasCleanDisk (state g.S.Store h) → OnOk c.commit.result (AreMadeFirst (state g.S.Store old) (state g.S.Store h))) same
    (λ clean. ok_map c.commit.result _ _ (c.commit.ensures.ok clean) (λ it.
    ((λ has. subst (SpellsEmptyAs One) (sym it.1.now_is) ((ran (omega (arith, c.commit.ensures.survives.clean))).0 (has, tt))), (it.1.is_open, it.1.committed_is ∙ sym it.1.now_is))))
