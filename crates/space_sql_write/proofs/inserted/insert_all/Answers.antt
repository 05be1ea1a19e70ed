use Rattle.std.proofs.Common.{◌≡◌, ◌+◌, ◌++◌, [], ◌∷◌, ◌∙◌, take, arith, ap, sym, subst, refl}
use Rattle.std.proofs.lemmas.List.{take_more, take_all}
use Rattle.sqlite.specs.Held.{state}
use Rattle.space_sql_write.specs.Layout.{Always, LaysOut, Relays}
use Rattle.space_sql_write.proofs.Running.{runs_then, runs_as_well, runs_none}
use Rattle.space_sql_write.proofs.inserted.insert_all.Goals as goal

pub loop-row-init : goal.loop-row-init
loop-row-init g c =
    let a = state g.S.Store c.args.tx.now.conn.now in
    record {
      same_reference = refl;
      so_far = runs_none (λ (_ : Unit {0}). Relays Always (g.R.Inserted.join [])) a tt (λ l any has. subst (LaysOut a.now) (sym (g.met.R.Inserted.none l)) has);
    }

pub loop-row-preserved : goal.loop-row-preserved
loop-row-preserved g c =
    let rows = c.args.rows.now in
    let i = c.loop-row.row-index in
    let a = state g.S.Store c.args.tx.now.conn.now in
    let b = state g.S.Store c.loop-row.tx.conn.now in
    let d = state g.S.Store c.insert.new.tx.conn.now in
    let row = c.row-item.result in
    let all : take i rows ++ row ∷ [] ≡ take (i + 1) rows = sym (take_more rows i row (omega arith) ∙ ap (λ x. take i rows ++ x ∷ []) (sym c.row-item.is)) in
    record {
      same_reference = c.insert.ensures.same_reference ∙ c.loop-row.invariant.same_reference;
      so_far = runs_then _ _ (λ _. Relays Always (g.R.Inserted.join (take (i + 1) rows))) a b d tt _ tt
          (λ h next l any has. subst (λ rs. LaysOut d.now (g.R.Inserted.join rs l)) all (subst (LaysOut d.now) (g.met.R.Inserted.more (take i rows) row l) (next _ tt (h l tt has)))) c.loop-row.invariant.so_far c.in_ok-insert.ensures.inserts;
    }

pub returns-clause-inserts : goal.returns-clause-inserts
returns-clause-inserts g c =
    let rows = c.args.rows.now in
    let a = state g.S.Store c.args.tx.now.conn.now in
    let b = state g.S.Store c.loop-row.tx.conn.now in
    let all = take_all c.loop-row.row-index rows (omega arith) in
    runs_as_well _ (λ _. Relays Always (g.R.Inserted.join rows)) a b tt tt (λ h. subst (λ rs. Relays Always (g.R.Inserted.join rs) a.now b.now) all h) c.loop-row.invariant.so_far
