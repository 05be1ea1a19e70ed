use Rattle.std.proofs.Common.{◌≡◌, ◌+◌, ◌++◌, [], ◌∷◌, ◌∙◌, take, arith, ap, sym, subst, refl}
use Rattle.std.proofs.lemmas.List.{take_more, take_all}
use Rattle.sqlite.specs.Held.{state}
use Rattle.space_sql_open.specs.Relaying.{HasListed, Puts}
use Rattle.space_sql_open.proofs.Relays.{carries_as, carries_none, carries_then}
use Rattle.space_sql_open.proofs.reinserting.reinsert_all.Goals as goal

pub loop-row-init : goal.loop-row-init
loop-row-init g c =
    let a = state g.S.Store c.args.tx.now.conn.now in
    record {
      same_reference = refl;
      so_far = carries_none (Puts (g.R.Reinserted.join [])) a tt (λ four l has. subst (λ k. HasListed four k a.now) (sym (g.met.R.Reinserted.none l)) has);
    }

pub loop-row-preserved : goal.loop-row-preserved
loop-row-preserved g c =
    let rows = c.args.rows.now in
    let i = c.loop-row.row-index in
    let a = state g.S.Store c.args.tx.now.conn.now in
    let b = state g.S.Store c.loop-row.tx.conn.now in
    let d = state g.S.Store c.reinsert.new.tx.conn.now in
    let row = c.row-item.result in
    let all : take i rows ++ row ∷ [] ≡ take (i + 1) rows = sym (take_more rows i row (omega arith) ∙ ap (λ x. take i rows ++ x ∷ []) (sym c.row-item.is)) in
    record {
      same_reference = c.reinsert.ensures.same_reference ∙ c.loop-row.invariant.same_reference;
      so_far = carries_then (Puts (g.R.Reinserted.join (take i rows))) (Puts (g.R.Reinserted.join (row ∷ []))) (Puts (g.R.Reinserted.join (take (i + 1) rows))) a b d tt _ tt
          (λ h next four l has. subst (λ rs. HasListed four (g.R.Reinserted.join rs l) d.now) all (subst (λ k. HasListed four k d.now) (g.met.R.Reinserted.more (take i rows) row l) (next four (g.R.Reinserted.join (take i rows) l) (h four l has)))) c.loop-row.invariant.so_far c.in_ok-reinsert.ensures.puts;
    }

pub returns-clause-puts : goal.returns-clause-puts
returns-clause-puts g c =
    let rows = c.args.rows.now in
    let a = state g.S.Store c.args.tx.now.conn.now in
    let b = state g.S.Store c.loop-row.tx.conn.now in
    let all = take_all c.loop-row.row-index rows (omega arith) in
    carries_as (Puts (g.R.Reinserted.join (take c.loop-row.row-index rows))) (Puts (g.R.Reinserted.join rows)) a b tt tt (λ h. subst (λ rs. Puts (g.R.Reinserted.join rs) a.now b.now) all h) c.loop-row.invariant.so_far
