use Rattle.std.proofs.Common.{◌≡◌, ◌∙◌, ◌+◌, [], List, ℤ, arith, refl, subst, sym, take, get_or, pos, to_z, of_z, w64, rules}
use Rattle.std.proofs.lemmas.List.{take_all, take_more}
use Rattle.sqlite.specs.Held.{state}
use Rattle.space_sql_select.proofs.Readings.{reads_then, reads_as}
use Rattle.space_sql_lookup.proofs.Still.{reads_still}
use Rattle.space_sql_search.proofs.candidates.read_all.Goals as goal

pub loop-num-init : goal.loop-num-init
loop-num-init g c = record {
  same_reference = refl;
  so_far = reads_still (λ db _. g.C.Candidates.holds [] db c.none-found.result) (state g.S.Store c.args.tx.now.conn.now) tt c.none-found.ensures;
}

pub loop-num-preserved : goal.loop-num-preserved
loop-num-preserved g c =
    let numbers = c.args.numbers.now in
    let n = c.loop-num.num-index in
    let num = get_or numbers n (pos 0) in
    let own : to_z w64 (of_z w64 num) ≡ num = search rules in
    let after = c.add.new.self in
    let a = state g.S.Store c.args.tx.now.conn.now in
    let b = state g.S.Store c.loop-num.tx.conn.now in
    let d = state g.S.Store c.add.new.tx.conn.now in
    record {
      same_reference = c.add.ensures.same_reference ∙ c.loop-num.invariant.same_reference;
      so_far = reads_as _ (λ db _. g.C.Candidates.holds (take (n + 1) numbers) db after) a d _ tt
          (λ db h. subst (λ (l : List ℤ). g.C.Candidates.holds l db after) (sym (take_more numbers n (pos 0) (omega arith))) (h.1 (take n numbers) h.0))
          (reads_then _ _ a b d tt _ c.loop-num.invariant.so_far (rw own at c.in_ok-add.ensures.adds));
    }

pub returns-clause-reads : goal.returns-clause-reads
returns-clause-reads g c =
    let numbers = c.args.numbers.now in
    let found = c.loop-num.found in
    reads_as _ (g.C.Candidates.holds numbers) (state g.S.Store c.args.tx.now.conn.now) (state g.S.Store c.loop-num.tx.conn.now) tt found
    (λ db h. subst (λ (l : List ℤ). g.C.Candidates.holds l db found) (take_all c.loop-num.num-index numbers (omega arith)) h) c.loop-num.invariant.so_far
