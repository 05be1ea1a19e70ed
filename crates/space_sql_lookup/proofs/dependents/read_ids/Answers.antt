use Rattle.std.proofs.Common.{◌≡◌, ◌∙◌, ◌+◌, [], List, ℕ, ℤ, arith, refl, subst, subst₂, sym, take, get_or, pos, to_z, of_z, w64, rules}
use Rattle.std.specs.List.{AllZip}
use Rattle.std.proofs.lemmas.List.{take_all, take_more}
use Rattle.sqlite.specs.Held.{state}
use Rattle.sqlite_exec.proofs.GroupLemmas.{AllZip-push}
use Rattle.space_sql_select.proofs.Readings.{reads_then, reads_as}
use Rattle.space_sql_lookup.specs.Dependents.{IsIdOf, FindsId, FindsIds}
use Rattle.space_sql_lookup.proofs.Still.{reads_still}
use Rattle.space_sql_lookup.proofs.dependents.read_ids.Goals as goal

pub loop-num-init : goal.loop-num-init
loop-num-init g c = record {
  same_reference = refl;
  so_far = reads_still (λ db _. FindsIds [] db c.new-ids.result.items) (state g.S.Store c.args.tx.now.conn.now) tt (λ db a s. subst (λ (l : List ℕ). AllZip (IsIdOf s.groups) [] l) (sym c.new-ids.ensures.items) tt);
}

pub loop-num-preserved : goal.loop-num-preserved
loop-num-preserved g c =
    let numbers = c.args.numbers.now in
    let n = c.loop-num.num-index in
    let num = get_or numbers n (pos 0) in
    let own : to_z w64 (of_z w64 num) ≡ num = search rules in
    let before = c.loop-num.ids.items in
    let after = c.push.new.self.items in
    let a = state g.S.Store c.args.tx.now.conn.now in
    let b = state g.S.Store c.loop-num.tx.conn.now in
    let d = state g.S.Store c.read_id.new.tx.conn.now in
    record {
      same_reference = c.read_id.ensures.same_reference ∙ c.loop-num.invariant.same_reference;
      so_far = reads_as _ (λ db _. FindsIds (take (n + 1) numbers) db after) a d _ tt
          (λ db h x s. subst₂ (λ (l : List ℤ) (m : List ℕ). AllZip (IsIdOf s.groups) l m) (sym (take_more numbers n (pos 0) (omega arith))) (sym c.in_ok-push.ensures.items)
          (AllZip-push (IsIdOf s.groups) (take n numbers) before num c.in_ok-id.id (h.0 x s) (h.1 x s)))
          (reads_then _ (FindsId num) a b d tt _ c.loop-num.invariant.so_far (rw own at c.in_ok-id.ensures.reads));
    }

pub returns-clause-reads : goal.returns-clause-reads
returns-clause-reads g c =
    let numbers = c.args.numbers.now in
    let ids = c.loop-num.ids.items in
    reads_as _ (λ db ids. FindsIds numbers db ids.items) (state g.S.Store c.args.tx.now.conn.now) (state g.S.Store c.loop-num.tx.conn.now) tt c.loop-num.ids
    (λ db h. subst (λ (l : List ℤ). FindsIds l db ids) (take_all c.loop-num.num-index numbers (omega arith)) h) c.loop-num.invariant.so_far
