use Rattle.std.proofs.Common.{◌≡◌, List, [], ◌∷◌, ◌++◌, map, refl, sym, ap, ◌∙◌, length, arith}
use Rattle.std.proofs.lemmas.List.{nil_from_length}
use Rattle.std.specs.Vec.Iter.{into_iter_items}
use Rattle.sqlite.specs.Held.{state}
use Rattle.space_core.specs.declared.met.Met.{Met}
use Rattle.space_core.specs.Met.{met_of}
use Rattle.space_sql_select.proofs.Readings.{reads_then, reads_as}
use Rattle.space_sql_search.specs.Met.{AreWithAvailabilities, IsWithAvailability}
use Rattle.space_sql_lookup.proofs.Still.{reads_still}
use Rattle.space_sql_search.proofs.MetLists.{MakesAll, made_more, made_all}
use Rattle.space_sql_search.proofs.managers.with_availabilities.Goals as goal

pub loop-entity-init : goal.loop-entity-init
loop-entity-init g c =
    let all = c.args.entities.items in
    let given = c.into_iter-entity-iterator.ensures.into_iter_gives in
    record {
      same_reference = refl;
      so_far = reads_still (λ db _. MakesAll all c.in_ok-met.met.items (into_iter_items c.into_iter-entity-iterator.result) db) (state g.S.Store c.args.tx.now.conn.now) tt (λ db a s.
          ap (λ (ys : List Met). ys ++ map (met_of a) (into_iter_items c.into_iter-entity-iterator.result)) c.in_ok-met.ensures.items ∙ ap (map (met_of a)) given.0);
      left = given.1 ∙ (c.args.entities.ok.0 ∙ sym (ap length given.0));
    }

pub loop-entity-preserved : goal.loop-entity-preserved
loop-entity-preserved g c =
    let all = c.args.entities.items in
    let a = state g.S.Store c.args.tx.now.conn.now in
    let b = state g.S.Store c.loop-entity.tx.conn.now in
    let d = state g.S.Store c.with_availability.new.tx.conn.now in
    let e = c.in-Some.entity in
    let left = into_iter_items c.loop-entity.entity-iterator in
    let rest = into_iter_items c.next.new.self in
    let steps : left ≡ e ∷ rest = c.in-Some.ensures.steps.0 in
    record {
      same_reference = c.with_availability.ensures.same_reference ∙ c.loop-entity.invariant.same_reference;
      so_far = reads_as _ (λ db _. MakesAll all c.push.new.self.items rest db) a d _ tt
          (λ db h. made_more all left rest e c.loop-entity.met.items c.push.new.self.items c.in_ok-found.found db steps c.in_ok-push.ensures.items h.0 h.1)
          (reads_then _ (IsWithAvailability e) a b d tt _ c.loop-entity.invariant.so_far c.in_ok-found.ensures.reads);
      left = let was = c.loop-entity.invariant.left in let gone = c.in-Some.ensures.steps.1 in let short = ap length steps in omega arith;
    }

pub returns-clause-reads : goal.returns-clause-reads
returns-clause-reads g c =
    let all = c.args.entities.items in
    let left = into_iter_items c.loop-entity.entity-iterator in
    let none : left ≡ [] = nil_from_length left (sym c.loop-entity.invariant.left ∙ c.in-None.ensures.steps.0) in
    reads_as _ (λ db met. AreWithAvailabilities all db met.items) (state g.S.Store c.args.tx.now.conn.now) (state g.S.Store c.loop-entity.tx.conn.now) tt c.loop-entity.met
    (λ db h. made_all all left c.loop-entity.met.items db none h) c.loop-entity.invariant.so_far
