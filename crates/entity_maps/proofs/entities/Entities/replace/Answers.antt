use Rattle.std.proofs.Common.{◌≡◌, ℕ, Some, IfOk, OnOk, sym, ap, ◌∙◌, subst}
use Rattle.std.specs.Prelude.{cond}
use Rattle.std.specs.BTreeMap as tree
use Rattle.std.specs.BTreeMap.{is_at}
use Rattle.std.specs.FinMap.{get, insert}
use Rattle.entity_core.specs.Airspace.{key_of}
use Rattle.entity_maps.specs.Entities.{entity_map}
use Rattle.entity_maps.proofs.EntityTrees.{get_in, keyed_after, number_cmp, put_map}
use Rattle.entity_maps.proofs.entities.Entities.replace.Goals as goal
use Rattle.entity_maps.proofs.entities.Entities.replace.Goals.{in-Ok, in-Err}

pub invariant_of-self : goal.invariant_of-self
invariant_of-self c = keyed_after c.insert.result c.self.inside.tree.entries c.insert.new.self.entries c.args.entity c.own_key.result c.own_key.ensures c.self.invariant c.insert.ensures.entries c.insert.ensures.err

pub returns-clause-was : goal.returns-clause-was
returns-clause-was c = elim c.match-insert.branch [
  | in-Ok w ↦ subst (λ r. IfOk r (λ was. was ≡ get (entity_map c.args.self.now) (key_of c.args.entity))) (sym w.result-is) (
      w.in-Ok.ensures.old
      ∙ (ap (λ (k : ℕ × ℕ). tree.get number_cmp c.self.inside.tree k) c.own_key.ensures
      ∙ get_in c.self.inside.tree c.args.self.now (key_of c.args.entity) c.self.view_is c.self.invariant))
  | in-Err w ↦ subst (λ r. IfOk r (λ was. was ≡ get (entity_map c.args.self.now) (key_of c.args.entity))) (sym w.result-is) tt
]

pub returns-clause-ok : goal.returns-clause-ok
returns-clause-ok c =
    let keyed = keyed_after c.insert.result c.self.inside.tree.entries c.insert.new.self.entries c.args.entity c.own_key.result c.own_key.ensures c.self.invariant c.insert.ensures.entries c.insert.ensures.err in
    let put = put_map c.self.inside.tree c.insert.new.self c.args.self.now c.self.view_is c.self.invariant keyed c.args.entity in
    elim c.match-insert.branch [
      | in-Ok w ↦ subst (λ r. OnOk r (entity_map (tree.values c.insert.new.self) ≡ insert (entity_map c.args.self.now) (key_of c.args.entity) c.args.entity)) (sym w.result-is) (
          put (λ q. w.in-Ok.ensures.updates.0 q ∙ ap (λ (k : ℕ × ℕ). cond (is_at (number_cmp k) q) (Some c.args.entity) (tree.get number_cmp c.self.inside.tree q)) c.own_key.ensures))
      | in-Err w ↦ subst (λ r. OnOk r (entity_map (tree.values c.insert.new.self) ≡ insert (entity_map c.args.self.now) (key_of c.args.entity) c.args.entity)) (sym w.result-is) tt
    ]
