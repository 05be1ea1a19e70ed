use Rattle.std.proofs.Common.{◌≡◌, [], ap, sym, ◌∙◌, append-nil}
use Rattle.std.proofs.lemmas.List.{nil_from_length}
use Rattle.std.specs.Vec.Iter.{into_iter_items}
use Rattle.service_step.proofs.Visible.{owed_of, owed_there, present_of, present_there}
use Rattle.service_step.specs.Needed.{manager_has}
use Rattle.std.specs.Prelude.{map}
use Rattle.service_step.proofs.needed.unspared.Goals as goal

pub returns-clause-needed : goal.returns-clause-needed
returns-clause-needed c = λ a es is.
    let none : into_iter_items c.loop-found.found-iterator ≡ [] = nil_from_length (into_iter_items c.loop-found.found-iterator) (sym c.loop-found.invariant.left ∙ c.in-None.ensures.steps.0) in
    let all : c.loop-found.entities.items ≡ owed_of c.args.met.items = sym (append-nil c.loop-found.entities.items) ∙ rw none at c.loop-found.invariant.so_far in
    let present : c.loop-found.availabilities.items ≡ present_of c.args.met.items = sym (append-nil c.loop-found.availabilities.items) ∙ rw none at c.loop-found.invariant.present in
    let needed = all ∙ (ap owed_of is ∙ owed_there a es) in (
      needed,
      present ∙ (ap present_of is ∙ (present_there a es ∙ ap (map (manager_has a)) (sym needed))),
    )
