use Rattle.std.proofs.Common.{◌≡◌, ◌++◌, map}
use Rattle.admin_airspace.specs.Cursor.{entities_past}
use Rattle.admin_airspace.proofs.page.first_entities.Given as goal

abbrev pub invariant-loop-entity : goal.invariant-loop-entity
invariant-loop-entity l = map (λ e. e.now) l.found.items ++ entities_past l.after l.entity-iterator
    ≡ entities_past l.after l.initial.entity-iterator
