use Rattle.std.proofs.Common.{◌≡◌, ◌++◌, map}
use Rattle.admin_airspace.specs.Cursor.{subs_past}
use Rattle.admin_airspace.proofs.page.first_subs.Given as goal

abbrev pub invariant-loop-sub : goal.invariant-loop-sub
invariant-loop-sub l = map (λ s. s.now) l.found.items ++ subs_past l.after l.sub-iterator
    ≡ subs_past l.after l.initial.sub-iterator
