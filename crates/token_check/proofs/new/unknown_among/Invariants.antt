use Rattle.std.proofs.Common.{◌≡◌, drop, map}
use Rattle.std.specs.List.{list_all}
use Rattle.token_check.specs.Warnings.{is_scope}
use Rattle.token_check.proofs.new.unknown_among.Given as goal

abbrev pub invariant-loop-name : goal.invariant-loop-name
invariant-loop-name l =
    list_all is_scope (map (λ n. n.now) (drop l.name-index l.names)) ≡ list_all is_scope (map (λ n. n.now) l.names)
