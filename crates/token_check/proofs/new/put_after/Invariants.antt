use Rattle.std.proofs.Common.{◌≡◌, ◌++◌, drop, map}
use Rattle.std.specs.String.{string_bytes}
use Rattle.token_check.specs.New.{list_after}
use Rattle.token_check.proofs.new.put_after.Given as goal

abbrev pub invariant-loop-name : goal.invariant-loop-name
invariant-loop-name l =
    string_bytes l.text ++ list_after (map (λ n. n.now) (drop l.name-index l.names))
    ≡ string_bytes l.initial.text ++ list_after (map (λ n. n.now) l.names)
