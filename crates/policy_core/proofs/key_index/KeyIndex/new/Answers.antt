use Rattle.std.proofs.Common.{rules, ◌∙◌, subst, List, ℕ, Ok, map}
use Rattle.std.specs.List.Sorted.{IsPermutation}
use Rattle.std.specs.declared.alloc.AllocError.{AllocError}
use Rattle.std.proofs.lemmas.List.{map-id}
use Rattle.std.proofs.lemmas.List.Sorted.{IsPermutation-map}
use Rattle.std.proofs.lemmas.Iterator.{YieldsList-from_map_by, YieldsList-from_slice}
use Rattle.std.proofs.lemmas.Iterator.Consumers.{map_from_collect}
use Rattle.policy_core.proofs.key_index.KeyIndex.new.Goals as goal

pub returns : goal.returns
returns c =
    let road = YieldsList-from_map_by _ (λ t. t.now) (λ o. o) (YieldsList-from_slice c.args.key.now cc) c.map.ensures.closure (λ x r q k. search rules) in
    let read = map_from_collect {E = AllocError} (Ok c.in_ok-texts.texts) c.in_ok-texts.ensures.ran road in
    subst (λ (key : List (List ℕ)). IsPermutation key (map (λ t. t.now) c.sort_unstable.new.self.items)) (read ∙ map-id c.args.key.now)
    (IsPermutation-map (λ t. t.now) c.in_ok-texts.texts.items c.sort_unstable.new.self.items c.sort_unstable.ensures.permutation)
