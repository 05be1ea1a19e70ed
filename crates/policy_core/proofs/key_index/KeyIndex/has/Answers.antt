use Rattle.std.proofs.Common.{sym, ap, subst, ◌∙◌, List, ℕ, map, Bor}
use Rattle.std.specs.Ordering.{nat_cmp}
use Rattle.std.specs.Cmp.Lexicographic.{slice_cmp}
use Rattle.std.specs.List.Sorted.{IsSorted}
use Rattle.policy_core.specs.Missing.{in_key}
use Rattle.policy_core.proofs.Index.{searched}
use Rattle.policy_core.proofs.key_index.KeyIndex.has.Goals as goal

pub returns : goal.returns
returns c =
    let up = subst (λ (ts : List (Bor (List ℕ))). IsSorted (λ x y. slice_cmp nat_cmp x.now y.now) ts) (sym c.deref.ensures.value) c.self.invariant in
    c.is_ok.ensures.value
    ∙ (searched c.deref.result.now c.text.result c.binary_search.result up c.binary_search.ensures.bound c.binary_search.ensures.position
    ∙ (ap (λ (ts : List (Bor (List ℕ))). in_key (map (λ t. t.now) ts) c.text.result.now) c.deref.ensures.value
    ∙ (ap (λ (key : List (List ℕ)). in_key key c.text.result.now) c.self.view_is
    ∙ ap (in_key c.args.self.now) c.text.ensures.same)))
