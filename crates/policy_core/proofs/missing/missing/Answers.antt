use Rattle.std.proofs.Common.{append-nil, ◌∙◌, sym, ap, ◌++◌, ◌∷◌, [], List, ℕ, Bool, cond, not, take, get_or}
use Rattle.std.proofs.lemmas.List.Sorted.{list_any-IsPermutation}
use Rattle.entity_core.specs.IdTexts.{same_text}
use Rattle.policy_core.specs.Missing.{is_missing_from, places_where}
use Rattle.policy_core.proofs.Places.{places_more}
use Rattle.policy_core.proofs.missing.missing.Goals as goal
use Rattle.policy_core.proofs.missing.missing.Goals.{then-not-has+in_ok-push, else-not-has}

pub loop-place-preserved : goal.loop-place-preserved
loop-place-preserved c =
    let more = places_more (is_missing_from c.args.key.now) c.args.needed.now c.loop-place.place c.index-needed-place.result c.loop-place-test.true in
    let same = list_any-IsPermutation (same_text (get_or c.args.needed.now c.loop-place.place c.index-needed-place.result).ovn) c.args.key.now c.in_ok-index.index c.in_ok-index.ensures in
    let next = λ (b : Bool). places_where (is_missing_from c.args.key.now) (take c.loop-place.place c.args.needed.now) ++ cond (not b) (c.loop-place.place ∷ []) [] in
    elim c.if-not-has.branch [
      | then-not-has+in_ok-push w ↦ rw w.places-is (w.in_ok-push.ensures.items ∙ (ap (λ (zs : List ℕ). zs ++ c.loop-place.place ∷ []) c.loop-place.invariant ∙ sym (more ∙ ap next (same ∙ sym w.if-not-has.ensures))))
      | else-not-has w ↦ rw w.places-is (c.loop-place.invariant ∙ (sym (append-nil _) ∙ sym (more ∙ ap next (same ∙ sym w.if-not-has.ensures))))
    ]
