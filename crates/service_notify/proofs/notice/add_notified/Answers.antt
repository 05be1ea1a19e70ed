use Rattle.std.proofs.Common.{ℕ, List, [], ◌∷◌, ◌++◌, ap, ◌∙◌, rules}
use Rattle.std.proofs.lemmas.Result.{on_ok_weaker}
use Rattle.service_notify.proofs.Notified.{told_first, told_more}
use Rattle.service_notify.specs.declared.notice.Notify.{Notify}
use Rattle.service_notify.proofs.notice.add_notified.Goals as goal

pub returns-in-Some : goal.returns-in-Some
returns-in-Some c =
    let s = c.args.sub.now in
    let old = c.in-Some.notify.now in
    let w : Notify = record { url = old.url; states = c.push.new.self } in
    on_ok_weaker c.push.result (λ pushed.
    told_more s c.text-url.result.now c.args.told.now (c.get_mut.follows.lender w) w c.text-url.ensures.same ((c.get_mut.follows.holds w).3 (search rules))
    old c.in-Some.ensures.value
    (ap (λ (sts : List (ℕ × ℕ)). record { url = old.url; states = sts }) (pushed ∙ ap (λ (i : ℕ). old.states ++ (s.id, i) ∷ []) c.number.ensures.number))) c.push.ensures

pub returns-in_ok-insert-in-None : goal.returns-in_ok-insert-in-None
returns-in_ok-insert-in-None c =
    let s = c.args.sub.now in
    let url = c.text-url.result.now in
    told_first s url c.args.told.now c.insert.new.self _ c.text-url.ensures.same (rw c.get_mut.follows.holds-at-none at c.in_ok-insert-in-None.ensures.updates)
    c.in-None.ensures.value
    (ap (λ (x : List ℕ). record { url = x; states = c.in_ok-states-in-None.states }) c.in_ok-clone-in-None.ensures
    ∙ (ap (λ (sts : List (ℕ × ℕ)). record { url = s.url; states = sts }) c.in_ok-states-in-None.ensures ∙ ap (λ (i : ℕ). record { url = s.url; states = (s.id, i) ∷ [] }) c.number.ensures.number))
