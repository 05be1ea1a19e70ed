use Rattle.std.proofs.Common.{◌∙◌, ℕ, List, [], ◌∷◌, ◌++◌, ap, inl, inr}
use Rattle.server_backend.specs.declared.outcome.Outcome.{Outcome}
use Rattle.pool_backend.proofs.pool.PoolInstance.give.Goals as goal

pub returns-then-not-remove-clause-outcomes : goal.returns-then-not-remove-clause-outcomes
returns-then-not-remove-clause-outcomes g c = inl c.remove.ensures.given

pub returns-clause-outcomes : goal.returns-clause-outcomes
returns-clause-outcomes g c = inr (c.put.ensures ∙ ap (λ (v : List (ℕ × Outcome)). v ++ (c.args.ticket, c.args.outcome) ∷ []) c.remove.ensures.given)
