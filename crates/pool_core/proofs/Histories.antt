-- Lemmas: histories of a log.
use Rattle.std.proofs.Common.{◌≡◌, List, [], ◌++◌, Option, Some, None, refl, sym, ap, ◌∙◌, append_assoc}
use Rattle.std.specs.Prelude.{option_map}
use Rattle.std.proofs.lemmas.List.{append-nil}
use Rattle.pool_core.specs.Log.{Continues, LogEvent}

continued : (p : Option (List LogEvent)) (xs ys : List LogEvent) → option_map (λ all. all ++ ys) (option_map (λ all. all ++ xs) p) ≡ option_map (λ all. all ++ (xs ++ ys)) p
continued None xs ys = refl
continued (Some p) xs ys = ap (λ v. Some v) (append_assoc p xs ys)

pub continues_then : (past old new : Option (List LogEvent)) (xs ys : List LogEvent) → Continues past old xs → Continues old new ys → Continues past new (xs ++ ys)
continues_then past old new xs ys h k = k ∙ ap (λ v. option_map (λ all. all ++ ys) v) h ∙ continued past xs ys

continued_same : (p : Option (List LogEvent)) → option_map (λ all. all ++ []) p ≡ p
continued_same None = refl
continued_same (Some p) = ap (λ v. Some v) (append-nil p)

pub continues_same : (old new : Option (List LogEvent)) → new ≡ old → Continues old new []
continues_same old new h = h ∙ sym (continued_same old)
