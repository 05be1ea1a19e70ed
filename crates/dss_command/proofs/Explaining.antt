-- How the command `explain` ends, by the body that it read and by the verdict on the request.
use Rattle.std.proofs.Common.{◌≡◌, ◌∙◌, ◌<◌, ◌≤◌, ◌+◌, ℕ, List, [], ◌++◌, Option, Some, None, length, take, min, ap, arith, refl, sym, subst}
use Rattle.std.proofs.lemmas.List.{length-take, take_all}
use Rattle.std.specs.Prelude.{IfSome, Result, Err, option_map}
use Rattle.policy_core.specs.declared.rule.Rule.{Rule}
use Rattle.wire_explain.specs.Verdict.{IsVerdict, rule_of}
use Rattle.wire_explain.specs.declared.verdict.Verdict.{Verdict}
use Rattle.dss_command.specs.Explain.{EndsExplain, EndsReading, IsJudgedBy, end_by}
use Rattle.dss_command.specs.Fault.{told_by}
use Rattle.dss_command.specs.declared.fault.Fault.{Fault}
use Rattle.dss_command.specs.declared.fault.Fault.TheVariants as fault
use Rattle.std.specs.declared.io.ErrorKind.{ErrorKind}
use Rattle.std.specs.declared.io.ErrorKind.TheVariants as kinds

module _ (most : ℕ) (body : List ℕ) where
  some_length : (rest : List ℕ) → body ≡ take (most + 1) rest → length body ≡ min (most + 1) (length rest)
  some_length rest same = ap length same ∙ length-take (most + 1) rest

  -- What was read is the front of what the reader had, as far as the limit.
  pub read_front : (limit : ℕ) (known remaining : Option (List ℕ)) (start : List ℕ) → limit ≡ most + 1 → known ≡ remaining → start ≡ [] → IfSome (option_map (λ xs. take limit xs) known) (λ xs. body ≡ start ++ xs) → IfSome (option_map (λ xs. take (most + 1) xs) remaining) (λ xs. body ≡ xs)
  read_front limit known remaining start at same new front =
      subst (λ (r : Option (List ℕ)). IfSome (option_map (λ xs. take (most + 1) xs) r) (λ xs. body ≡ xs)) same
      (subst (λ (n : ℕ). IfSome (option_map (λ xs. take n xs) known) (λ xs. body ≡ xs)) at
      (subst (λ (s : List ℕ). IfSome (option_map (λ xs. take limit xs) known) (λ xs. body ≡ s ++ xs)) new front))

  pub read_whole : (remaining : Option (List ℕ)) → IfSome (option_map (λ xs. take (most + 1) xs) remaining) (λ xs. body ≡ xs) → length body ≤ most → IfSome remaining (λ rest. body ≡ rest)
  read_whole None same short = tt
  read_whole (Some rest) same short = same ∙ take_all (most + 1) rest (omega (arith, some_length rest same, short))

  pub read_more : (remaining : Option (List ℕ)) → IfSome (option_map (λ xs. take (most + 1) xs) remaining) (λ xs. body ≡ xs) → most < length body → IfSome remaining (λ rest. most < length rest)
  read_more None same long = tt
  read_more (Some rest) same long = omega (arith, some_length rest same, long)

pub unread_ends : (remaining : Option (List ℕ)) (kind : ErrorKind) → EndsReading remaining (told_by kind fault.RequestsUnread)
unread_ends remaining kinds.OutOfMemory = tt
unread_ends remaining kind = tt

pub reading_ends : (path method : List ℕ) (remaining : Option (List ℕ)) (why : Fault) → EndsReading remaining why → EndsExplain path method remaining (Err why)
reading_ends path method remaining (fault.Request why) ends = absurd ends
reading_ends path method remaining why ends = ends

ends_as : (path method : List ℕ) (remaining : Option (List ℕ)) (why : Option Rule) → IfSome remaining (IsJudgedBy why path method) → EndsExplain path method remaining (end_by why)
ends_as path method remaining None h = h
ends_as path method remaining (Some why) h = h

judged : (path method body : List ℕ) (remaining : Option (List ℕ)) (verdict : Verdict) → IfSome remaining (λ rest. body ≡ rest) → IsVerdict path method body verdict → IfSome remaining (IsJudgedBy (rule_of verdict) path method)
judged path method body None verdict same is = tt
judged path method body (Some rest) verdict same is = (verdict, subst (λ (b : List ℕ). IsVerdict path method b verdict) same is, refl)

pub ends_by : (path method body : List ℕ) (remaining : Option (List ℕ)) (verdict : Verdict) (result : Result (Unit {0}) Fault) → IfSome remaining (λ rest. body ≡ rest) → IsVerdict path method body verdict → result ≡ end_by (rule_of verdict) → EndsExplain path method remaining result
ends_by path method body remaining verdict result same is ends =
    subst (λ (r : Result (Unit {0}) Fault). EndsExplain path method remaining r) (sym ends) (ends_as path method remaining (rule_of verdict) (judged path method body remaining verdict same is))
