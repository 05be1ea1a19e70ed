-- Lemmas: the replies to requests, one after the other.
use Rattle.std.proofs.Common.{◌≡◌, ◌∙◌, ℕ, List, [], ◌∷◌, ◌++◌, map, Option, Some, sym, ap, inl, inr, append_assoc}
use Rattle.std.specs.Prelude.{Contains}
use Rattle.std.specs.Option.{option_to_list}
use Rattle.std.proofs.lemmas.List.{append-nil, map-append}
use Rattle.service_step.specs.declared.reply.Reply.{Reply}
use Rattle.pool_core.proofs.Lists.{contains_at, contains_same}
use Rattle.pool_instance.specs.Does.{in_place}
use Rattle.server_backend.specs.declared.outcome.Outcome.{Outcome}
use Rattle.server_backend.specs.declared.outcome.Outcome.TheVariants as outcomes
use Rattle.pool_backend.specs.Own.{GivesAmong, MayGive}
use Rattle.pool_backend.proofs.Does.{given_append, given_none, given_one}

-- Holds if these are the last ones of a list.
pub record IsRestOf (all rest : List (ℕ × Reply)) : Type 0 where
  pub front : List (ℕ × Reply)
  pub split : all ≡ front ++ rest

pub rest_all : (all rest : List (ℕ × Reply)) → rest ≡ all → IsRestOf all rest
rest_all all rest h = record { front = []; split = sym h }

-- The first one was taken.
pub taken_split : (rest later : List (ℕ × Reply)) (taken : Option (ℕ × Reply)) (one : ℕ × Reply) → rest ≡ option_to_list taken ++ later → taken ≡ Some one → rest ≡ one ∷ later
taken_split rest later taken one h is = h ∙ ap (λ o. option_to_list o ++ later) is

pub rest_then : (all rest later : List (ℕ × Reply)) (one : ℕ × Reply) → IsRestOf all rest → rest ≡ one ∷ later → IsRestOf all later
rest_then all rest later one h is = record {
  front = h.front ++ one ∷ [];
  split = h.split ∙ ap (λ (v : List (ℕ × Reply)). h.front ++ v) is ∙ sym (append_assoc h.front (one ∷ []) later);
}

-- Its answer is among those of all.
answer_in : (all rest later : List (ℕ × Reply)) (one : ℕ × Reply) → IsRestOf all rest → rest ≡ one ∷ later → Contains (map in_place all) (in_place one)
answer_in all rest later one h is =
    let split : map in_place all ≡ map in_place h.front ++ in_place one ∷ map in_place later =
    ap (λ (v : List (ℕ × Reply)). map in_place v) (h.split ∙ ap (λ (v : List (ℕ × Reply)). h.front ++ v) is) ∙ map-append in_place h.front (one ∷ later) in
    contains_same (map in_place all) (map in_place h.front ++ in_place one ∷ map in_place later) (in_place one) split (contains_at (map in_place h.front) (in_place one) (map in_place later))

pub among_none : (told : List (ℕ × Reply)) (old new : List (ℕ × Outcome)) → new ≡ old → GivesAmong told old new
among_none told old new h = ([], h ∙ sym (append-nil old), given_none (map in_place told))

-- One more reply was given, or nobody waits for it.
pub among_then : (all rest later : List (ℕ × Reply)) (ticket : ℕ) (reply : Reply) (old mid new : List (ℕ × Outcome)) → IsRestOf all rest → rest ≡ (ticket, reply) ∷ later → GivesAmong all old mid → MayGive ticket (outcomes.Replied reply) mid new
    → GivesAmong all old new
among_then all rest later ticket reply old mid new h is among may =
    elim may [
      | inl same ↦ (among.0, same ∙ among.1, among.2)
      | inr one ↦ (
        among.0 ++ (ticket, outcomes.Replied reply) ∷ [],
        one ∙ ap (λ (v : List (ℕ × Outcome)). v ++ (ticket, outcomes.Replied reply) ∷ []) among.1 ∙ append_assoc old among.0 ((ticket, outcomes.Replied reply) ∷ []),
        given_append (map in_place all) among.0 ((ticket, outcomes.Replied reply) ∷ []) among.2 (given_one (map in_place all) ticket (outcomes.Replied reply) (answer_in all rest later (ticket, reply) h is)),
      )
    ]
