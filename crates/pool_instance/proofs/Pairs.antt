-- Lemmas: the replies to the requests of a batch, each with its number.
use Rattle.std.proofs.Common.{◌≡◌, ℕ, List, [], ◌∷◌, ◌++◌, Option, Some, ap, ◌∙◌, append_assoc}
use Rattle.service_step.specs.declared.reply.Reply.{Reply}
use Rattle.pool_instance.specs.Lists.{told_of}

pub told_some : (told more : List (ℕ × Reply)) (slots : List (Option ℕ)) (id : ℕ) (reply : Reply) (replies : List Reply) (all : List (ℕ × Reply))
    → told ++ told_of (Some id ∷ slots) (reply ∷ replies) ≡ all → more ≡ told ++ (id, reply) ∷ [] → more ++ told_of slots replies ≡ all
told_some told more slots id reply replies all h is = ap (λ v. v ++ told_of slots replies) is ∙ append_assoc told ((id, reply) ∷ []) (told_of slots replies) ∙ h
