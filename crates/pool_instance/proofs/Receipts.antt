-- Lemmas: how many requests are received in some events.
use Rattle.std.proofs.Common.{◌≡◌, ℕ, ◌+◌, List, [], ◌∷◌, ◌++◌, map, refl, arith}
use Rattle.service_step.specs.declared.reply.Reply.{Reply}
use Rattle.pool_core.specs.Events.{InstanceEvent}
use Rattle.pool_instance.specs.Does.{count_receipts, in_place}

pub receipts_append : (xs ys : List InstanceEvent) → count_receipts (xs ++ ys) ≡ count_receipts xs + count_receipts ys
receipts_append [] ys = omega arith
receipts_append (x ∷ xs) ys = omega (arith, receipts_append xs ys)

pub told_receipts : (told : List (ℕ × Reply)) → count_receipts (map in_place told) ≡ 0
told_receipts [] = refl
told_receipts (t ∷ told) = omega (arith, told_receipts told)
