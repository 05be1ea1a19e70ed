use Rattle.std.proofs.Common.{ℕ, Option, ap, ◌∙◌}
use Rattle.std.specs.Prelude.{unwrap_or}
use Rattle.space_memory.proofs.Bits.{added_bits, added_widens, had_bits}
use Rattle.space_memory.proofs.near.add_part.Goals as goal

pub returns-in_ok-insert-clause-kept : goal.returns-in_ok-insert-clause-kept
returns-in_ok-insert-clause-kept c =
    added_widens c.args.near.now c.insert.new.self c.args.part c.unwrap_or-own.result c.args.bits (c.unwrap_or-own.ensures ∙ ap (λ (o : Option ℕ). unwrap_or o 0) (c.copied.ensures ∙ c.get.ensures.value)) c.in_ok-insert.ensures.updates

pub returns-in_ok-insert-clause-there : goal.returns-in_ok-insert-clause-there
returns-in_ok-insert-clause-there c =
    added_bits c.args.near.now c.insert.new.self c.args.part c.unwrap_or-own.result c.args.bits (c.unwrap_or-own.ensures ∙ ap (λ (o : Option ℕ). unwrap_or o 0) (c.copied.ensures ∙ c.get.ensures.value)) c.in_ok-insert.ensures.updates

pub returns-else-own-bits-clause-there : goal.returns-else-own-bits-clause-there
returns-else-own-bits-clause-there c =
    had_bits c.args.near.now c.args.part c.unwrap_or-own.result c.args.bits (c.unwrap_or-own.ensures ∙ ap (λ (o : Option ℕ). unwrap_or o 0) (c.copied.ensures ∙ c.get.ensures.value)) c.if-own-bits.false
