use Rattle.std.proofs.Common.{sym, ◌∙◌}
use Rattle.space_memory.proofs.MemorySpaces.{empty_content, none_told}
use Rattle.space_memory.proofs.memory.MemorySpace.at_serial.Goals as goal

pub returns-clause-content : goal.returns-clause-content
returns-clause-content c =
    let e = empty_content c.new.result c.new-2.result c.new-3.result c.args.serial c.new.ensures c.new-2.ensures c.new-3.ensures in
    record { held = e; only = λ b h. h ∙ sym e }

pub invariant_of-result : goal.invariant_of-result
invariant_of-result c = record { told = none_told c.new-2.result c.args.serial c.new-2.ensures }
