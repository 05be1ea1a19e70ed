use Rattle.std.proofs.Common.{drop}
use Rattle.dss_args.specs.CommandArgs.{texts}
use Rattle.dss_args.proofs.Listens.{GoesOn}
use Rattle.dss_args.proofs.command_args.each_listen.Given as goal

abbrev pub invariant-loop-word : goal.invariant-loop-word
invariant-loop-word l = GoesOn l.port (texts l.words) (texts (drop l.word-index l.words)) l.addresses.items
