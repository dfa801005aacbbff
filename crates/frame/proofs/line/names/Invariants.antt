use Rattle.std.proofs.Common.{◌≡◌, ◌++◌}
use Rattle.frame.specs.Printout.{names_of}
use Rattle.frame.proofs.line.names.Given as goal

abbrev pub invariant-loop-port : goal.invariant-loop-port
invariant-loop-port l = l.out.bytes ≡ l.initial.out.bytes ++ names_of l.side l.port
