use Rattle.std.proofs.Common.{◌-◌}
use Rattle.frame.specs.Printout.{slot_lines_of}
use Rattle.console.proofs.TextLaws.{Begun}
use Rattle.frame.proofs.printout.slot_lines.Given as goal

abbrev pub invariant-loop-slot : goal.invariant-loop-slot
invariant-loop-slot l =
    Begun l.initial.out.bytes (slot_lines_of l.initial.state l.store l.n 0 l.frame)
    l.out.bytes (slot_lines_of l.state l.store l.n l.slot (l.frame - l.slot))
