use Rattle.std.proofs.Common.{◌≡◌, ◌++◌}
use Rattle.console.specs.TextBelow.{text_below}
use Rattle.smoothness.proofs.PrintoutLaws.{stretch_line}
use Rattle.smoothness.proofs.printout.flow_lines.Given as goal

abbrev pub invariant-loop-k : goal.invariant-loop-k
invariant-loop-k l =
    l.out.bytes ≡ l.initial.out.bytes ++ text_below (stretch_line l.recorded l.flow.head.number l.flow.board l.flow.rate l.flow.head.frame) l.k
