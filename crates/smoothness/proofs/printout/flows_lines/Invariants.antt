use Rattle.std.proofs.Common.{◌≡◌, ◌++◌}
use Rattle.console.specs.TextBelow.{text_below}
use Rattle.smoothness.specs.Head.{board_lines_of}
use Rattle.smoothness.proofs.printout.flows_lines.Given as goal

abbrev pub invariant-loop-board : goal.invariant-loop-board
invariant-loop-board l =
    l.out.bytes ≡ l.initial.out.bytes ++ text_below (board_lines_of l.recorded l.rates l.head.number l.head.frame) l.board
