use Rattle.std.proofs.Common.{◌≡◌, ◌++◌}
use Rattle.console.specs.TextBelow.{text_below}
use Rattle.smoothness.specs.Printout.{head_lines_of}
use Rattle.smoothness.proofs.printout.heads_lines.Given as goal

abbrev pub invariant-loop-j : goal.invariant-loop-j
invariant-loop-j l = l.out.bytes ≡ l.initial.out.bytes ++ text_below (head_lines_of l.plan) l.j
