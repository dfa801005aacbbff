use Rattle.std.proofs.Common.{ℕ, List, ◌≡◌, ◌+◌, ◌++◌}
use Rattle.console.specs.TextBelow.{text_below}
use Rattle.deadlines.specs.Printout.{rate_lines_of}
use Rattle.deadlines.proofs.printout.printout.Given as goal

-- the lines of rate b + 1
abbrev pub lines_at : ℕ → List ℕ
lines_at b = rate_lines_of (b + 1)

abbrev pub invariant-loop-b : goal.invariant-loop-b
invariant-loop-b l = l.out.bytes ≡ l.initial.out.bytes ++ text_below lines_at l.b
