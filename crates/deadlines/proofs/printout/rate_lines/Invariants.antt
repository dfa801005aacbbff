use Rattle.std.proofs.Common.{ℕ, List, ◌≡◌, ◌+◌, ◌*◌, ◌++◌}
use Rattle.multiplexer.specs.Choose.{rounded_up}
use Rattle.multiplexer.specs.Deadlines.{table_frame}
use Rattle.console.specs.TextBelow.{text_below}
use Rattle.deadlines.specs.Printout.{line_of}
use Rattle.deadlines.proofs.printout.rate_lines.Given as goal

-- the line of service k + 1
abbrev pub line_at : ℕ → ℕ → List ℕ
line_at a k = line_of (rounded_up ((k + 1) * table_frame) a)

abbrev pub invariant-loop-k : goal.invariant-loop-k
invariant-loop-k l = l.out.bytes ≡ l.initial.out.bytes ++ text_below (line_at l.a) l.k
