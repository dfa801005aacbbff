use Rattle.plan.specs.Lines.{line_sum}
use Rattle.regulator.specs.Sums.{Holds}
use Rattle.regulator.proofs.sums.sums_of.Given as goal

abbrev pub invariant-loop-k : goal.invariant-loop-k
invariant-loop-k l = Holds l.sum-items (line_sum l.lines.list.now l.lines.n l.lines.across l.lines.along) l.k
