use mathlib.Core.Path.{◌≡◌}
use Rattle.side.specs.Columns.{transposed}
use Rattle.side.proofs.columns.transpose.Given as goal

abbrev pub invariant-loop-j : goal.invariant-loop-j
invariant-loop-j l = l.array ≡ transposed l.rates l.n l.initial.array l.j
