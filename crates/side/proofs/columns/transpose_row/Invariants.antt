use mathlib.Core.Path.{◌≡◌}
use Rattle.side.specs.Columns.{transposed_row}
use Rattle.side.proofs.columns.transpose_row.Given as goal

abbrev pub invariant-loop-i : goal.invariant-loop-i
invariant-loop-i l = l.array ≡ transposed_row l.rates l.n l.j l.initial.array l.i
