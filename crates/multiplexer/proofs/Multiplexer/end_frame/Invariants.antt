use mathlib.Core.Path.{◌≡◌}
use Rattle.multiplexer.specs.Count.{cleared_below}
use Rattle.multiplexer.proofs.Multiplexer.end_frame.Given as goal

abbrev pub invariant-loop-count : goal.invariant-loop-count
invariant-loop-count l = l.count-items ≡ cleared_below l.initial.count-items l.count-index
