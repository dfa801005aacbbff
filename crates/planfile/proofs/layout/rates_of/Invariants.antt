use mathlib.Core.Path.{◌≡◌}
use Rattle.planfile.specs.Layout.{rates_of, padded_to}
use Rattle.planfile.proofs.layout.rates_of.Given as goal

abbrev pub invariant-loop-p : goal.invariant-loop-p
invariant-loop-p l = l.rate-items ≡ padded_to l.count (rates_of l.bytes l.p)
