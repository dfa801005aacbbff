use Prim.Native.Nat.{◌≤◌}
use mathlib.Core.Path.{◌≡◌}
use Rattle.plan.specs.Below.{sum_below}
use Rattle.meter.proofs.CoverLaws.{at}
use Rattle.meter.proofs.first_services.Given as goal

abbrev pub invariant-loop-entry : goal.invariant-loop-entry
invariant-loop-entry l = (l.services ≤ l.entry-index) × (l.services ≡ sum_below (at l.recorded l.flow) l.entry-index)
