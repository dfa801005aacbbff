use mathlib.Core.List.{◌++◌}
use mathlib.Core.Path.{◌≡◌}
use Rattle.planfile.specs.Write.{head_of, rate_bytes}
use Rattle.planfile.proofs.writing.file.Given as goal

abbrev pub invariant-loop-rate : goal.invariant-loop-rate
invariant-loop-rate l = l.file.items ≡ head_of l.n l.t ++ rate_bytes l.rates l.rate-index
