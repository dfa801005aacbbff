use Rattle.std.proofs.Common.{◌≡◌, ◌*◌, length}
use Rattle.regulator.specs.Sums.{Holds}
use Rattle.regulator.specs.Scale.{scaled_rate}
use Rattle.regulator.proofs.scale.scale_places.Given as goal

abbrev pub invariant-loop-p : goal.invariant-loop-p
invariant-loop-p l = (length l.rates ≡ l.n * l.n) × Holds l.rates (scaled_rate l.n l.t l.demands) l.p
