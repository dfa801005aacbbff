use Rattle.meter.proofs.MeasureLaws.{Looked}
use Rattle.meter.proofs.measure.Given as goal

abbrev pub invariant-loop-place : goal.invariant-loop-place
invariant-loop-place l = Looked l.recorded l.flow l.l l.place l.services l.least l.most
