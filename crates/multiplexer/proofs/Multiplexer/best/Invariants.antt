use Rattle.multiplexer.specs.Choose.{best_of}
use Rattle.multiplexer.proofs.CandidateLaws.{Kept}
use Rattle.multiplexer.proofs.Multiplexer.best.Given as goal

abbrev pub invariant-loop-f : goal.invariant-loop-f
invariant-loop-f l = Kept l.rates l.self.served l.frame l.best (best_of l.rates l.self.served l.frame l.slot l.f)
