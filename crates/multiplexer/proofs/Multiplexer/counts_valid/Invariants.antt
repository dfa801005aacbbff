use Rattle.std.proofs.Common.{◌≡◌, ◌+◌, ◌*◌, get_or}
use Rattle.plan.specs.Below.{all_below}
use Rattle.multiplexer.specs.Valid.{count_valid}
use Rattle.multiplexer.proofs.Multiplexer.counts_valid.Given as goal

abbrev pub invariant-loop-f : goal.invariant-loop-f
invariant-loop-f l = let r = l.rates in l.valid ≡ all_below (λ g. count_valid l.slot (get_or r.list.now (l.p * r.across + g * r.along) 0) (get_or l.fn.self.served g 0)) l.f
