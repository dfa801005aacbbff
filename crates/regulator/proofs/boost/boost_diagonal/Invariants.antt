use Rattle.std.proofs.Common.{◌≡◌}
use Rattle.plan.specs.Accept.{IsPlan}
use Rattle.regulator.specs.Sums.{LineSums}
use Rattle.regulator.specs.Boost.{boost_diagonal}
use Rattle.regulator.proofs.boost.boost_diagonal.Given as goal

abbrev pub invariant-loop-i : goal.invariant-loop-i
invariant-loop-i l = IsPlan l.n l.t l.rates × LineSums l.rates l.n l.sums.rows l.sums.columns × (l.rates ≡ boost_diagonal l.n l.t l.k l.initial.rates l.i)
