use Rattle.std.proofs.Common.{◌≡◌}
use Rattle.plan.specs.Accept.{IsPlan}
use Rattle.regulator.specs.Sums.{LineSums}
use Rattle.regulator.specs.Boost.{diagonal_in, boost_diagonals}
use Rattle.regulator.proofs.boost.boost_diagonals.Given as goal

abbrev pub invariant-loop-turn : goal.invariant-loop-turn
invariant-loop-turn l = IsPlan l.n l.t l.rates × LineSums l.rates l.n l.sums.rows l.sums.columns × (l.rates ≡ boost_diagonals l.n l.t (diagonal_in l.n l.period) l.initial.rates l.turn)
