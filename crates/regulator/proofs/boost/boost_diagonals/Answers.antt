use Rattle.regulator.specs.Boost.{diagonal_in}
use Rattle.regulator.proofs.BoostLaws.{diagonal_turn}
use Rattle.regulator.proofs.boost.boost_diagonals.Goals as goal

pub loop-turn-preserved : goal.loop-turn-preserved
loop-turn-preserved c =
    let at = c.loop-turn in
    let a = c.args in
    let done = c.boost_diagonal.ensures in
    let more = diagonal_turn a.n a.t (diagonal_in a.n a.period) at.turn _ a.rates.now at.rates _ at.invariant.0 at.invariant.2 c.diagonal_in.ensures.0 done.0 in
    (more.0, done.1, more.1)
