use Rattle.std.proofs.Common.{◌≡◌, ◌∙◌, arith}
use Rattle.regulator.specs.Sums.{larger_sum}
use Rattle.regulator.proofs.FlowLaws.{larger_kept}
use Rattle.regulator.proofs.PlaceLaws.{place_within, place_turn}
use Rattle.regulator.proofs.boost.boost_diagonal.Goals.{After-larger}
use Rattle.regulator.proofs.boost.boost_diagonal.Goals as goal

-- the code's larger sum
larger_is : (c : After-larger) → c.larger.result ≡ larger_sum c.loop-i.rates c.args.n c.loop-i.i c.column_on-j.result
larger_is c =
    let at = c.loop-i in
    c.larger.ensures ∙ larger_kept at.rates _ at.i _ at.sums.rows at.sums.columns at.invariant.1 c.loop-i-test.true c.column_on-j.ensures.1

pub overflow_add-rates : goal.overflow_add-rates
overflow_add-rates c =
    let at = c.loop-i in
    let j = c.column_on-j in
    let larger = larger_is (goal.at.overflow_add-rates c).After-larger in
    omega (arith, place_within _ _ at.rates at.i j.result at.invariant.0 c.loop-i-test.true j.ensures.1 c.flow_place.result c.larger.result c.flow_place.ensures.is larger)

pub loop-i-preserved : goal.loop-i-preserved
loop-i-preserved c =
    let at = c.loop-i in
    let a = c.args in
    let larger = larger_is (goal.at.loop-i-preserved c).After-larger in
    rw (c.add.ensures.rows, c.add.ensures.columns) (place_turn a.n a.t a.k a.rates.now at.rates at.sums.rows at.sums.columns at.i _ _ _ at.invariant.0 at.invariant.1 at.invariant.2
    c.loop-i-test.true c.column_on-j.ensures.0 c.flow_place.ensures.is larger)
