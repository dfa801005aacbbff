use Rattle.std.proofs.Common.{ap, arith, length}
use Rattle.console.proofs.TextBelowLaws.{below_room, below_skip, below_step}
use Rattle.smoothness.proofs.PrintoutLaws.{no_rate, some_rate}
use Rattle.smoothness.proofs.printout.flows_lines.Goals as goal

pub loop-board-preserved-then-rate-eq0 : goal.loop-board-preserved-then-rate-eq0
loop-board-preserved-then-rate-eq0 c =
    let a = c.args in
    below_skip _ _ c.loop-board.invariant (no_rate a.recorded.now a.rates.now a.head.number a.head.frame c.loop-board.board c.if-rate-eq0.true)

pub flow_lines-requires : goal.flow_lines-requires
flow_lines-requires c =
    let a = c.args in
    let l = c.loop-board in
    let is = some_rate a.recorded.now a.rates.now a.head.number a.head.frame l.board c.if-rate-eq0.false in
    (omega arith, omega (arith, ap length is, below_room _ _ l.invariant c.loop-board-test.true, c.requires.1), c.requires.2, c.requires.3)

pub loop-board-preserved : goal.loop-board-preserved
loop-board-preserved c =
    let a = c.args in
    below_step _ _ c.loop-board.invariant (some_rate a.recorded.now a.rates.now a.head.number a.head.frame c.loop-board.board c.if-rate-eq0.false) c.flow_lines.ensures
