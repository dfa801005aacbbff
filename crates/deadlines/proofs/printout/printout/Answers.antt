use Rattle.std.proofs.Common.{arith, ap, length}
use Rattle.console.proofs.TextBelowLaws.{below_room}
use Rattle.deadlines.specs.Printout.{printout_of}
use Rattle.deadlines.proofs.RoomLaws.{printout_short}
use Rattle.deadlines.proofs.printout.printout.Invariants.{lines_at}
use Rattle.deadlines.proofs.printout.printout.Goals as goal

pub rate_lines-requires : goal.rate_lines-requires
unfolding printout_of
rate_lines-requires c = omega (arith, ap length c.clear.ensures, below_room lines_at _ c.loop-b.invariant c.loop-b-test.true, printout_short)
