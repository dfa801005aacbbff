use Rattle.std.proofs.Common.{ap, arith, length}
use Rattle.console.proofs.TextBelowLaws.{below_room}
use Rattle.deadlines.specs.Printout.{line_of, rate_lines_of}
use Rattle.deadlines.proofs.printout.rate_lines.Invariants.{line_at}
use Rattle.deadlines.proofs.printout.rate_lines.Goals as goal

pub line-requires : goal.line-requires
unfolding rate_lines_of
line-requires c =
    omega (arith, ap (λ v. length (line_of v)) c.deadline.ensures, below_room (line_at c.args.a) _ c.loop-k.invariant c.loop-k-test.true, c.requires.2)
