use borrow.Author.Tests.{eq-eqb, ne_eqb}
use Rattle.fabric.specs.Moves.{move_of}
use Rattle.fabric.proofs.moves.move_cell.Goals as goal

pub returns-then-queue-eq0 : goal.returns-then-queue-eq0
unfolding move_of
returns-then-queue-eq0 c = simp (eq-eqb _ _ c.if-queue-eq0.true)

pub returns : goal.returns
unfolding move_of
returns c = rw (c.shorter.ensures, c.filled.ensures) (simp (ne_eqb _ _ c.if-queue-eq0.false))
