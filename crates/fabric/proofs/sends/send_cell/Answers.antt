use borrow.Author.Tests.{eq-eqb, ne_eqb}
use Rattle.fabric.specs.Sends.{send_of}
use Rattle.fabric.proofs.sends.send_cell.Goals as goal

pub returns-then-point-eq0 : goal.returns-then-point-eq0
unfolding send_of
returns-then-point-eq0 c = simp (eq-eqb _ _ c.if-point-eq0.true)

pub returns : goal.returns
unfolding send_of
returns c = rw c.without_oldest.ensures (simp (ne_eqb _ _ c.if-point-eq0.false))
