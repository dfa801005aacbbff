use native.Mathlib.Omega.{arith}
use Rattle.fabric.proofs.CountLaws.{counted_none, counted_next}
use Rattle.fabric.proofs.Fabric.counted.Goals as goal

pub loop-p-init : goal.loop-p-init
loop-p-init c = (omega arith, counted_none _ _ _)

pub loop-p-preserved : goal.loop-p-preserved
loop-p-preserved c = (omega arith, counted_next _ _ _ _ _ c.loop-p.invariant.1)
