use Rattle.std.proofs.Common.{◌≡◌, length, take}
use Rattle.plan.proofs.lists.copy.Given as goal

abbrev pub invariant-loop-p : goal.invariant-loop-p
invariant-loop-p l = (length l.to ≡ length l.from) × (take l.p l.to ≡ take l.p l.from)
