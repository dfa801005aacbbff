use Rattle.std.proofs.Common.{arith, sym}
use Rattle.plan.proofs.LineLaws.{square_small}
use Rattle.plan.proofs.RangeLaws.{ports_range}
use Rattle.sheet.proofs.plan_file.flows.Goals as goal

pub overflow_mul-result : goal.overflow_mul-result
overflow_mul-result c = omega (arith, square_small _ (ports_range _ (sym c.if-ports_in_range.ensures)).1)
