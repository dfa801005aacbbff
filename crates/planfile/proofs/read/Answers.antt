use mathlib.Core.Path.{sym, ◌∙◌}
use native.Mathlib.Omega.{arith}
use Rattle.plan.proofs.LineLaws.{square_small}
use Rattle.plan.proofs.RangeLaws.{range_ports}
use Rattle.planfile.proofs.read.Goals as goal

pub read_rates-requires : goal.read_rates-requires
read_rates-requires c =
    let ports = range_ports _ _ (sym c.check.ensures ∙ c.in_ok-check.was) in
    (square_small _ ports.1, omega arith)
