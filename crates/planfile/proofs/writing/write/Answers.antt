use mathlib.Core.Path.{sym, ◌∙◌}
use native.Mathlib.Omega.{arith}
use Rattle.plan.proofs.AcceptLaws.{accepted}
use Rattle.plan.proofs.LineLaws.{square_small}
use Rattle.planfile.proofs.writing.write.Goals as goal

-- an accepted plan's numbers fit the file's
pub file-requires : goal.file-requires
file-requires c =
    let a = c.args in
    let plan = accepted a.n a.t a.rates.now (sym c.accept.ensures ∙ c.in_ok-accept.was) in
    (omega arith, omega arith, omega (arith, square_small _ plan.few_ports))
