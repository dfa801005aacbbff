use Rattle.std.proofs.Common.{◌∙◌, ap, refl}
use Rattle.smoothness.specs.Printout.{printout_of}
use Rattle.smoothness.proofs.PrintoutLaws.{printout_cut}
use Rattle.smoothness.proofs.main.Goals as goal

pub print_of-requires-clause-enough : goal.print_of-requires-clause-enough
print_of-requires-clause-enough c = λ file text of_front.
    (record { ref_ptr = of_front.0.ref_ptr; now = file }, of_front.1 ∙ ap printout_of of_front.2 ∙ printout_cut file, refl)
