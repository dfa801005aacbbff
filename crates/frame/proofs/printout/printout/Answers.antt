use Rattle.std.proofs.Common.{◌∙◌, arith, ap, length, refl, sym}
use Rattle.console.specs.Refused.{refusal_line_of}
use Rattle.frame.proofs.PrintoutLaws.{by_plan, by_refusal, few_ports}
use Rattle.frame.proofs.RoomLaws.{printout_short}
use Rattle.frame.proofs.printout.printout.Goals as goal

pub refusal_line-requires : goal.refusal_line-requires
refusal_line-requires c =
    let text = by_refusal _ _ (sym c.read-reading.ensures ∙ c.in_default.is) in
    let told = rw c.in_default.is at c.and.ensures in
    omega (arith, ap length c.clear.ensures, ap length (ap refusal_line_of told), ap length text, printout_short c.args.file.now)

pub returns-in_default : goal.returns-in_default
returns-in_default c =
    let told = rw c.in_default.is at c.and.ensures in
    rw (by_refusal _ _ (sym c.read-reading.ensures ∙ c.in_default.is), c.refusal_line.ensures, told, c.clear.ensures) refl

pub frame_printout-requires : goal.frame_printout-requires
frame_printout-requires c =
    let read = sym c.read-reading.ensures ∙ c.in-Ok.is in
    (few_ports _ _ read, omega (arith, ap length c.clear.ensures, ap length (by_plan _ _ read), printout_short c.args.file.now))

pub returns : goal.returns
returns c = rw (by_plan _ _ (sym c.read-reading.ensures ∙ c.in-Ok.is), c.frame_printout.ensures, c.clear.ensures) refl
