use Rattle.std.proofs.Common.{arith, ap, length, refl, sym, ◌∙◌}
use Rattle.planfile.proofs.ReadLaws.{accepted_plan}
use Rattle.console.proofs.TextLaws.{put_sizes}
use Rattle.smoothness.specs.Printout.{header_text}
use Rattle.smoothness.proofs.PrintoutLaws.{printed_by}
use Rattle.smoothness.proofs.RoomLaws.{printout_short}
use Rattle.smoothness.proofs.printout.printout.Goals as goal

pub refusal_line-requires : goal.refusal_line-requires
refusal_line-requires c =
    let text = printed_by _ _ (sym c.in-Err.is ∙ c.read.ensures) in
    omega (arith, ap length c.clear.ensures, ap length text, printout_short c.args.file.now)

pub returns-in-Err : goal.returns-in-Err
returns-in-Err c = rw (printed_by _ _ (sym c.in-Err.is ∙ c.read.ensures), c.refusal_line.ensures, c.clear.ensures) refl

pub heads_lines-requires : goal.heads_lines-requires
heads_lines-requires c =
    let told = sym c.in-Ok.is ∙ c.read.ensures in
    let plan = (accepted_plan _ _ (sym told)).is_plan in (
      plan.few_ports,
      plan.some_slot,
      plan.few_slots,
      omega (arith, ap length c.clear.ensures, c.push_str.ensures.len, put_sizes header_text _ (printed_by _ _ told), printout_short c.args.file.now),
    )

pub returns-in-Ok : goal.returns-in-Ok
returns-in-Ok c =
    rw (printed_by _ _ (sym c.in-Ok.is ∙ c.read.ensures), c.heads_lines.ensures, c.push_str.ensures.bytes, c.clear.ensures) refl
