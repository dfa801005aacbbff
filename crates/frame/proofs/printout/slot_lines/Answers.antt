use Rattle.std.proofs.Common.{arith}
use Rattle.console.proofs.TextLaws.{begun_start, begun_next, begun_last, begun_end, begun_room, begun_room_next}
use Rattle.frame.proofs.PrintoutLaws.{lines_start, lines_end, by_step}
use Rattle.frame.specs.Printout.{slot_line_of}
use Rattle.frame.proofs.printout.slot_lines.Goals as goal

pub loop-slot-init : goal.loop-slot-init
loop-slot-init c = begun_start _ (lines_start _ _ _ _)

pub refusal_line-requires : goal.refusal_line-requires
refusal_line-requires c =
    omega (arith, begun_room c.loop-slot.invariant ((by_step _ _ _ _ _ _ c.loop-slot-test.true c.step-verdict.ensures.defined).refused c.in_default.is), c.requires.1)

pub returns-in_default : goal.returns-in_default
returns-in_default c =
    begun_last c.loop-slot.invariant
    ((by_step _ _ _ _ _ _ c.loop-slot-test.true c.step-verdict.ensures.defined).refused c.in_default.is)
    c.refusal_line.ensures

pub slot_line-requires : goal.slot_line-requires
slot_line-requires c = (
  c.requires.0,
  omega (
    arith,
    begun_room_next c.loop-slot.invariant
        (slot_line_of c.loop-slot.slot c.step-verdict.result.moves c.step-verdict.result.sends c.args.n)
        _
        ((by_step _ _ _ _ _ _ c.loop-slot-test.true c.step-verdict.ensures.defined).accepted c.in-Ok.is),
    c.requires.1,
  ),
)

pub loop-slot-preserved : goal.loop-slot-preserved
loop-slot-preserved c =
    begun_next c.loop-slot.invariant
    (slot_line_of c.loop-slot.slot c.step-verdict.result.moves c.step-verdict.result.sends c.args.n)
    ((by_step _ _ _ _ _ _ c.loop-slot-test.true c.step-verdict.ensures.defined).accepted c.in-Ok.is)
    c.slot_line.ensures

pub returns : goal.returns
returns c = begun_end c.loop-slot.invariant (lines_end _ _ _ _ _ c.loop-slot-test.false)
