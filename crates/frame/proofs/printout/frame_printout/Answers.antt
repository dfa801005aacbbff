use Rattle.std.proofs.Common.{arith, ap, length}
use Rattle.planfile.proofs.LayoutLaws.{zeros_taken}
use Rattle.console.proofs.TextLaws.{put_on, put_sizes}
use Rattle.frame.proofs.PrintoutLaws.{by_start}
use Rattle.frame.specs.Printout.{header_of}
use Rattle.frame.proofs.printout.frame_printout.Goals as goal

pub refusal_line-requires : goal.refusal_line-requires
refusal_line-requires c =
    let text = (by_start c.args.plan _ _ (zeros_taken _ c.requires.0) c.start-verdict.ensures).refused c.in_default.is in
    omega (arith, ap length text, c.requires.1)

pub returns-in_default : goal.returns-in_default
returns-in_default c =
    let text = (by_start c.args.plan _ _ (zeros_taken _ c.requires.0) c.start-verdict.ensures).refused c.in_default.is in
    rw text c.refusal_line.ensures

pub header-requires : goal.header-requires
header-requires c =
    let text = (by_start c.args.plan _ _ (zeros_taken _ c.requires.0) c.start-verdict.ensures).accepted c.in-Ok.is in
    omega (arith, put_sizes (header_of _) _ text, c.requires.1)

pub slot_lines-requires : goal.slot_lines-requires
slot_lines-requires c =
    let text = (by_start c.args.plan _ _ (zeros_taken _ c.requires.0) c.start-verdict.ensures).accepted c.in-Ok.is in
    (c.requires.0, omega (arith, put_sizes (header_of _) _ text, put_sizes c.args.out.now.bytes (header_of _) c.header.ensures, c.requires.1))

pub returns : goal.returns
returns c =
    let text = (by_start c.args.plan _ _ (zeros_taken _ c.requires.0) c.start-verdict.ensures).accepted c.in-Ok.is in
    rw text (put_on _ _ _ c.header.ensures c.slot_lines.ensures)
