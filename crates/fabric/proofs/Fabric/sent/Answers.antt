use mathlib.Core.Path.{refl, ◌∙◌}
use native.Mathlib.Omega.{arith}
use Rattle.fabric.specs.Sends.{sends_of}
use Rattle.side.proofs.NameLaws.{widened}
use Rattle.fabric.proofs.LoopLaws.{among, all_of}
use Rattle.fabric.proofs.SendLaws.{sends_idle_step, sends_flow_step, sent_whole}
use Rattle.fabric.proofs.Fabric.sent.Goals as goal

pub loop-j-init : goal.loop-j-init
unfolding sends_of
loop-j-init c = record { queues = refl; boards = refl; heads = refl; sends = refl }

pub loop-j-preserved-in_default : goal.loop-j-preserved-in_default
loop-j-preserved-in_default c =
    let i = c.loop-j.invariant in
    let here = among c.args.n c.loop-j.j c.args.choices (omega (arith, c.well_formed, c.requires.few_ports)) c.loop-j-test.true in
    record { queues = i.queues; boards = i.boards; heads = i.heads; sends = sends_idle_step _ _ _ _ _ i.sends (here.1 ∙ c.in_default.is) }

pub loop-j-preserved : goal.loop-j-preserved
loop-j-preserved c =
    let i = c.loop-j.invariant in
    let here = among c.args.n c.loop-j.j c.args.choices (omega (arith, c.well_formed, c.requires.few_ports)) c.loop-j-test.true in
    record {
      queues = i.queues;
      boards = i.boards;
      heads = i.heads;
      sends = sends_flow_step _ _ _ _ _ _ _ _ i.sends (here.1 ∙ widened c.in-Some.is c.from-i.ensures) c.flow_place-k.ensures.is c.send_cell-sent.ensures;
    }

pub returns : goal.returns
returns c =
    let i = c.loop-j.invariant in
    let end = all_of c.args.n c.loop-j.j c.args.choices (omega (arith, c.well_formed, c.requires.few_ports)) c.loop-j-test.false c.loop-j.auto.j-end in
    rw end at (sent_whole _ c.args.self _ _ i.queues i.boards i.heads i.sends)
