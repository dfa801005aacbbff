use mathlib.Core.Path.{refl, ◌∙◌}
use native.Mathlib.Omega.{arith}
use lib.ListN.{get_or}
use Rattle.fabric.specs.Flow.{no_queue, no_point}
use Rattle.fabric.specs.Moves.{moves_of, CanMove}
use Rattle.side.proofs.NameLaws.{widened}
use Rattle.fabric.proofs.LoopLaws.{among, all_of}
use Rattle.fabric.proofs.MoveLaws.{moves_idle_step, moves_flow_step, moves_ready, moved_whole}
use Rattle.fabric.proofs.Fabric.moved.Goals as goal

pub loop-i-init : goal.loop-i-init
unfolding moves_of
loop-i-init c = record { boards = refl; heads = refl; moves = refl }

pub loop-i-preserved-in_default : goal.loop-i-preserved-in_default
loop-i-preserved-in_default c =
    let i = c.loop-i.invariant in
    let here = among c.args.n c.loop-i.i c.args.choices (omega (arith, c.well_formed, c.requires.choosing.few_ports)) c.loop-i-test.true in
    record { boards = i.boards; heads = i.heads; moves = moves_idle_step _ _ _ _ _ _ _ _ i.moves (here.1 ∙ c.in_default.is) }

pub oldest_place-requires : goal.oldest_place-requires
oldest_place-requires c =
    let here = among c.args.n c.loop-i.i c.args.choices (omega (arith, c.well_formed, c.requires.choosing.few_ports)) c.loop-i-test.true in
    let k = c.flow_place-k.result in
    let ready : CanMove c.args.depth (get_or c.loop-i.self.queues k no_queue) (get_or c.loop-i.self.crosspoints k no_point) = moves_ready _ _ _ _ _ _ _ _ _ _ _ c.requires here.0 c.loop-i.invariant.moves (here.1 ∙ widened c.in-Some.is c.from-j.ensures) c.flow_place-k.ensures.is in
    (c.requires.choosing.few_ports, c.requires.few_cells (omega (arith, here.0)), c.flow_place-k.ensures.below, ready.place)

pub move_cell-moved-requires : goal.move_cell-moved-requires
move_cell-moved-requires c =
    let here = among c.args.n c.loop-i.i c.args.choices (omega (arith, c.well_formed, c.requires.choosing.few_ports)) c.loop-i-test.true in
    moves_ready _ _ _ _ _ _ _ _ _ _ _ c.requires here.0 c.loop-i.invariant.moves (here.1 ∙ widened c.in-Some.is c.from-j.ensures) c.flow_place-k.ensures.is

pub loop-i-preserved : goal.loop-i-preserved
loop-i-preserved c =
    let i = c.loop-i.invariant in
    let here = among c.args.n c.loop-i.i c.args.choices (omega (arith, c.well_formed, c.requires.choosing.few_ports)) c.loop-i-test.true in
    record {
      boards = i.boards;
      heads = i.heads;
      moves = moves_flow_step _ _ _ _ _ _ _ _ _ _ _ _ i.moves (here.1 ∙ widened c.in-Some.is c.from-j.ensures) c.flow_place-k.ensures.is c.oldest_place.ensures.is c.move_cell-moved.ensures;
    }

pub returns : goal.returns
returns c =
    let i = c.loop-i.invariant in
    let end = all_of c.args.n c.loop-i.i c.args.choices (omega (arith, c.well_formed, c.requires.choosing.few_ports)) c.loop-i-test.false c.loop-i.auto.i-end in
    rw end at (moved_whole _ c.args.self _ _ i.boards i.heads i.moves)
