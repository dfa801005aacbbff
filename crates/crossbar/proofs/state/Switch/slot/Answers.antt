use mathlib.Core.Path.{refl, sym, ◌∙◌}
use mathlib.Core.Logic.{inl, inr}
use native.Mathlib.Omega.{arith}
use lib.Seq.{length-take-le}
use Rattle.plan.proofs.LineLaws.{square_small}
use Rattle.crossbar.proofs.OwnedLaws.{owned_sized}
use Rattle.crossbar.proofs.StepLaws.{running_part, waiting_part, few_choose, boards_can, few_act, moves_can, heads_can, next_fits, few_taken, step_takes, step_keeps}
use Rattle.crossbar.proofs.state.Switch.slot.Goals as goal
use Rattle.crossbar.proofs.state.Switch.slot.Goals.{else-takeover-via-then-takeover+else-m-ne0, else-takeover-via-else-takeover}

pub slice_bounds-running-end : goal.slice_bounds-running-end
slice_bounds-running-end c = sym (running_part _ (owned_sized _ _ c.well_formed.0) _ (few_choose _ _ _ _ _ c.requires))

pub slice_bounds-waiting-end : goal.slice_bounds-waiting-end
slice_bounds-waiting-end c = sym (waiting_part _ (owned_sized _ _ c.well_formed.0) _ (few_choose _ _ _ _ _ c.requires))

pub room_for_all-room-requires : goal.room_for_all-room-requires
room_for_all-room-requires c =
    let by_desk = rw c.takes_over-takeover.ensures at c.serve_all-boards.ensures in
    boards_can _ _ (owned_sized _ _ c.well_formed.0) _ _ _ c.requires _ by_desk

pub columns_of-requires : goal.columns_of-requires
columns_of-requires c =
    let size = owned_sized c.args.self _ c.well_formed.0 in
    let few = few_choose _ _ _ _ _ c.requires in
    (few, running_part _ size _ few, waiting_part _ size _ few)

pub slice_bounds-rows-end : goal.slice_bounds-rows-end
slice_bounds-rows-end c =
    let by_desk = rw c.takes_over-takeover.ensures at c.serve_all-boards.ensures in
    sym (length-take-le _ _ (omega (arith, square_small _ (few_act _ _ (owned_sized _ _ c.well_formed.0) _ _ _ c.requires _ by_desk _ c.room_for_all-room.ensures _ c.acting-m.ensures))))

pub run-requires : goal.run-requires
run-requires c =
    let by_desk = rw c.takes_over-takeover.ensures at c.serve_all-boards.ensures in
    record {
      moves = moves_can _ _ (owned_sized _ _ c.well_formed.0) _ _ _ c.requires _ by_desk _ c.room_for_all-room.ensures _ c.acting-m.ensures;
      sends = heads_can _ _ (owned_sized _ _ c.well_formed.0) _ _ _ c.requires _ by_desk _ c.room_for_all-room.ensures _ c.acting-m.ensures _ _ refl (rw c.takes_over-takeover.ensures at c.columns_of.ensures) _ c.serve_all-heads.ensures;
    }

pub next_slot-requires : goal.next_slot-requires
next_slot-requires c =
    let by_desk = rw c.takes_over-takeover.ensures at c.serve_all-boards.ensures in
    next_fits _ _ (owned_sized _ _ c.well_formed.0) _ _ _ c.requires _ by_desk _ c.room_for_all-room.ensures _ c.acting-m.ensures

pub replaced-next-requires : goal.replaced-next-requires
replaced-next-requires c =
    let by_desk = rw c.takes_over-takeover.ensures at c.serve_all-boards.ensures in
    few_taken _ _ (owned_sized _ _ c.well_formed.0) _ _ _ c.requires _ by_desk _ c.room_for_all-room.ensures _ c.acting-m.ensures (sym c.takes_over-takeover.ensures ∙ c.if-takeover.true) (omega (arith, c.if-m-ne0.true))

pub cleared-next-requires : goal.cleared-next-requires
cleared-next-requires c =
    let by_desk = rw c.takes_over-takeover.ensures at c.serve_all-boards.ensures in
    few_taken _ _ (owned_sized _ _ c.well_formed.0) _ _ _ c.requires _ by_desk _ c.room_for_all-room.ensures _ c.acting-m.ensures (sym c.takes_over-takeover.ensures ∙ c.if-takeover.true) (omega (arith, c.if-m-ne0.true))

pub returns-then-m-ne0 : goal.returns-then-m-ne0
returns-then-m-ne0 c =
    let by_desk = rw c.takes_over-takeover.ensures at c.serve_all-boards.ensures in
    rw (c.replaced-next.ensures, c.cleared-next.ensures)
    (step_takes _ _ (owned_sized _ _ c.well_formed.0) _ _ _ c.requires _ by_desk _ c.room_for_all-room.ensures _ c.acting-m.ensures _ _ refl (rw c.takes_over-takeover.ensures at c.columns_of.ensures) _ c.serve_all-heads.ensures
    _ c.run.ensures _ c.next_slot.ensures _ c.verdict_by-verdict.ensures (sym c.takes_over-takeover.ensures ∙ c.if-takeover.true) (omega (arith, c.if-m-ne0.true)))

pub returns-else-takeover : goal.returns-else-takeover
returns-else-takeover c =
    let by_desk = rw c.takes_over-takeover.ensures at c.serve_all-boards.ensures in
    step_keeps _ _ (owned_sized _ _ c.well_formed.0) _ _ _ c.requires _ by_desk _ c.room_for_all-room.ensures _ c.acting-m.ensures _ _ refl (rw c.takes_over-takeover.ensures at c.columns_of.ensures) _ c.serve_all-heads.ensures
    _ c.run.ensures _ c.next_slot.ensures _ c.verdict_by-verdict.ensures
    (elim c.else-takeover.branch [
      | else-takeover-via-then-takeover+else-m-ne0 w ↦ inr (omega (arith, w.if-m-ne0.false))
      | else-takeover-via-else-takeover w ↦ inl (sym c.takes_over-takeover.ensures ∙ w.if-takeover.false)
    ])
