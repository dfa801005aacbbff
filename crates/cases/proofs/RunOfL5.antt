-- The run of L5 is one in the sense of the promise. Its first frame is a stretch in which flow (0, 0) has the old plan's rate,
-- its second one a stretch with the second load's, and of the first load's plan it is proved that it never ran.
use Prim.Native.Nat.{ℕ}
use mathlib.Core.Path.{◌≡◌, refl, sym}
use mathlib.Core.List.{List, [], ◌∷◌, ◌++◌}
use native.Mathlib.Omega.{arith}
use lib.ListN.{length, take-append-drop}
use Rattle.std.specs.Prelude.{Ok}
use Rattle.plan.specs.Below.{list_below}
use Rattle.plan.specs.Lines.{row_sum, column_sum}
use Rattle.plan.specs.Range.{ports_in_range, frame_in_range}
use Rattle.plan.specs.Accept.{accept_of}
use Rattle.multiplexer.specs.Choose.{eligible, rounded_up, better, best_of, choose_of}
use Rattle.multiplexer.specs.Count.{counts_after, cleared_below}
use Rattle.side.specs.Choices.{choices_of}
use Rattle.fabric.specs.Moves.{move_of, board_moves, moves_of, room_for, room_for_all}
use Rattle.fabric.specs.Sends.{send_of, head_sends, sends_of}
use Rattle.side.specs.Counts.{counts_of}
use Rattle.crossbar.specs.State.{depth_in_range, store_fits}
use Rattle.planpair.specs.Valid.{plan_valid, plans_valid}
use Rattle.side.specs.Valid.{ports_valid}
use Rattle.fabric.specs.Valid.{flows_valid}
use Rattle.multiplexer.specs.Valid.{port_valid}
use Rattle.crossbar.specs.Valid.{valid_of}
use Rattle.planpair.specs.Rates.{overlaid}
use Rattle.crossbar.specs.Start.{fresh_with, start_verdict, start_of}
use Rattle.crossbar.specs.Arrive.{arrive_verdict, arrive_of}
use Rattle.crossbar.specs.Load.{load_verdict, load_of}
use Rattle.crossbar.specs.Takeover.{takeover_of}
use Rattle.crossbar.specs.Step.{board_choices, head_choices, after_slot, step_verdict, step_of}
use Rattle.runs.specs.Run.{Run, final_state, final_store, defined_run}
use Rattle.runs.specs.Flow.{HasRate}
use Rattle.runs.specs.Plans.{NeverRan}
use Rattle.runs.proofs.PlanTheorem.{plans_of_every_run}
use Rattle.crossbar.specs.declared.state.Reply.{Reply}
use Rattle.crossbar.specs.declared.state.SlotReply.{SlotReply}
use Rattle.runs.specs.Event.{Event}
use Rattle.runs.specs.Event.Lent.{own}
use Rattle.runs.specs.Event.Call.{step}
use Rattle.runs.specs.Event.Event.{stepped, loaded}
use Rattle.cases.specs.Look.{store_of, started, run_of}
use Rattle.cases.specs.Table.{l5_rates, l5_first, l5_second, l5_before, l5_frame, l5_next, l5_run, l5_early, l5_late}
use Rattle.cases.proofs.OwnRuns.{own_run}

start_accepted : (started 2 4 l5_rates).verdict ≡ Ok tt
unfolding start_of start_verdict accept_of ports_in_range frame_in_range row_sum column_sum depth_in_range store_fits
start_accepted = refl

pub run_of_l5 : Run
run_of_l5 = own_run 2 4 l5_rates (l5_frame ++ l5_next) start_accepted refl

pub two_stretches : run_of_l5.events ≡ l5_early ++ l5_late
unfolding run_of_l5 own_run
two_stretches = sym (take-append-drop (length l5_frame) l5_run)

-- The first load, the slot that follows it and the second load, as they are met in the run.

abbrev before : List Event
before = run_of 2 4 l5_rates l5_before

abbrev store : List ℕ
store = final_store (store_of 2) before

abbrev first : Reply
first = load_of (final_state (started 2 4 l5_rates).state before) 2 4 l5_first

abbrev slot : SlotReply
slot = step_of first.state store

abbrev second : Reply
second = load_of slot.state 2 4 l5_second

abbrev after : List Event
after = defined_run second.state store (step own ∷ step own ∷ l5_next)

there : run_of_l5.events ≡ before ++ (loaded 2 4 l5_first first ∷ (stepped own slot ∷ (loaded 2 4 l5_second second ∷ after)))
unfolding run_of_l5 own_run run_of defined_run
there = refl

-- what antt computes of the run
record Computed : Type 0 where
  old_rate : HasRate 0 0 1 l5_early
  new_rate : HasRate 0 0 3 l5_late
  first_accepted : first.verdict ≡ Ok tt
  second_accepted : second.verdict ≡ Ok tt
  first_after_slot_0 : first.state.slot ≡ 1

computed : Computed
unfolding run_of defined_run start_of start_verdict fresh_with overlaid arrive_of arrive_verdict load_of load_verdict step_of step_verdict after_slot takeover_of valid_of plans_valid plan_valid flows_valid ports_valid port_valid depth_in_range store_fits board_choices head_choices choices_of room_for_all room_for moves_of board_moves move_of sends_of head_sends send_of counts_of counts_after cleared_below choose_of best_of better eligible rounded_up accept_of ports_in_range frame_in_range row_sum column_sum list_below
computed =
    record {
      old_rate = (tt, (tt, (tt, (tt, (λ _. refl, (tt, (λ _. refl, (tt, (λ _. refl, (λ _. refl, tt))))))))));
      new_rate = (λ _. refl, (λ _. refl, (λ _. refl, (λ _. refl, tt))));
      first_accepted = refl;
      second_accepted = refl;
      first_after_slot_0 = refl;
    }

pub old_rate : HasRate 0 0 1 l5_early
old_rate = computed.old_rate

pub new_rate : HasRate 0 0 3 l5_late
new_rate = computed.new_rate

pub first_never_ran : NeverRan (final_state (started 2 4 l5_rates).state before) store 2 4 l5_first (stepped own slot ∷ []) 2 4 l5_second second
unfolding run_of_l5 own_run
first_never_ran =
    (plans_of_every_run run_of_l5).replaced_never_ran before 2 4 l5_first first (stepped own slot ∷ []) 2 4 l5_second second after there
    computed.first_accepted (λ h. omega (arith, h.1, computed.first_after_slot_0), λ h. h, tt) computed.second_accepted
