-- The shares of demand 3 are reached: each by a run in the sense of the promise, in a stretch that is computed.
use Prim.Native.Nat.{ℕ}
use mathlib.Core.Path.{◌≡◌, refl}
use mathlib.Core.List.{List, ◌++◌}
use lib.ListN.{length, take, drop, take-append-drop}
use Rattle.std.specs.Prelude.{Ok}
use Rattle.plan.specs.Below.{list_below}
use Rattle.plan.specs.Lines.{row_sum, column_sum}
use Rattle.plan.specs.Range.{ports_in_range, frame_in_range}
use Rattle.plan.specs.Accept.{accept_of}
use Rattle.multiplexer.specs.Choose.{eligible, rounded_up, better, best_of, choose_of}
use Rattle.multiplexer.specs.Count.{counts_after, cleared_below}
use Rattle.side.specs.Choices.{choices_of}
use Rattle.fabric.specs.Moves.{move_of, board_moves, moves_of, room_for, room_for_all}
use Rattle.fabric.specs.Sends.{send_of, head_sends, sends_of}
use Rattle.side.specs.Counts.{counts_of}
use Rattle.crossbar.specs.State.{depth_in_range, store_fits}
use Rattle.planpair.specs.Valid.{plan_valid, plans_valid}
use Rattle.side.specs.Valid.{ports_valid}
use Rattle.fabric.specs.Valid.{flows_valid}
use Rattle.multiplexer.specs.Valid.{port_valid}
use Rattle.crossbar.specs.Valid.{valid_of}
use Rattle.planpair.specs.Rates.{overlaid}
use Rattle.crossbar.specs.Start.{fresh_with, start_verdict, start_of}
use Rattle.crossbar.specs.Arrive.{arrive_verdict, arrive_of}
use Rattle.crossbar.specs.Takeover.{takeover_of}
use Rattle.crossbar.specs.Step.{board_choices, head_choices, after_slot, step_verdict, step_of}
use Rattle.runs.specs.Event.{Event}
use Rattle.runs.specs.Run.{Run, defined_run}
use Rattle.runs.specs.Flow.{collect, total, left, slots, NeverEmpty, HasRate}
use Rattle.cases.specs.Look.{started, run_of}
use Rattle.cases.specs.Table.{lower_rates, lower_before, lower_stretch, lower_after, lower_run, upper_rates, upper_before, upper_stretch, upper_after, upper_run}
use Rattle.cases.specs.Reached.{LowerReached, UpperReached}
use Rattle.cases.proofs.OwnRuns.{own_run}

-- k events, m events, and the rest
in_three : (k m : ℕ) (es : List Event) → es ≡ take k es ++ (take m (drop k es) ++ drop m (drop k es))
in_three k m es = rw (take-append-drop m (drop k es), take-append-drop k es) refl

starts : ((started 2 10 lower_rates).verdict ≡ Ok tt) × ((started 2 6 upper_rates).verdict ≡ Ok tt)
unfolding start_of start_verdict accept_of ports_in_range frame_in_range row_sum column_sum depth_in_range store_fits
starts = (refl, refl)

pub run_of_lower : Run
run_of_lower = own_run 2 10 lower_rates (lower_before ++ lower_stretch ++ lower_after) starts.0 refl

pub run_of_upper : Run
run_of_upper = own_run 2 6 upper_rates (upper_before ++ upper_stretch ++ upper_after) starts.1 refl

-- slots 4 to 8 of the one with what is before them, and slots 1 to 3 of the other
abbrev lower_first : List Event
lower_first = take (length lower_before) lower_run

abbrev lower_slots : List Event
lower_slots = take (length lower_stretch) (drop (length lower_before) lower_run)

abbrev upper_slots : List Event
upper_slots = take (length upper_stretch) (drop (length upper_before) upper_run)

-- what antt computes of them
record Computed : Type 0 where
  lower_rate : HasRate 0 0 4 lower_slots
  lower_fed : NeverEmpty 0 0 (lower_first ++ lower_slots)
  lower_slots_lem : slots lower_slots ≡ 5
  lower_sent : length (left 0 0 lower_slots) ≡ 0
  upper_rate : HasRate 0 0 2 upper_slots
  upper_slots_lem : slots upper_slots ≡ 3
  upper_sent : length (left 0 0 upper_slots) ≡ 2

computed : Computed
unfolding run_of defined_run start_of start_verdict fresh_with overlaid arrive_of arrive_verdict step_of step_verdict after_slot takeover_of valid_of plans_valid plan_valid flows_valid ports_valid port_valid depth_in_range store_fits board_choices head_choices choices_of room_for_all room_for moves_of board_moves move_of sends_of head_sends send_of counts_of counts_after cleared_below choose_of best_of better eligible rounded_up accept_of ports_in_range frame_in_range row_sum column_sum list_below collect total
computed =
    record {
      lower_rate = (λ _. refl, (λ _. refl, (λ _. refl, (λ _. refl, (λ _. refl, tt)))));
      lower_fed = refl;
      lower_slots_lem = refl;
      lower_sent = refl;
      upper_rate = (λ _. refl, (λ _. refl, (λ _. refl, tt)));
      upper_slots_lem = refl;
      upper_sent = refl;
    }

-- 5 × 4 / 10 is 2, and none is sent
pub lower_reached : LowerReached run_of_lower 0 0 4
unfolding run_of_lower own_run
lower_reached =
    record {
      there =
          record {
            before = lower_first;
            stretch = lower_slots;
            after = drop (length lower_stretch) (drop (length lower_before) lower_run);
            cut = in_three (length lower_before) (length lower_stretch) lower_run;
            rate = computed.lower_rate;
          };
      fed = computed.lower_fed;
      two_short = rw (computed.lower_slots_lem, computed.lower_sent) refl;
    }

-- 3 × 2 / 6 is 1, and two are sent
pub upper_reached : UpperReached run_of_upper 0 0 2
unfolding run_of_upper own_run
upper_reached =
    record {
      there =
          record {
            before = take (length upper_before) upper_run;
            stretch = upper_slots;
            after = drop (length upper_stretch) (drop (length upper_before) upper_run);
            cut = in_three (length upper_before) (length upper_stretch) upper_run;
            rate = computed.upper_rate;
          };
      one_more = rw (computed.upper_slots_lem, computed.upper_sent) refl;
    }
