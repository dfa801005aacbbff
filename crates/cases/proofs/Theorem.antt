-- The single theorem over the scope's table: antt computes both sides of each line.
use mathlib.Core.Path.{refl}
use Rattle.plan.specs.Below.{list_below}
use Rattle.plan.specs.Lines.{row_sum, column_sum}
use Rattle.plan.specs.Range.{ports_in_range, frame_in_range}
use Rattle.plan.specs.Accept.{accept_of}
use Rattle.regulator.specs.Outcome.{lists_of}
use Rattle.regulator.specs.Scale.{scaled_of, scale_of}
use Rattle.regulator.specs.Boost.{column_on, boost_place, boost_diagonal, diagonal_in, boost_diagonals, boosted_of, boost_verdict, boost_of}
use Rattle.multiplexer.specs.Choose.{eligible, rounded_up, better, best_of, choose_of}
use Rattle.multiplexer.specs.Count.{counts_after, cleared_below}
use Rattle.multiplexer.specs.Frame.{counts_at}
use Rattle.side.specs.Choices.{choices_of}
use Rattle.fabric.specs.Moves.{move_of, board_moves, moves_of, room_for, room_for_all}
use Rattle.fabric.specs.Sends.{send_of, head_sends, sends_of}
use Rattle.side.specs.Counts.{counts_of}
use Rattle.crossbar.specs.State.{depth_in_range, store_fits}
use Rattle.planpair.specs.Valid.{plan_valid, plans_valid}
use Rattle.side.specs.Valid.{ports_valid}
use Rattle.fabric.specs.Valid.{flows_valid}
use Rattle.multiplexer.specs.Valid.{port_valid}
use Rattle.crossbar.specs.Valid.{valid_of}
use Rattle.planpair.specs.Rates.{overlaid}
use Rattle.crossbar.specs.Start.{fresh_with, start_verdict, start_of}
use Rattle.crossbar.specs.Arrive.{arrive_verdict, arrive_of}
use Rattle.crossbar.specs.Load.{load_verdict, load_of}
use Rattle.crossbar.specs.Takeover.{takeover_of}
use Rattle.crossbar.specs.Step.{board_choices, head_choices, after_slot, step_verdict, step_of}
use Rattle.runs.specs.Run.{defined_run}
use Rattle.cases.specs.Look.{run_of, slots_of, slots_from, load_verdicts}
use Rattle.cases.specs.Table.{Hold, table}

pub cases_hold : Hold table
unfolding run_of slots_of slots_from load_verdicts defined_run start_of start_verdict fresh_with overlaid arrive_of arrive_verdict load_of load_verdict step_of step_verdict after_slot takeover_of valid_of plans_valid plan_valid flows_valid ports_valid port_valid depth_in_range store_fits board_choices head_choices choices_of room_for_all room_for moves_of board_moves move_of sends_of head_sends send_of counts_of counts_after cleared_below counts_at choose_of best_of better eligible rounded_up scale_of scaled_of boost_of boost_verdict boosted_of boost_diagonals diagonal_in boost_diagonal boost_place column_on lists_of accept_of ports_in_range frame_in_range row_sum column_sum list_below
cases_hold = (refl, (refl, (refl, (refl, (refl, (refl, (refl, (refl, (refl, (refl, (refl, (refl, (refl, (refl, (refl, (refl, (refl, (refl, (refl, (refl, (refl, (refl, (refl, (refl, (refl, (refl, (refl, (refl, (refl, (refl, (refl, (refl, (refl, (refl, (refl, (refl, (refl, (refl, (refl, (refl, (refl, (refl, (refl, (refl, (refl, (refl, (refl, tt)))))))))))))))))))))))))))))))))))))))))))))))
