-- Case C10: the scope's printout, computed by the definitions from the bytes of its file; and a refused file.
use Prim.Native.Nat.{ℕ}
use mathlib.Core.List.{List, [], ◌∷◌, ◌++◌}
use mathlib.Core.Path.{◌≡◌, refl}
use Rattle.std.specs.Prelude.{codes}
use Rattle.plan.specs.Below.{list_below}
use Rattle.plan.specs.Lines.{row_sum, column_sum}
use Rattle.plan.specs.Range.{ports_in_range, frame_in_range}
use Rattle.plan.specs.Accept.{accept_of}
use Rattle.planfile.specs.Layout.{is_marked, rates_of, padded_to}
use Rattle.planfile.specs.Read.{verdict_of, read_of}
use Rattle.multiplexer.specs.Choose.{eligible, rounded_up, better, best_of, choose_of}
use Rattle.multiplexer.specs.Count.{counts_after, cleared_below}
use Rattle.side.specs.Choices.{choices_of}
use Rattle.fabric.specs.Moves.{move_of, board_moves, moves_of, room_for, room_for_all}
use Rattle.fabric.specs.Sends.{send_of, head_sends, sends_of}
use Rattle.side.specs.Counts.{counts_of}
use Rattle.crossbar.specs.State.{depth_in_range, store_fits}
use Rattle.planpair.specs.Valid.{plan_valid, plans_valid}
use Rattle.side.specs.Valid.{ports_valid}
use Rattle.fabric.specs.Valid.{flows_valid}
use Rattle.multiplexer.specs.Valid.{port_valid}
use Rattle.crossbar.specs.Valid.{valid_of}
use Rattle.planpair.specs.Rates.{overlaid}
use Rattle.crossbar.specs.Start.{fresh_with, start_verdict, start_of}
use Rattle.crossbar.specs.Takeover.{takeover_of}
use Rattle.crossbar.specs.Step.{board_choices, head_choices, after_slot, step_verdict, step_of}
use Rattle.console.specs.Text.{digits_of}
use Rattle.console.specs.TextBelow.{text_below}
use Rattle.console.specs.Refused.{refusal_line_of}
use Rattle.frame.specs.Printout.{header_of, slot_line_of, slot_lines_of, frame_printout_of, printout_of}

-- "4C 53 50 01 00 02 02 00 01 00 01 00 01 00 00 00 (hexadecimal)"
abbrev scope_file : List ℕ
scope_file = 0x4c ∷ 0x53 ∷ 0x50 ∷ 0x01 ∷ 0x00 ∷ 0x02 ∷ 0x02 ∷ 0x00 ∷ 0x01 ∷ 0x00 ∷ 0x01 ∷ 0x00 ∷ 0x01 ∷ 0x00 ∷ 0x00 ∷ 0x00 ∷ []

abbrev header : List ℕ
header = codes "slot in0 in1 out0 out1\n"

abbrev slot0 : List ℕ
slot0 = codes "0 0 0 0 0\n"

abbrev slot1 : List ℕ
slot1 = codes "1 1 - 1 -\n"

case_10 : printout_of scope_file ≡ header ++ slot0 ++ slot1
unfolding printout_of read_of verdict_of is_marked rates_of padded_to frame_printout_of start_of start_verdict fresh_with overlaid slot_lines_of step_of step_verdict after_slot takeover_of valid_of plans_valid plan_valid flows_valid ports_valid port_valid depth_in_range store_fits board_choices head_choices choices_of room_for_all room_for moves_of board_moves move_of sends_of head_sends send_of counts_of counts_after cleared_below choose_of best_of better eligible rounded_up accept_of ports_in_range frame_in_range row_sum column_sum list_below header_of slot_line_of text_below digits_of
case_10 = refl

-- the table's small example for number 15: refused 15
empty_file : printout_of [] ≡ codes "refused 15\n"
unfolding printout_of read_of verdict_of refusal_line_of digits_of
empty_file = refl
