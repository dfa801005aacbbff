-- Whole printouts, computed by the definitions from the bytes of a file; and that of a refused one.
use Prim.Native.Nat.{ℕ}
use mathlib.Core.List.{List, [], ◌∷◌, ◌++◌}
use mathlib.Core.Path.{◌≡◌, refl}
use Rattle.std.specs.Prelude.{codes}
use Rattle.plan.specs.Below.{list_below}
use Rattle.plan.specs.Lines.{row_sum, column_sum}
use Rattle.plan.specs.Range.{ports_in_range, frame_in_range}
use Rattle.plan.specs.Accept.{accept_of}
use Rattle.planfile.specs.Layout.{is_marked, rates_of, padded_to}
use Rattle.planfile.specs.Read.{verdict_of, read_of}
use Rattle.multiplexer.specs.Choose.{eligible, rounded_up, better, best_of, choose_of}
use Rattle.multiplexer.specs.Count.{counts_after, cleared_below}
use Rattle.meter.specs.Cover.{cover_at}
use Rattle.meter.specs.Answer.{cover_verdict}
use Rattle.meter.specs.Record.{record_from}
use Rattle.meter.specs.Search.{or_better, kept_to, measured_of, cover_of}
use Rattle.console.specs.Text.{digits_of}
use Rattle.console.specs.TextBelow.{text_below}
use Rattle.console.specs.Refused.{refusal_line_of}
use Rattle.smoothness.specs.Printout.{header_text, line_of, counts, flow_lines_of, three_frames_of, head_lines_of, printout_of}

-- one output, T = 4, and a rate of 3: T / 4 is 1 again
abbrev one_output : List ℕ
one_output = 0x4c ∷ 0x53 ∷ 0x50 ∷ 0x01 ∷ 0x00 ∷ 0x01 ∷ 0x04 ∷ 0x00 ∷ 0x03 ∷ 0x00 ∷ []

abbrev in1 : List ℕ
in1 = codes "0 0 3 1 0 0 1 1\n"

abbrev in2 : List ℕ
in2 = codes "0 0 3 2 1 1 2 2\n"

abbrev in4 : List ℕ
in4 = codes "0 0 3 4 3 2 3 4\n"

one_output_lem : printout_of one_output ≡ header_text ++ in1 ++ in2 ++ in4
unfolding printout_of read_of verdict_of is_marked rates_of padded_to accept_of ports_in_range frame_in_range row_sum column_sum list_below head_lines_of three_frames_of record_from choose_of best_of better eligible rounded_up counts_after cleared_below flow_lines_of counts cover_of cover_verdict measured_of cover_at kept_to or_better line_of text_below digits_of
one_output_lem = refl

-- the scope's file, two of each and T = 2: T / 4 is 0, T / 2 is 1 again, and flow (1, 1) has rate 0
abbrev scope_file : List ℕ
scope_file = 0x4c ∷ 0x53 ∷ 0x50 ∷ 0x01 ∷ 0x00 ∷ 0x02 ∷ 0x02 ∷ 0x00 ∷ 0x01 ∷ 0x00 ∷ 0x01 ∷ 0x00 ∷ 0x01 ∷ 0x00 ∷ 0x00 ∷ 0x00 ∷ []

abbrev out0in0_1 : List ℕ
out0in0_1 = codes "0 0 1 1 0 0 1 1\n"

abbrev out0in0_2 : List ℕ
out0in0_2 = codes "0 0 1 2 1 0 1 2\n"

abbrev out0in1_1 : List ℕ
out0in1_1 = codes "0 1 1 1 0 0 1 1\n"

abbrev out0in1_2 : List ℕ
out0in1_2 = codes "0 1 1 2 1 0 1 2\n"

abbrev out1in0_1 : List ℕ
out1in0_1 = codes "1 0 1 1 0 0 1 1\n"

abbrev out1in0_2 : List ℕ
out1in0_2 = codes "1 0 1 2 1 0 1 2\n"

scope_file_lem : printout_of scope_file ≡ header_text ++ out0in0_1 ++ out0in0_2 ++ out0in1_1 ++ out0in1_2 ++ out1in0_1 ++ out1in0_2
unfolding printout_of read_of verdict_of is_marked rates_of padded_to accept_of ports_in_range frame_in_range row_sum column_sum list_below head_lines_of three_frames_of record_from choose_of best_of better eligible rounded_up counts_after cleared_below flow_lines_of counts cover_of cover_verdict measured_of cover_at kept_to or_better line_of text_below digits_of
scope_file_lem = refl

-- refused 15
empty_file : printout_of [] ≡ codes "refused 15\n"
unfolding printout_of read_of verdict_of refusal_line_of digits_of
empty_file = refl

-- a record of no slots is refused in each length, and its measurements are 0
no_record : flow_lines_of [] 0 0 1 4 ≡ codes "0 0 1 1 0 0 0 1\n" ++ codes "0 0 1 2 0 0 0 2\n" ++ codes "0 0 1 4 0 0 0 2\n"
unfolding flow_lines_of counts cover_of cover_verdict line_of rounded_up text_below digits_of
no_record = refl
