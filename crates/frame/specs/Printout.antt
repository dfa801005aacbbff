-- The printout of a plan file: "The program reads it from standard input and prints the choices of one frame: a header,
-- then a line a slot with the slot, the output chosen by each input, the input chosen by each output, "-" for idle. The
-- header names the ports below N as shown; one space parts the fields and each line ends in LF. The program stops at the
-- first refusal and prints "refused", a space and its number."
use Rattle.std.specs.Prelude.{ℕ, zero, suc, ◌+◌, ◌*◌, List, [], ◌++◌, replicate, codes, Result, Ok, Err}
use Rattle.refusal.specs.Chain.{if_accepted}
use Rattle.refusal.specs.declared.Refusal.{Refusal}
use Rattle.plan.specs.Range.{most_ports, most_slots}
use Rattle.plan.specs.declared.Plan.{Plan}
use Rattle.planfile.specs.Read.{read_of}
use Rattle.fabric.specs.Answer.{answer_of}
use Rattle.fabric.specs.declared.flow.Answer.{Answer}
use Rattle.fabric.specs.declared.flow.Answer.TheVariants.{Idle, Empty, Moved}
use Rattle.planpair.specs.Rates.{plan_rates}
use Rattle.crossbar.specs.Start.{start_of}
use Rattle.crossbar.specs.Step.{step_of}
use Rattle.crossbar.specs.declared.state.Switch.{Switch}
use Rattle.console.specs.Text.{decimal_of, field_of}
use Rattle.console.specs.Refused.{line_end, refusal_line_of}
use Rattle.console.specs.TextBelow.{text_below}

-- the names of the sides, with the space that parts each from the field before
abbrev pub input_name : List ℕ
input_name = codes " in"

abbrev pub output_name : List ℕ
output_name = codes " out"

-- the ports below n, each by its side's name and its number
abbrev pub names_of : List ℕ → ℕ → List ℕ
names_of side n = text_below (λ p. side ++ decimal_of p) n

-- "The header names the ports below N as shown"
unfoldable pub header_of : ℕ → List ℕ
header_of n = codes "slot" ++ names_of input_name n ++ names_of output_name n ++ line_end

-- the port that was chosen, "-" for idle
abbrev pub choice_of : Answer → List ℕ
choice_of Idle = codes " -"
choice_of (Empty other) = field_of other
choice_of (Moved other cell) = field_of other

-- the choices of the ports below n
abbrev pub side_choices_of : List Answer → ℕ → List ℕ
side_choices_of answers n = text_below (λ p. choice_of (answer_of answers p)) n

-- "a line a slot with the slot, the output chosen by each input, the input chosen by each output"
unfoldable pub slot_line_of : ℕ → List Answer → List Answer → ℕ → List ℕ
slot_line_of slot boards heads n = decimal_of slot ++ side_choices_of boards n ++ side_choices_of heads n ++ line_end

-- the lines of the slots from `slot` on, `left` of them: each step gets the state that the last one returned, and "the
-- program stops at the first refusal"
unfoldable pub slot_lines_of : Switch → List ℕ → ℕ → ℕ → ℕ → List ℕ
slot_lines_of s store n slot zero = []
slot_lines_of s store n slot (suc left) =
    let done = step_of s store in
    if_accepted done.verdict
    (slot_line_of slot done.moves done.sends n ++ slot_lines_of done.state store n (suc slot) left)
    (refusal_line_of done.verdict)

-- "a header, then a line a slot" of one frame from a fresh start. No cell arrives, and "neither queues nor crossings are
-- looked at" by a choice: a store for Q = 1 will do.
unfoldable pub frame_printout_of : Plan → List ℕ
frame_printout_of plan =
    let n = plan.ports in
    let store : List ℕ = replicate (n * n) 0 in
    let started = start_of n plan.frame (plan_rates plan) 1 store in
    if_accepted started.verdict
    (header_of n ++ slot_lines_of started.state store n 0 plan.frame)
    (refusal_line_of started.verdict)

-- what the program prints of a plan, or of the refusal of its file
abbrev pub printed_of : Result Plan Refusal → List ℕ
printed_of (Ok plan) = frame_printout_of plan
printed_of (Err why) = refusal_line_of (Err why)

-- what the program prints of the file with these bytes
unfoldable pub printout_of : List ℕ → List ℕ
printout_of file = printed_of (read_of file)

-- Room for every printout, by proofs/RoomLaws.antt: a port has at most two digits, and a slot four.
-- "slot", the names of inputs and outputs, LF
abbrev pub header_room : ℕ
header_room = 4 + most_ports * 5 + most_ports * 6 + 1

-- the slot, the choices of inputs and outputs, LF
abbrev pub slot_line_room : ℕ
slot_line_room = 4 + most_ports * 3 + most_ports * 3 + 1

abbrev pub printout_room : ℕ
printout_room = header_room + most_slots * slot_line_room
