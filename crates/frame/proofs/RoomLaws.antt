-- How long a printout can be.
use Prim.Native.Nat.{ℕ, zero, suc, ◌+◌, ◌*◌, ◌<◌, ◌≤◌}
use mathlib.Core.List.{List, ◌++◌}
use mathlib.Core.Path.{◌≡◌, refl}
use native.Mathlib.Omega.{arith}
use lib.ListN.{length, replicate, length-append}
use Rattle.std.specs.Prelude.{Result, Ok, Err}
use Rattle.refusal.specs.declared.Refusal.{Refusal}
use Rattle.plan.specs.Range.{most_ports, most_slots}
use Rattle.plan.specs.declared.Plan.{Plan}
use Rattle.planfile.specs.Read.{read_of}
use Rattle.planfile.proofs.ReadLaws.{accepted_plan}
use Rattle.fabric.specs.Answer.{answer_of}
use Rattle.fabric.specs.declared.flow.Answer.{Answer}
use Rattle.fabric.specs.declared.flow.Answer.TheVariants.{Idle, Empty, Moved}
use Rattle.fabric.proofs.NameLaws.{NamesPort}
use Rattle.planpair.specs.Rates.{plan_rates}
use Rattle.crossbar.specs.Start.{start_of}
use Rattle.crossbar.specs.Step.{step_of}
use Rattle.crossbar.specs.declared.state.Switch.{Switch}
use Rattle.crossbar.proofs.AnswerLaws.{step_moves_name, step_sends_name}
use Rattle.console.specs.Text.{decimal_of}
use Rattle.frame.specs.Printout.{input_name, output_name, names_of, header_of, choice_of, side_choices_of, slot_line_of, slot_lines_of, frame_printout_of, printed_of, printout_of, header_room, slot_line_room, printout_room}
use Rattle.console.proofs.DigitLaws.{decimal_short}
use Rattle.console.proofs.TextLaws.{refusal_short, either_short}
use Rattle.console.proofs.TextBelowLaws.{below_short}

-- the number of a port
port_short : (p : ℕ) → p < most_ports → length (decimal_of p) ≤ 2
port_short p l = decimal_short 2 p (omega arith) (omega arith) (omega arith)

names_short : (side : List ℕ) (n : ℕ) → n ≤ most_ports → length (names_of side n) ≤ n * (length side + 2)
names_short side n few =
    below_short (λ p. side ++ decimal_of p) (length side + 2) n
    (λ p l. omega (arith, length-append side (decimal_of p), port_short p (omega arith)))

header_short : (n : ℕ) → n ≤ most_ports → length (header_of n) ≤ header_room
unfolding header_of
header_short n few = simp length-append (omega (arith, names_short input_name n few, names_short output_name n few))

choice_short : (a : Answer) → NamesPort a → length (choice_of a) ≤ 3
choice_short Idle h = omega arith
choice_short (Empty other) h = omega (arith, port_short other h)
choice_short (Moved other cell) h = omega (arith, port_short other h)

choices_short : (answers : List Answer) (n : ℕ) → ((p : ℕ) → NamesPort (answer_of answers p)) → length (side_choices_of answers n) ≤ n * 3
choices_short answers n named = below_short _ 3 n (λ p _. choice_short (answer_of answers p) (named p))

slot_short : (s : Switch) (store : List ℕ) (n slot : ℕ) → n ≤ most_ports → slot < most_slots
    → length (slot_line_of slot (step_of s store).moves (step_of s store).sends n) ≤ slot_line_room
unfolding slot_line_of
slot_short s store n slot few l =
    let r = step_of s store in
    simp length-append
    (omega (
      arith,
      decimal_short 4 slot (omega arith) (omega arith) (omega arith),
      choices_short r.moves n (step_moves_name s store),
      choices_short r.sends n (step_sends_name s store),
    ))

lines_short : (s : Switch) (store : List ℕ) (n slot left : ℕ) → n ≤ most_ports → slot + left ≤ most_slots → length (slot_lines_of s store n slot left) ≤ left * slot_line_room
unfolding slot_lines_of
lines_short s store n slot zero few l = omega arith
lines_short s store n slot (suc left) few l =
    let r = step_of s store in
    either_short (suc left * slot_line_room) r.verdict _ _
    (λ _. simp length-append (omega (arith, slot_short s store n slot few (omega arith), lines_short r.state store n (suc slot) left few (omega arith))))
    (omega (arith, refusal_short r.verdict))

frame_short : (plan : Plan) → plan.ports ≤ most_ports → plan.frame ≤ most_slots → length (frame_printout_of plan) ≤ printout_room
unfolding frame_printout_of
frame_short plan few l =
    let n = plan.ports in
    let store : List ℕ = replicate (n * n) 0 in
    let r = start_of n plan.frame (plan_rates plan) 1 store in
    either_short printout_room r.verdict _ _
    (λ _. simp length-append (omega (arith, header_short n few, lines_short r.state store n 0 plan.frame few (omega arith))))
    (omega (arith, refusal_short r.verdict))

printed_short : (file : List ℕ) (r : Result Plan Refusal) → read_of file ≡ r → length (printed_of r) ≤ printout_room
printed_short file (Ok plan) e = let p = (accepted_plan file plan e).is_plan in frame_short plan p.few_ports p.few_slots
printed_short file (Err why) e = omega (arith, refusal_short (Err why))

pub printout_short : (file : List ℕ) → length (printout_of file) ≤ printout_room
unfolding printout_of
printout_short file = printed_short file (read_of file) refl
