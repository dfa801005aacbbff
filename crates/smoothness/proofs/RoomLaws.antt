-- How long a printout can be, if each of its numbers has as many digits as a number of 64 bits can have.
use Prim.Native.Nat.{ℕ, ◌*◌, ◌≤◌}
use mathlib.Core.Bool.{Bool, true, false, cond}
use mathlib.Core.List.{List, []}
use mathlib.Core.Path.{◌≡◌, refl}
use native.Mathlib.Omega.{arith}
use lib.Dec.{ltb}
use lib.ListN.{length, get_or, length-append}
use Rattle.plan.specs.Range.{most_ports}
use Rattle.std.specs.Prelude.{Result, Ok, Err}
use Rattle.refusal.specs.declared.Refusal.{Refusal}
use Rattle.plan.specs.declared.Plan.{Plan}
use Rattle.planfile.specs.Read.{read_of}
use Rattle.planfile.proofs.ReadLaws.{accepted_plan}
use Rattle.planpair.specs.Rates.{plan_rates}
use Rattle.multiplexer.specs.Window.{column_of}
use Rattle.multiplexer.proofs.PortLaws.{column_length}
use Rattle.meter.specs.Bound.{least_bound, most_bound}
use Rattle.meter.specs.Search.{cover_of}
use Rattle.meter.specs.declared.Measured.{Measured}
use Rattle.console.specs.TextBelow.{text_below}
use Rattle.console.proofs.DigitLaws.{digits_within}
use Rattle.console.proofs.TextLaws.{refusal_short}
use Rattle.console.proofs.TextBelowLaws.{below_short}
use Rattle.smoothness.specs.Head.{board_lines_of}
use Rattle.smoothness.specs.Printout.{line_of, measured_in, stretches, stretches_of, counts, flow_lines_of, three_frames_of, head_lines_of, printed_of, printout_of, line_room, printout_room}
use Rattle.smoothness.proofs.StretchLaws.{length_at}
use Rattle.smoothness.proofs.PrintoutLaws.{stretch_line, head_by_rates}

line_short : (j i a l T : ℕ) (m : Measured) → length (line_of j i a l T m) ≤ line_room
unfolding line_of
line_short j i a l T m =
    simp length-append
    (omega (
      arith,
      digits_within 20 j,
      digits_within 20 i,
      digits_within 20 a,
      digits_within 20 l,
      digits_within 20 m.least.services,
      digits_within 20 (least_bound l a T),
      digits_within 20 m.most.services,
      digits_within 20 (most_bound l a T),
    ))

-- a text that may be left out
maybe_short : (k : ℕ) (b : Bool) (text : List ℕ) → length text ≤ k → length (cond b text []) ≤ k
maybe_short k true text h = h
maybe_short k false text h = omega arith

-- the lines of a flow, of a head, and of all heads
abbrev flow_room : ℕ
flow_room = stretches * line_room

flow_short : (recorded : List ℕ) (j i a T : ℕ) → length (flow_lines_of recorded j i a T) ≤ flow_room
unfolding flow_lines_of
flow_short recorded j i a T =
    below_short (stretch_line recorded j i a T) line_room stretches
    (λ k _. maybe_short line_room (counts (stretches_of T) k) _ (line_short j i a (length_at T k) T (measured_in (cover_of recorded i (length_at T k)))))

abbrev head_room : ℕ
head_room = most_ports * flow_room

module _ (plan : Plan) (few : plan.ports ≤ most_ports) where
  head_short : (j : ℕ) → length (head_lines_of plan j) ≤ head_room
  head_short j =
      let T = plan.frame in
      let rs = column_of (plan_rates plan) plan.ports j in
      let recorded = three_frames_of rs T in
      let lines = below_short (board_lines_of recorded rs j T) flow_room (length rs) (λ i _. maybe_short flow_room (ltb 0 (get_or rs i 0)) _ (flow_short recorded j i (get_or rs i 0) T)) in
      rw (head_by_rates plan j rs refl) (omega (arith, column_length (plan_rates plan) plan.ports j))

  heads_short : length (text_below (head_lines_of plan) plan.ports) ≤ most_ports * head_room
  heads_short = omega (arith, below_short (head_lines_of plan) head_room plan.ports (λ j _. head_short j))

pub printout_short : (file : List ℕ) → length (printout_of file) ≤ printout_room
unfolding printout_of
printout_short file = go (read_of file) refl
  where
    go : (r : Result Plan Refusal) → read_of file ≡ r → length (printed_of (read_of file)) ≤ printout_room
    go (Ok plan) e = rw e (omega (arith, heads_short plan (accepted_plan file plan e).is_plan.few_ports))
    go (Err why) e = rw e (omega (arith, refusal_short (Err why)))
