-- How long the printout can be, if each of its numbers has as many digits as a number of 64 bits can have.
use Prim.Native.Nat.{ℕ, ◌+◌, ◌*◌, ◌≤◌}
use native.Mathlib.Omega.{arith}
use lib.ListN.{length, length-append}
use Rattle.multiplexer.specs.Choose.{rounded_up}
use Rattle.multiplexer.specs.Deadlines.{table_frame}
use Rattle.console.proofs.DigitLaws.{digits_within}
use Rattle.console.proofs.TextBelowLaws.{below_short}
use Rattle.deadlines.specs.Printout.{line_of, rate_lines_of, printout_of, line_room, printout_room}

line_short : (value : ℕ) → length (line_of value) ≤ line_room
line_short value = simp length-append (omega (arith, digits_within 20 value))

rate_short : (a : ℕ) → a ≤ table_frame → length (rate_lines_of a) ≤ table_frame * line_room
unfolding rate_lines_of
rate_short a l =
    let deadline : ℕ → ℕ = λ k. rounded_up ((k + 1) * table_frame) a in
    omega (arith, below_short (λ k. line_of (deadline k)) line_room a (λ k _. line_short (deadline k)))

pub printout_short : length printout_of ≤ printout_room
unfolding printout_of
printout_short = below_short (λ b. rate_lines_of (b + 1)) (table_frame * line_room) table_frame (λ b l. rate_short (b + 1) (omega arith))
