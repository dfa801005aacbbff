use Rattle.std.proofs.Common.{ℕ, List, refl, arith, ap, length, length-append, ◌≡◌, ◌∙◌, ◌+◌, ◌≤◌}
use Rattle.refusal.specs.Number.{verdict_number_of}
use Rattle.refusal.specs.Verdict.{Verdict}
use Rattle.console.specs.Text.{decimal_of, HasRoom}
use Rattle.console.specs.Refused.{refusal_line_of}
use Rattle.console.proofs.BufferLaws.{written_as, written_on}
use Rattle.console.proofs.text.refusal_line.Goals as goal

-- the word, the number and the line's end
room : (v : Verdict) {buffer : List ℕ} {at n : ℕ} → HasRoom buffer at (refusal_line_of v) → n ≡ verdict_number_of v → at + (8 + length (decimal_of n) + 1) ≤ length buffer
unfolding refusal_line_of
room v r e = rw e (omega (arith, simp length-append at r.enough))

pub put-number_at-requires : goal.put-number_at-requires
put-number_at-requires c = omega (arith, room _ c.requires refl)

pub number-end-requires : goal.number-end-requires
number-end-requires c = omega (arith, room _ c.requires (c.from.ensures ∙ c.verdict_number.ensures))

pub put-requires : goal.put-requires
put-requires c = omega (arith, room _ c.requires (c.from.ensures ∙ c.verdict_number.ensures))

pub returns : goal.returns
unfolding refusal_line_of
returns c = written_on c.put-number_at.ensures (written_on (written_as c.number-end.ensures (ap decimal_of (c.from.ensures ∙ c.verdict_number.ensures))) c.put.ensures)
