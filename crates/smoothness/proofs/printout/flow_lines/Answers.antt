use Rattle.std.proofs.Common.{◌≡◌, ◌∙◌, true, sym, ap, arith, length, refl, Ok}
use Rattle.meter.specs.Search.{measured_of}
use Rattle.meter.proofs.AnswerLaws.{cover_only}
use Rattle.console.proofs.TextBelowLaws.{below_room, below_skip, below_step}
use Rattle.smoothness.specs.Printout.{line_of, stretches_of, counts, flow_lines_of}
use Rattle.smoothness.proofs.PrintoutLaws.{stretch_line, no_stretch, length_measured, measured_stretch}
use Rattle.smoothness.proofs.StretchLaws.{length_at, counts_some}
use Rattle.smoothness.proofs.printout.flow_lines.Goals as goal
use Rattle.smoothness.proofs.printout.flow_lines.Goals.{After-cover, After-unwrap-measured}

measured : (c : After-cover) → c.cover.result ≡ Ok (measured_of c.args.recorded.now c.args.flow.board (length_at c.args.flow.head.frame c.loop-k.k))
measured c =
    let f = c.args.flow in
    length_measured c.args.recorded.now f.head.number f.board f.rate f.head.frame f.head.some_slot c.requires.2 c.requires.3 c.loop-k.k _ c.cover.ensures

pub unwrap-measured-requires : goal.unwrap-measured-requires
unwrap-measured-requires c = rw (measured c) refl

-- the line of a length that counts
counted : (c : After-unwrap-measured) →
    let f = c.args.flow in
    let k = c.loop-k.k in
    (counts (stretches_of f.head.frame) k ≡ true)
    × (stretch_line c.args.recorded.now f.head.number f.board f.rate f.head.frame k ≡ line_of f.head.number f.board f.rate (length_at f.head.frame k) f.head.frame c.unwrap-measured.result)
counted c =
    let f = c.args.flow in
    let told = cover_only c.args.recorded.now f.board (length_at f.head.frame c.loop-k.k) _ c.cover.ensures in
    let yes = sym c.counts.ensures ∙ c.if-not-counts.false in
    (yes, measured_stretch _ _ _ _ _ _ _ yes (sym c.unwrap-measured.ensures ∙ told))

pub loop-k-preserved-then-not-counts : goal.loop-k-preserved-then-not-counts
loop-k-preserved-then-not-counts c =
    below_skip _ _ c.loop-k.invariant (no_stretch _ _ _ _ _ _ (sym c.counts.ensures ∙ c.if-not-counts.true))

pub line-requires : goal.line-requires
unfolding flow_lines_of
line-requires c =
    let is = counted (goal.at.line-requires c).After-unwrap-measured in
    (counts_some _ _ is.0, omega (arith, ap length is.1, below_room _ _ c.loop-k.invariant c.loop-k-test.true, c.requires.1))

pub loop-k-preserved : goal.loop-k-preserved
loop-k-preserved c =
    let is = counted (goal.at.loop-k-preserved c).After-unwrap-measured in
    below_step _ _ c.loop-k.invariant is.1 c.line.ensures
