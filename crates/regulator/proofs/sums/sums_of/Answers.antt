use Rattle.std.proofs.Common.{ℕ, ◌∙◌, [], ◌∷◌, arith}
use Rattle.std.proofs.Math.ListN.{get_or-append}
use Rattle.std.proofs.lemmas.List.{length-take-le}
use Rattle.plan.specs.Lines.{line_sum}
use Rattle.regulator.proofs.HoldsLaws.{holds_next}
use Rattle.regulator.proofs.sums.sums_of.Goals as goal

pub loop-k-preserved : goal.loop-k-preserved
loop-k-preserved c =
    let at = c.loop-k in
    let lines = c.args.lines.now in
    holds_next at.sum-items (line_sum lines.list.now lines.n lines.across lines.along) at.k _ (omega (arith, at.auto.sum-items, c.loop-k-test.true)) at.invariant c.sum.ensures

pub returns : goal.returns
returns c k h =
    let at = c.loop-k in
    let n = c.args.lines.now.n in
    let room = length-take-le {A = ℕ} n (0 ∷ 0 ∷ 0 ∷ 0 ∷ 0 ∷ 0 ∷ 0 ∷ 0 ∷ 0 ∷ 0 ∷ 0 ∷ 0 ∷ 0 ∷ 0 ∷ 0 ∷ 0 ∷ []) c.args.lines.now.within.few in
    get_or-append at.sum-items _ 0 k (omega (arith, room, at.auto.sum-items, h)) ∙ at.invariant k (omega (arith, room, c.loop-k-test.false, h))
