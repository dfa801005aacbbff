use Rattle.std.proofs.Common.{◌∙◌, ◌+◌, ◌*◌, get_or, ℕ, rules, arith}
use Rattle.std.proofs.lemmas.Iterator.{YieldsList-from_map, YieldsList-from_range}
use Rattle.std.proofs.lemmas.Iterator.Adapters.{fits_from_length, at_most_from_yields_List}
use Rattle.std.proofs.lemmas.Iterator.Consumers.{sum_from_yields_List}
use Rattle.std.proofs.lemmas.List.FromFn.{length-range_with_len}
use Rattle.plan.specs.Range.{most_ports}
use Rattle.plan.specs.Lines.{line_sum}
use Rattle.plan.proofs.BelowLaws.{sum_by_range}
use Rattle.plan.proofs.lines.Lines.sum.Goals as goal

-- no more numbers than ports, each of 16 bits
pub sum-requires-clause-fits : goal.sum-requires-clause-fits
sum-requires-clause-fits c =
    let n = c.args.self.now.n in
    fits_from_length _ _ most_ports _ (at_most_from_yields_List (YieldsList-from_range 0 n n c.map.ensures.source (omega arith)) (omega (arith, length-range_with_len 0 n)))
    c.map.ensures.closure (omega arith) (λ m r q k. search (rules, arith))

pub returns : goal.returns
unfolding line_sum
returns c =
    let a = c.args.self.now in
    let rate = λ (m : ℕ). get_or a.list.now (c.args.k * a.across + m * a.along) 0 in
    sum_from_yields_List _ _ c.sum.ensures.ran
    (YieldsList-from_map _ rate (YieldsList-from_range 0 a.n a.n c.map.ensures.source (omega arith)) c.map.ensures.closure (λ m r q k. search rules))
    ∙ sum_by_range rate a.n
