use Prim.Native.Nat.{ℕ, min}
use mathlib.Core.Path.{◌≡◌, ap, ◌∙◌}
use native.Mathlib.Omega.{arith}
use native.Mathlib.Numerals.{add-one}
use lib.ListN.{length, get_or, take, length-take}
use lib.Seq.{get_or-take}
use Rattle.plan.specs.Range.{most_ports}
use Rattle.multiplexer.specs.Choose.{best_of, choose_of}
use Rattle.multiplexer.specs.Candidate.{choice_of}
use Rattle.multiplexer.specs.declared.Candidate.{Candidate}
use Rattle.multiplexer.proofs.NumberLaws.{number_of, number_chosen}
use Rattle.multiplexer.proofs.CandidateLaws.{kept_none, kept_next}
use Rattle.multiplexer.proofs.Multiplexer.best.Goals as goal

pub loop-f-init : goal.loop-f-init
unfolding best_of
loop-f-init c = let a = c.args in rw c.rank.ensures (kept_none a.rates.now a.self.served a.frame)

pub loop-f-preserved : goal.loop-f-preserved
unfolding best_of
loop-f-preserved c =
    let loop = c.loop-f in
    let a = c.args in
    let so_far = best_of a.rates.now a.self.served a.frame a.slot loop.f in
    let rate : get_or (take c.min.result a.rates.now) loop.f 0 ≡ get_or a.rates.now loop.f 0 = get_or-take c.min.result a.rates.now loop.f 0 (omega (arith, length-take c.min.result a.rates.now)) in
    let next = kept_next a.rates.now a.self.served a.frame loop.f _ loop.best so_far loop.invariant a.slot (rw rate at c.soonest-deadline.ensures) in
    rw (c.or_flow-best.ensures, add-one, rate) next

pub returns : goal.returns
unfolding choose_of
returns c =
    let loop = c.loop-f in
    let a = c.args in
    let e : loop.f ≡ min (length a.rates.now) most_ports = omega (arith, length-take c.min.result a.rates.now) in
    ap (λ (b : Candidate). choice_of b.flow) loop.invariant.is
    ∙ ap (λ (m : ℕ). choice_of (number_of (best_of a.rates.now a.self.served a.frame a.slot m))) e
    ∙ number_chosen a.rates.now a.self.served a.frame a.slot
