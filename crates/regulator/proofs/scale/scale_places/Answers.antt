use Rattle.std.proofs.Common.{◌≡◌, ◌*◌, ◌/◌, ◌%◌, ◌∙◌, ap, get_or, length-set, arith}
use Rattle.regulator.specs.Scale.{share_of, scaled_rate, scaled_of}
use Rattle.regulator.proofs.HoldsLaws.{holds_next, holds_same, list_holds}
use Rattle.plan.proofs.ListLaws.{length_list}
use Rattle.regulator.specs.Sums.{larger_sum}
use Rattle.regulator.proofs.FlowLaws.{place_below, place_in_row, larger_kept}
use Rattle.regulator.proofs.scale.scale_places.Goals.{After-larger}
use Rattle.regulator.proofs.scale.scale_places.Goals as goal

-- the larger sum of the flow at the place in the loop
larger_is : (c : After-larger) → c.larger.result ≡ larger_sum c.args.demands.now c.args.n (c.loop-p.p / c.args.n) (c.loop-p.p % c.args.n)
larger_is c =
    let there = place_below c.args.n c.loop-p.p c.requires.some_port (omega arith) in
    c.larger.ensures ∙ larger_kept c.args.demands.now c.args.n _ _ _ _ c.of-sums.ensures there.0 there.1

pub share-requires : goal.share-requires
share-requires c =
    let larger = larger_is (goal.at.share-requires c).After-larger in
    (omega (arith, place_in_row c.args.demands.now c.args.n c.loop-p.p c.requires.some_port, larger), c.requires.few_slots)

pub loop-p-preserved : goal.loop-p-preserved
loop-p-preserved c =
    let at = c.loop-p in
    let a = c.args in
    let larger = larger_is (goal.at.loop-p-preserved c).After-larger in (
      simp length-set at.invariant.0,
      holds_next at.rates (scaled_rate a.n a.t a.demands.now) at.p _ (omega arith) at.invariant.1 (c.share.ensures ∙ ap (share_of (get_or a.demands.now at.p 0) a.t) larger),
    )

pub returns : goal.returns
unfolding scaled_of
returns c =
    let at = c.loop-p in
    let a = c.args in
    let x = scaled_rate a.n a.t a.demands.now in
    let e : at.p ≡ a.n * a.n = omega arith in
    holds_same at.rates _ x (a.n * a.n) at.invariant.0 (length_list x (a.n * a.n)) (rw e at at.invariant.1) (list_holds x (a.n * a.n))
