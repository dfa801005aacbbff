use Rattle.std.proofs.Common.{rules}
use Prim.Native.Nat.{ℕ}
use mathlib.Core.Path.{◌≡◌, refl, ap, ◌∙◌}
use mathlib.Core.List.{List}
use native.Mathlib.Numerals.{add-one}
use native.Mathlib.Omega.{arith}
use lib.ListN.{length, take, length-take}
use Rattle.plan.specs.Range.{most_ports}
use Rattle.multiplexer.specs.Count.{cleared_below}
use Rattle.multiplexer.proofs.CountLaws.{cleared_front}
use Rattle.multiplexer.proofs.Multiplexer.end_frame.Goals as goal

pub loop-count-init : goal.loop-count-init
unfolding cleared_below
loop-count-init c = refl

pub loop-count-preserved : goal.loop-count-preserved
unfolding cleared_below
loop-count-preserved c = rw (add-one c.loop-count.count-index, c.loop-count.invariant) refl

pub returns : goal.returns
returns c =
    let served = c.args.self.served in
    let full : length served ≡ most_ports = search rules in
    let few : length (take c.min.result served) ≡ c.min.result = omega (arith, length-take c.min.result served) in
    let l = c.loop-count in
    let all : l.count-index ≡ c.min.result = omega (arith, l.auto.count-items, l.auto.count-index-end) in
    ap (λ (ks : List ℕ). record { served = ks }) (rw (l.invariant, all, cleared_front served c.min.result (omega arith)) (ap (cleared_below served) c.min.ensures))
