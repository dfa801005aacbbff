use Prim.Native.Nat.{ℕ, ◌+◌, ◌*◌, ◌<◌, ◌≤◌}
use mathlib.Core.Path.{◌≡◌}
use native.Mathlib.Numerals.{add-one}
use native.Mathlib.Omega.{arith}
use lib.ListN.{length, take, replicate}
use Rattle.plan.specs.Range.{most_flows}
use Rattle.planfile.specs.Layout.{word_at, rates_of}
use Rattle.planfile.proofs.LayoutLaws.{rates_length, padded_none, padded_one, padded_room, room_length}
use Rattle.planfile.proofs.layout.rates_of.Goals as goal

pub loop-p-init : goal.loop-p-init
unfolding rates_of
loop-p-init c = padded_none c.args.count (omega arith)

pub loop-p-preserved : goal.loop-p-preserved
unfolding rates_of
loop-p-preserved c =
    let a = c.args in
    let p = c.loop-p.p in
    let small : p < length (take a.count (replicate {A = ℕ} most_flows 0)) = c.loop-p-test.true in
    rw (c.loop-p.invariant, c.word_at.ensures, add-one p)
    (padded_one a.count (rates_of a.bytes.now p) p (word_at a.bytes.now (8 + 2 * p)) (rates_length a.bytes.now p) (omega (arith, small, room_length a.count (omega arith))))

pub returns : goal.returns
returns c =
    let a = c.args in
    let past : length (take a.count (replicate {A = ℕ} most_flows 0)) ≤ c.loop-p.p = c.loop-p-test.false in
    let all : c.loop-p.p ≡ a.count = omega (arith, past, room_length a.count (omega arith)) in
    rw (c.loop-p.invariant, all) (padded_room (rates_of a.bytes.now a.count) a.count (rates_length a.bytes.now a.count) (omega arith))
