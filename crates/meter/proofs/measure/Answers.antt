use Prim.Native.Nat.{suc, ◌+◌, ◌-◌, ◌<◌, ◌≤◌}
use borrow.Author.Tests.{lt-ltb, le-ltb}
use mathlib.Core.Path.{◌≡◌, sym, ◌∙◌}
use native.Mathlib.Omega.{arith}
use lib.ListN.{length, get_or}
use Rattle.meter.specs.Cover.{cover_at}
use Rattle.meter.specs.Search.{fewer, more, or_better}
use Rattle.meter.proofs.CoverLaws.{service_le_one, cover_within}
use Rattle.meter.proofs.MeasureLaws.{behind, behind_length, looked_first, looked_slides, looked_next, looked_all}
use Rattle.meter.proofs.SearchLaws.{better_taken, better_kept}
use Rattle.meter.proofs.measure.Goals as goal
use Rattle.meter.proofs.measure.Goals.{After-service-services-in-loop-place, Joined-most-services, then-services-least, else-services-least, then-most-services, else-most-services}

pub loop-place-init : goal.loop-place-init
loop-place-init c = looked_first _ _ _ _ c.first_services-services.ensures

-- The stretch before has at most l services, and a slot at most one.
pub overflow_add-services : goal.overflow_add-services
overflow_add-services c =
    let a = c.args in
    let p = c.loop-place.place in
    omega (arith, c.loop-place.invariant.here, cover_within a.recorded.now a.flow a.l p, service_le_one a.flow (get_or (behind a.recorded.now a.flow a.l) p 0))

-- The services at the next place, and the slot that leaves.
slides : (c : After-service-services-in-loop-place) → let a = c.args in
    cover_at a.recorded.now a.flow a.l (suc c.loop-place.place) + c.service-services-in-loop-place.result ≡ c.loop-place.services + c.service-services.result
slides c =
    let a = c.args in
    let p = c.loop-place.place in
    let h : p < length (behind a.recorded.now a.flow a.l) = c.loop-place-test.true in
    rw (c.service-services.ensures, c.service-services-in-loop-place.ensures, c.loop-place.invariant.here)
    (looked_slides a.recorded.now a.flow a.l p (omega (arith, h, behind_length a.recorded.now a.flow a.l)))

pub overflow_sub-services : goal.overflow_sub-services
overflow_sub-services c = omega (arith, slides (goal.at.overflow_sub-services c).After-service-services-in-loop-place)

least : (c : Joined-most-services) → let here = c.loop-place.services + c.service-services.result - c.service-services-in-loop-place.result in
    c.if-services-least.least ≡ or_better fewer c.loop-place.least here (c.loop-place.place + 1)
least c = elim c.if-services-least.branch [
  | then-services-least w ↦ w.least-is ∙ sym (better_taken fewer _ _ _ (lt-ltb _ _ w.if-services-least.true))
  | else-services-least w ↦ w.least-is ∙ sym (better_kept fewer _ _ _ (le-ltb _ _ w.if-services-least.false))
]

most : (c : Joined-most-services) → let here = c.loop-place.services + c.service-services.result - c.service-services-in-loop-place.result in
    c.if-most-services.most ≡ or_better more c.loop-place.most here (c.loop-place.place + 1)
most c = elim c.if-most-services.branch [
  | then-most-services w ↦ w.most-is ∙ sym (better_taken more _ _ _ (lt-ltb _ _ w.if-most-services.true))
  | else-most-services w ↦ w.most-is ∙ sym (better_kept more _ _ _ (le-ltb _ _ w.if-most-services.false))
]

pub loop-place-preserved : goal.loop-place-preserved
loop-place-preserved c =
    let a = c.args in
    let k = goal.at.loop-place-preserved c in
    looked_next a.recorded.now a.flow a.l c.loop-place.place c.loop-place.invariant
    (omega (arith, slides k.After-service-services-in-loop-place))
    (least k.Joined-most-services)
    (most k.Joined-most-services)

pub returns : goal.returns
returns c =
    let a = c.args in
    let past : length (behind a.recorded.now a.flow a.l) ≤ c.loop-place.place = c.loop-place-test.false in
    looked_all _ _ _ c.loop-place.invariant c.requires.0 (omega (arith, past, behind_length a.recorded.now a.flow a.l))
