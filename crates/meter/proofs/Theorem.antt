-- A record made under one plan from a frame start is smooth: from the window rule alone.
use Prim.Native.Nat.{ℕ, ◌+◌, ◌<◌, ◌≤◌}
use mathlib.Core.Path.{subst}
use mathlib.Core.List.{List}
use native.Mathlib.Omega.{arith}
use lib.ListN.{length, get_or}
use Rattle.std.specs.Prelude.{Ok}
use Rattle.plan.specs.Below.{sum_below}
use Rattle.plan.proofs.AcceptLaws.{accepted}
use Rattle.multiplexer.specs.Window.{column_of, Fits, FrameStart, WindowRule}
use Rattle.multiplexer.proofs.PortLaws.{column_length, column_rate, column_fits}
use Rattle.multiplexer.proofs.WindowLaws.{window_promise}
use Rattle.meter.specs.Cover.{cover_at, Inside}
use Rattle.meter.specs.Answer.{Covers}
use Rattle.meter.specs.Record.{UnderOnePlan}
use Rattle.meter.specs.Bound.{WithinBounds, Smooth, SmoothByWindows, SmoothHeads}
use Rattle.meter.specs.declared.Measured.{Measured}
use Rattle.meter.proofs.CoverLaws.{at, cover_split}
use Rattle.meter.proofs.AnswerLaws.{covers_measures}
use Rattle.meter.proofs.FrameLaws.{near_there}
use Rattle.meter.proofs.BoundLaws.{Near, near_most, near_least}

module _ (rs : List ℕ) (T : ℕ) (fits : Fits rs T) (rule : (ks : List ℕ) → FrameStart ks (length rs) → WindowRule rs ks T) (f : ℕ) (below : f < length rs)
    (recorded : List ℕ) (made : UnderOnePlan rs T recorded) where
  abbrev a : ℕ
  a = get_or rs f 0

  -- the services in the first p slots
  abbrev C : ℕ → ℕ
  C p = sum_below (at recorded f) p

  near_at : (p : ℕ) → p ≤ length recorded → Near T a (C p) p
  near_at p l = near_there rs T fits rule f below recorded made p l

  everywhere : (l t : ℕ) → 1 ≤ l → Inside recorded l t → WithinBounds l a T (cover_at recorded f l t) (cover_at recorded f l t)
  everywhere l t some inside =
      let begin = near_at t (omega arith) in
      let end : Near T a (C t + cover_at recorded f l t) (t + l) = rw (cover_split recorded f l t) (near_at (t + l) inside) in
      record {
        at_least = near_least T a (C t) t l (cover_at recorded f l t) fits.some_slot begin end;
        at_most = near_most T a (C t) t l (cover_at recorded f l t) fits.some_slot begin end some;
      }

  measured : (l : ℕ) (r : Measured) → 1 ≤ l → Covers recorded f l (Ok r) → WithinBounds l a T r.least.services r.most.services
  measured l r some covers =
      let m = covers_measures recorded f l r covers in
      record {
        at_least = rw m.least.there (everywhere l r.least.place some m.least.inside).at_least;
        at_most = rw m.most.there (everywhere l r.most.place some m.most.inside).at_most;
      }

pub smooth_by_windows : (rs : List ℕ) (T : ℕ) → SmoothByWindows rs T
smooth_by_windows rs T fits rule recorded made f below =
    record { everywhere = everywhere rs T fits rule f below recorded made; measured = measured rs T fits rule f below recorded made }

pub head_smooth : (n T : ℕ) (rates : List ℕ) → SmoothHeads n T rates
head_smooth n T rates ok i j hi hj recorded made =
    let plan = accepted n T rates ok in
    let size = column_length rates n j in
    subst (λ (a : ℕ). Smooth recorded i a T) (column_rate rates n i j hi)
    (smooth_by_windows (column_of rates n j) T (column_fits n T rates plan j hj)
    (λ ks start. (window_promise n T rates ok).outputs j hj ks (subst (FrameStart ks) size start))
    recorded made i (rw size hi))
