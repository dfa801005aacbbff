-- How far the services of a flow are from its share, in a frame that keeps the window rule. Of the services in the slots below
-- t, the last one's window began before t, and the next one's ends after t.
use Prim.Native.Nat.{ℕ, suc, ◌+◌, ◌*◌, ◌<◌, ◌≤◌}
use mathlib.Core.Path.{◌≡◌, ap}
use mathlib.Core.Logic.{⊎_elim}
use mathlib.Core.List.{List}
use native.Mathlib.Nat.{mul-le-mul_left, mul-le-mul_right, mul-sub}
use native.Mathlib.Omega.{arith}
use lib.ListN.{length, get_or}
use Rattle.plan.proofs.BelowLaws.{lt_or_le}
use Rattle.multiplexer.specs.Count.{services_of}
use Rattle.multiplexer.specs.Frame.{choice_at, services_before}
use Rattle.multiplexer.specs.Window.{WindowRule}
use Rattle.multiplexer.proofs.CountLaws.{services_le_one}
use Rattle.multiplexer.proofs.RoundLaws.{le_rounded, above_rounded}
use Rattle.meter.proofs.SumLaws.{sum_grows, sum_ones}

module _ (rs ks : List ℕ) (T f : ℕ) (rule : WindowRule rs ks T) (below : f < length rs) where
  abbrev a : ℕ
  a = get_or rs f 0

  -- the services in the slots below t
  abbrev B : ℕ → ℕ
  B t = services_before rs ks T f t

  grows : (t u : ℕ) → t ≤ u → B t ≤ B u
  grows t u l = sum_grows (λ v. services_of (choice_at rs ks T v) f) t u l

  -- a slot before which fewer services were given comes before
  earlier : (u t : ℕ) → B u < B t → u < t
  earlier u t l = ⊎_elim (λ (b : u < t). b) (λ (b : t ≤ u). absurd (omega (arith, grows t u b))) (lt_or_le u t)

  pub rate_within : a ≤ T
  rate_within = omega (arith, rule.exactly f below, sum_ones (λ v. services_of (choice_at rs ks T v) f) T (λ v. services_le_one (choice_at rs ks T v) f))

  pub pace_early : (t : ℕ) → t ≤ T → B t * T + a ≤ t * a + T
  pace_early t l = ⊎_elim none some (lt_or_le (B t) 1)
    where
      none : B t < 1 → B t * T + a ≤ t * a + T
      none z = let e : B t ≡ 0 = omega arith in omega (arith, ap (λ (k : ℕ). k * T) e, rate_within)

      some : 1 ≤ B t → B t * T + a ≤ t * a + T
      some pos =
          let given : B t ≤ a = omega (arith, grows t T l, rule.exactly f below) in
          let last = rule.given f (B t) below pos given in
          let before : suc last.slot ≤ t = earlier last.slot t (omega (arith, last.is.number)) in
          omega (arith, le_rounded _ a last.slot (omega arith) last.window.opens, mul-sub T (B t) 1, mul-le-mul_right a before)

  pub pace_late : (t : ℕ) → t ≤ T → 1 ≤ T → t * a < (B t + 1) * T
  pace_late t l pos = ⊎_elim more all (lt_or_le (B t) a)
    where
      more : B t < a → t * a < (B t + 1) * T
      more h =
          let next = rule.given f (B t + 1) below (omega arith) (omega arith) in
          let after : t ≤ next.slot = omega (arith, earlier t (suc next.slot) (omega (arith, next.is.number, next.is.served))) in
          omega (arith, above_rounded _ a next.slot (omega arith) next.window.closes, mul-le-mul_right a after)

      all : a ≤ B t → t * a < (B t + 1) * T
      all h = omega (arith, mul-le-mul_right a l, mul-le-mul_left T h)
