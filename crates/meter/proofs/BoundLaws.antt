-- From services counted from a frame's start to the services in a stretch: C of them in the first p slots, and C + m in the
-- first p + l.
use Prim.Native.Nat.{ℕ, ◌+◌, ◌-◌, ◌*◌, ◌/◌, ◌<◌, ◌≤◌}
use native.Mathlib.Nat.{lt_of_mul-lt-mul_right, div-mul-le_self, mul-sub}
use native.Mathlib.Omega.{arith}
use Rattle.multiplexer.specs.Choose.{rounded_up}
use Rattle.multiplexer.proofs.RoundLaws.{le_rounded}
use Rattle.meter.specs.Bound.{least_bound, most_bound}

-- C services in the first p slots of a record: the last one's window began before they ended, and the next one's ends after
pub record Near (T a C p : ℕ) : Type 0 where
  pub early : C * T + a ≤ p * a + T
  pub late : p * a < (C + 1) * T

module _ (T a C p l m : ℕ) (pos : 1 ≤ T) (begin : Near T a C p) (end : Near T a (C + m) (p + l)) where
  pub near_most : 1 ≤ l → m ≤ most_bound l a T
  near_most some =
      let up = rounded_up ((l - 1) * a) T in
      let enough = le_rounded ((l - 1) * a) T up pos (omega arith) in
      let close : m * T < (up + 2) * T = omega (arith, begin.late, end.early, mul-sub a l 1, enough) in
      omega (arith, lt_of_mul-lt-mul_right T {m = m} {n = up + 2} close)

  pub near_least : least_bound l a T ≤ m
  near_least =
      let down = (l + 1) * a / T in
      let close : down * T < (m + 2) * T = omega (arith, div-mul-le_self ((l + 1) * a) T, begin.early, end.late) in
      omega (arith, lt_of_mul-lt-mul_right T {m = down} {n = m + 2} close)
