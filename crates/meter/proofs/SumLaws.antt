-- Sums over the numbers below n that are taken from another place on.
use Prim.Native.Nat.{ℕ, zero, suc, ◌+◌, ◌-◌, ◌≤◌}
use mathlib.Core.Path.{◌≡◌, ap}
use native.Mathlib.Nat.{add-zero, add-suc}
use native.Mathlib.Omega.{arith}
use Rattle.plan.specs.Below.{sum_below}
use Rattle.plan.proofs.BelowLaws.{sum_mono, sum_const}

module _ (x : ℕ → ℕ) where
  -- one place further on: one term enters and one leaves
  pub sum_slides : (t l : ℕ) → sum_below (λ u. x (suc t + u)) l + x t ≡ sum_below (λ u. x (t + u)) l + x (t + l)
  sum_slides t zero = omega (arith, ap x (add-zero t))
  sum_slides t (suc l) = let same : suc t + l ≡ t + suc l = omega arith in omega (arith, sum_slides t l, ap x same)

  pub sum_split : (t l : ℕ) → sum_below x t + sum_below (λ u. x (t + u)) l ≡ sum_below x (t + l)
  sum_split t zero = rw (add-zero t) (omega arith)
  sum_split t (suc l) = rw (add-suc t l) (omega (arith, sum_split t l))

  pub sum_first : (n : ℕ) → sum_below x (suc n) ≡ x 0 + sum_below (λ u. x (suc u)) n
  sum_first zero = omega arith
  sum_first (suc n) = omega (arith, sum_first n)

  pub sum_grows : (m n : ℕ) → m ≤ n → sum_below x m ≤ sum_below x n
  sum_grows m n l = let e : m + (n - m) ≡ n = omega arith in omega (arith, sum_split m (n - m), ap (sum_below x) e)

-- terms of at most 1
pub sum_ones : (x : ℕ → ℕ) (n : ℕ) → ((k : ℕ) → x k ≤ 1) → sum_below x n ≤ n
sum_ones x n h = omega (arith, sum_mono x (λ k. 1) n (λ k _. h k), sum_const 1 n)
