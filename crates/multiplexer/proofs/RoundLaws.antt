-- Quotients rounded up are compared by products, and deadlines stay below 2 ^ 48 − 1.
use Prim.Native.Nat.{ℕ, suc, ◌+◌, ◌-◌, ◌*◌, ◌/◌, ◌<◌, ◌≤◌}
use mathlib.Core.Path.{◌≡◌, ap}
use mathlib.Core.Logic.{⊎_elim}
use native.Mathlib.Nat.{mul-le-mul, div-le_self, div-lt_iff_lt-mul}
use native.Mathlib.Omega.{arith}
use Rattle.plan.proofs.BelowLaws.{lt_or_le}
use Rattle.multiplexer.specs.Choose.{rounded_up, deadline}
use Rattle.multiplexer.specs.Candidate.{never}

pub quotient_rounded : (x y a : ℕ) → y ≡ x + (a - 1) → y / a ≡ rounded_up x a
unfolding rounded_up
quotient_rounded x y a e = ap (λ (z : ℕ). z / a) e

module _ (x a D : ℕ) (pos : 0 < a) where
  rounded_lt : x + a ≤ D * a → rounded_up x a < D
  unfolding rounded_up
  rounded_lt h = (div-lt_iff_lt-mul {k = a} {x = x + (a - 1)} {y = D} pos).1 (omega arith)

  lt_rounded : rounded_up x a < D → x + a ≤ D * a
  unfolding rounded_up
  lt_rounded h = omega (arith, (div-lt_iff_lt-mul {k = a} {x = x + (a - 1)} {y = D} pos).0 h)

module _ (x a D : ℕ) (pos : 0 < a) where
  -- x / a rounded up is at most D exactly where x is at most D × a
  pub rounded_le : x ≤ D * a → rounded_up x a ≤ D
  rounded_le h = omega (arith, rounded_lt x a (suc D) pos (omega arith))

  pub le_rounded : rounded_up x a ≤ D → x ≤ D * a
  le_rounded h = omega (arith, lt_rounded x a (suc D) pos (omega arith))

  pub rounded_above : D * a < x → D < rounded_up x a
  rounded_above h = ⊎_elim (λ l. l) (λ (l : rounded_up x a ≤ D). absurd (omega (arith, le_rounded l))) (lt_or_le D (rounded_up x a))

  pub above_rounded : D < rounded_up x a → D * a < x
  above_rounded h = ⊎_elim (λ l. l) (λ (l : x ≤ D * a). absurd (omega (arith, rounded_le l))) (lt_or_le (D * a) x)

-- a product of 16 and 32 bits
pub product_small : (a b : ℕ) → a < 65536 → b < 4294967296 → a * b ≤ 281470681677825
product_small a b ha hb = mul-le-mul {n₁ = a} {m₁ = b} {n₂ = 65535} {m₂ = 4294967295} (omega arith) (omega arith)

pub deadline_small : (a k T : ℕ) → a < 65536 → k < 65536 → T < 4294967296 → deadline a k T < never
unfolding rounded_up
deadline_small a k T ha hk hT = omega (arith, product_small k T hk hT, div-le_self ((k + 1) * T + (a - 1)) a)
