-- An array that the library makes by a function of the number.
use Prim.Native.Nat.{ℕ, zero, suc, ◌+◌, ◌<◌, ◌≤◌}
use mathlib.Core.Path.{◌≡◌, subst, ◌∙◌}
use mathlib.Core.Logic.{⊎_elim}
use mathlib.Core.List.{List}
use native.Mathlib.Omega.{arith}
use lib.ListN.{get_or}
use denote.Param.Members.{Mut, Called}
use Rattle.std.specs.Array.{IsFromFnResultFrom}
use Rattle.plan.proofs.BelowLaws.{lt_or_le}

module _ {F : Type 0} (g : Mut F (ℕ × Unit {0}) ℕ) (f : F) (want : ℕ → ℕ) (m : ℕ)
    (each : (i : ℕ) (y : ℕ) (q : F) → i < m → Called g f (i, tt) y q → (y ≡ want i) × (q ≡ f)) (ys : List ℕ)
  where
    pub made_by : (n i : ℕ) → i + n ≤ m → IsFromFnResultFrom g f ys i n → (k : ℕ) → i ≤ k → k < i + n → get_or ys k 0 ≡ want k
    made_by zero i few h k low high = absurd (omega arith)
    made_by (suc n) i few (q, y, at, called, more) k low high =
        let is = each i y q (omega arith) called in
        ⊎_elim
        (λ (b : i < k). made_by n (i + 1) (omega arith) (subst (λ (p : F). IsFromFnResultFrom g p ys (i + 1) n) is.1 more) k (omega arith) (omega arith))
        (λ (b : k ≤ i). let e : k ≡ i = omega arith in rw e (at.1 0 ∙ is.0))
        (lt_or_le i k)
