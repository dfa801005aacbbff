-- Places that are worked on step by step, F m k being what stands at place k before step m: a place that no step
-- touches stays as it was, and one that later steps don't touch stays as its own step left it.
use Prim.Native.Nat.{ℕ, zero, suc, ◌<◌, ◌≤◌}
use mathlib.Core.Path.{◌≡◌, refl, ◌∙◌}
use mathlib.Core.Logic.{⊎_elim}
use native.Mathlib.Omega.{arith}
use Rattle.plan.proofs.BelowLaws.{below_or_last}

module _ {A : Type 0} (F : ℕ → ℕ → A) (touches : ℕ → ℕ → Type 0) (other : (m k : ℕ) → (touches m k → ⊥) → F (suc m) k ≡ F m k) where
  pub untouched : (m k : ℕ) → ((p : ℕ) → p < m → touches p k → ⊥) → F m k ≡ F zero k
  untouched zero k h = refl
  untouched (suc m) k h = other m k (h m (omega arith)) ∙ untouched m k (λ p l. h p (omega arith))

  pub settled : (m p k : ℕ) → p < m → ((q : ℕ) → p < q → q < m → touches q k → ⊥) → F m k ≡ F (suc p) k
  settled zero p k l h = absurd (omega arith)
  settled (suc m) p k l h =
      ⊎_elim
      (λ (b : p < m). other m k (h m b (omega arith)) ∙ settled m p k b (λ q lo hi. h q lo (omega arith)))
      (λ (b : p ≡ m). rw b refl)
      (below_or_last p m l)

-- Step m works on place m alone.
module _ {A : Type 0} (F : ℕ → ℕ → A) (other : (m k : ℕ) → (k ≡ m → ⊥) → F (suc m) k ≡ F m k) where
  pub not_yet : (m k : ℕ) → m ≤ k → F m k ≡ F zero k
  not_yet m k l = untouched F (λ m k. k ≡ m) other m k (λ p h e. omega arith)

  pub done : (m k : ℕ) → k < m → F m k ≡ F (suc k) k
  done m k l = settled F (λ m k. k ≡ m) other m k k l (λ q lo hi e. omega arith)
