-- The list of a function's values below n.
use Prim.Native.Nat.{ℕ, zero, suc, ◌<◌}
use mathlib.Core.Path.{◌≡◌, refl, ap, sym, ◌∙◌}
use mathlib.Core.Logic.{⊎_elim}
use mathlib.Core.List.{[], ◌∷◌}
use native.Mathlib.Omega.{arith}
use lib.ListN.{length, get_or, length-append, get_or-append}
use lib.Seq.{get_or_at}
use Rattle.plan.proofs.BelowLaws.{below_or_last}
use Rattle.plan.specs.Below.{list_below}

module _ {A : Type 0} (x : ℕ → A) where
  pub length_list : (n : ℕ) → length (list_below x n) ≡ n
  unfolding list_below
  length_list zero = refl
  length_list (suc n) = omega (arith, length-append (list_below x n) (x n ∷ []), length_list n)

  pub get_d_list : (n k : ℕ) (d : A) → k < n → get_or (list_below x n) k d ≡ x k
  unfolding list_below
  get_d_list zero k d l = absurd (omega arith)
  get_d_list (suc n) k d l =
      ⊎_elim
      (λ (b : k < n). get_or-append (list_below x n) (x n ∷ []) d k (omega (arith, length_list n)) ∙ get_d_list n k d b)
      (λ (e : k ≡ n). get_or_at (list_below x n) (x n) [] d k (length_list n ∙ sym e) ∙ ap x (sym e))
      (below_or_last k n l)
