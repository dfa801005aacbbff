-- Sums, tests and lists over the numbers below n.
use Rattle.std.specs.Prelude.{ℕ, zero, suc, ◌+◌, Bool, true, ◌&&◌, List, [], ◌∷◌, ◌++◌}

-- x 0 + .. + x (n - 1)
abbrev pub sum_below : (ℕ → ℕ) → ℕ → ℕ
sum_below x zero = 0
sum_below x (suc n) = sum_below x n + x n

-- whether p holds of 0, .., n - 1
abbrev pub all_below : (ℕ → Bool) → ℕ → Bool
all_below p zero = true
all_below p (suc n) = all_below p n && p n

-- x 0, .., x (n - 1)
unfoldable pub list_below : {A : Type 0} → (ℕ → A) → ℕ → List A
list_below x zero = []
list_below x (suc n) = list_below x n ++ (x n ∷ [])
