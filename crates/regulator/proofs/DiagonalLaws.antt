-- The diagonals: each has one column in each row, and each flow is on one of them.
use Prim.Native.Nat.{ℕ, ◌+◌, ◌-◌, ◌%◌, ◌<◌, ◌≤◌}
use mathlib.Core.Path.{◌≡◌, ap, ◌∙◌}
use native.Mathlib.Nat.{mod-lt, mod-add-mod, add-mod-mod, add-mod_right, mod-eq_of_lt}
use native.Mathlib.Omega.{arith}
use Rattle.regulator.specs.Boost.{column_on}

pub column_below : (n k i : ℕ) → 1 ≤ n → column_on n k i < n
unfolding column_on
column_below n k i some = mod-lt (i + k) some

-- the diagonal that the flow (i, j) is on
unfoldable pub diagonal_of : ℕ → ℕ → ℕ → ℕ
diagonal_of n i j = (j + (n - i)) % n

pub diagonal_below : (n i j : ℕ) → i < n → diagonal_of n i j < n
unfolding diagonal_of
diagonal_below n i j hi = mod-lt (j + (n - i)) (omega arith)

pub on_diagonal : (n i j : ℕ) → i < n → j < n → column_on n (diagonal_of n i j) i ≡ j
unfolding column_on diagonal_of
on_diagonal n i j hi hj =
    let round : i + (j + (n - i)) ≡ j + n = omega arith in
    add-mod-mod i (j + (n - i)) n ∙ ap (λ (x : ℕ). x % n) round ∙ add-mod_right j n ∙ mod-eq_of_lt hj

-- and on no other
pub diagonal_only : (n i k : ℕ) → i < n → k < n → diagonal_of n i (column_on n k i) ≡ k
unfolding column_on diagonal_of
diagonal_only n i k hi hk =
    let round : i + k + (n - i) ≡ k + n = omega arith in
    mod-add-mod (i + k) n (n - i) ∙ ap (λ (x : ℕ). x % n) round ∙ add-mod_right k n ∙ mod-eq_of_lt hk
