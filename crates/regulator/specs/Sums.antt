-- "the larger of its row and column sum"
use Rattle.std.specs.Prelude.{ℕ, max, ◌<◌, ◌≤◌, List, ◌≡◌, length, get_or}
use Rattle.plan.specs.Lines.{row_sum, column_sum}

-- of the flow (i, j)
abbrev pub larger_sum : List ℕ → ℕ → ℕ → ℕ → ℕ
larger_sum list n i j = max (row_sum list n i) (column_sum list n j)

-- the list has x 0, .., x (m - 1) at its first m places
abbrev pub Holds : List ℕ → (ℕ → ℕ) → ℕ → Type 0
Holds list x m = (k : ℕ) → k < m → get_or list k 0 ≡ x k

-- For the code, which keeps the sums of a list's n rows and n columns in two arrays. What these hold from
-- place n up is never looked at.
pub record LineSums (list : List ℕ) (n : ℕ) (rows columns : List ℕ) : Type 0 where
  pub room_for_rows : n ≤ length rows
  pub room_for_columns : n ≤ length columns
  pub row : Holds rows (row_sum list n) n
  pub column : Holds columns (column_sum list n) n
