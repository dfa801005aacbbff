-- "Each column is added up when its turn comes, and that sum is proved to be the column's for every list N × N long." Acceptance
-- keeps no list of sums: it adds up a line (`Lines::sum`), compares the sum with T (`Lines::fit`) and goes on to the next.
use Rattle.std.specs.Prelude.{ℕ, ◌*◌, ◌%◌, ◌<◌, cond, List, ◌≡◌, eqb, length, get_or}
use Rattle.plan.specs.Below.{sum_below}
use Rattle.plan.specs.Lines.{column_sum, line_sum}

-- the number at a place that stands in column j, and 0 at every other place
abbrev pub part_of_column : List ℕ → ℕ → ℕ → ℕ → ℕ
part_of_column rates n j place = cond (eqb (place % n) j) (get_or rates place 0) 0

-- What is known of the sum that acceptance compares with T when the turn of column j comes: that of line j of (1, n).
pub record ColumnAddedUp (rates : List ℕ) (n j : ℕ) : Type 0 where
  -- it is the column's
  pub compared : line_sum rates n 1 n j ≡ column_sum rates n j
  -- it counts each number of the column once, whatever else the list holds
  pub each_once : line_sum rates n 1 n j ≡ sum_below (part_of_column rates n j) (length rates)

-- for every list N × N long and every column (proofs/ColumnLaws.antt, every_column)
abbrev pub EveryColumn : Type 0
EveryColumn = (rates : List ℕ) (n j : ℕ) → length rates ≡ n * n → j < n → ColumnAddedUp rates n j
