-- "A plan is N, T and N × N rates of 16 bits, row by row, one row an input." A line is a row or a column.
use Rattle.std.specs.Prelude.{ℕ, ◌+◌, ◌*◌, ◌<◌, ◌≤◌, ◌≡◌, Bool, List, length, get_or, eqb}
use Rattle.plan.specs.Range.{most_ports, most_flows}
use Rattle.plan.specs.Below.{sum_below}

-- the number of the flow (i, j): where its rate stands in the list
abbrev pub flow_of : ℕ → ℕ → ℕ → ℕ
flow_of n i j = i * n + j

unfoldable pub row_sum : List ℕ → ℕ → ℕ → ℕ
row_sum rates n i = sum_below (λ j. get_or rates (flow_of n i j) 0) n

unfoldable pub column_sum : List ℕ → ℕ → ℕ → ℕ
column_sum rates n j = sum_below (λ i. get_or rates (flow_of n i j) 0) n

-- "the list has N × N numbers"
abbrev pub is_square : ℕ → List ℕ → Bool
is_square n rates = eqb (length rates) (n * n)

-- For the code, which adds up rows and columns by one function: line k begins at place k × across, and its
-- numbers stand `along` places apart. Rows are the lines of (n, 1), columns those of (1, n).
unfoldable pub line_sum : List ℕ → ℕ → ℕ → ℕ → ℕ → ℕ
line_sum list n across along k = sum_below (λ m. get_or list (k * across + m * along) 0) n

-- what the sums of lines ask of their list: no more lines than ports, and each number within the list
pub record LinesIn (list : List ℕ) (n across along : ℕ) : Type 0 where
  pub few : n ≤ most_ports
  pub inside : (k m : ℕ) → k < n → m < n → k * across + m * along < length list

-- For the code: what the function answers that computes the number of a flow, and that the lists of N × N and of 256 have that
-- place.
pub record FlowPlace (n i j r : ℕ) : Type 0 where
  pub is : r ≡ flow_of n i j
  pub below : r < n * n
  pub small : r < most_flows
