-- Rows and columns of a list of n × n numbers: where they stand, and that the code's lines are these.
use Prim.Native.Nat.{ℕ, ◌+◌, ◌*◌, ◌/◌, ◌%◌, ◌<◌, ◌≤◌}
use mathlib.Core.Path.{◌≡◌, ap, sym, ◌∙◌}
use mathlib.Core.List.{List}
use native.Mathlib.Nat.{add-zero, mul-le-mul_right, mul-le-mul, suc-mul, mul-add-div_right, div-eq_of_lt, mul-add-mod_self_right, mod-eq_of_lt}
use native.Mathlib.Omega.{arith}
use lib.ListN.{length, get_or}
use Rattle.plan.specs.Range.{most_ports, most_flows}
use Rattle.plan.specs.Lines.{flow_of, row_sum, column_sum, line_sum, LinesIn}
use Rattle.plan.proofs.BelowLaws.{sum_ext}

-- row i of m rows of n ends within them
pub row_within : (i m n : ℕ) → i < m → i * n + n ≤ m * n
row_within i m n h = rw suc-mul at (mul-le-mul_right n h)

pub flow_below : (n i j : ℕ) → i < n → j < n → flow_of n i j < n * n
flow_below n i j hi hj = omega (arith, row_within i n n hi)

-- a flow's number tells its input and its output
pub flow_row : (n i j : ℕ) → j < n → flow_of n i j / n ≡ i
flow_row n i j h = mul-add-div_right {m = n} (omega arith) i j ∙ ap (λ (q : ℕ). i + q) (div-eq_of_lt h) ∙ add-zero i

pub flow_column : (n i j : ℕ) → j < n → flow_of n i j % n ≡ j
flow_column n i j h = mul-add-mod_self_right i n j ∙ mod-eq_of_lt h

pub flow_one : (n i j p q : ℕ) → j < n → q < n → flow_of n i j ≡ flow_of n p q → (i ≡ p) × (j ≡ q)
flow_one n i j p q hj hq e = (
  sym (flow_row n i j hj) ∙ ap (λ (k : ℕ). k / n) e ∙ flow_row n p q hq,
  sym (flow_column n i j hj) ∙ ap (λ (k : ℕ). k % n) e ∙ flow_column n p q hq,
)

pub square_small : (n : ℕ) → n ≤ most_ports → n * n ≤ most_flows
square_small n h = mul-le-mul h h

pub rows_in : (list : List ℕ) (n : ℕ) → n ≤ most_ports → length list ≡ n * n → LinesIn list n n 1
rows_in list n h e = record { few = h; inside = λ k m hk hm. omega (arith, flow_below n k m hk hm) }

pub columns_in_lem : (list : List ℕ) (n : ℕ) → n ≤ most_ports → length list ≡ n * n → LinesIn list n 1 n
columns_in_lem list n h e = record { few = h; inside = λ k m hk hm. omega (arith, flow_below n m k hm hk) }

pub row_line : (list : List ℕ) (n k : ℕ) → line_sum list n n 1 k ≡ row_sum list n k
unfolding line_sum row_sum
row_line list n k = sum_ext _ _ n (λ m l. ap (λ (p : ℕ). get_or list p 0) (omega arith))

pub column_line : (list : List ℕ) (n k : ℕ) → line_sum list n 1 n k ≡ column_sum list n k
unfolding line_sum column_sum
column_line list n k = sum_ext _ _ n (λ m l. ap (λ (p : ℕ). get_or list p 0) (omega arith))
