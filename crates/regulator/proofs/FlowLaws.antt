-- The places of flows in a list of n × n numbers: each flow has its own, and what a change of one does to rows and columns.
use Prim.Native.Nat.{ℕ, ◌+◌, ◌*◌, ◌/◌, ◌%◌, max, ◌<◌, ◌≤◌}
use mathlib.Core.Path.{◌≡◌, ap, sym, ◌∙◌}
use mathlib.Core.List.{List}
use native.Mathlib.Nat.{mod-lt, div-lt_iff_lt-mul, div-add-mod'}
use native.Mathlib.Omega.{arith}
use lib.ListN.{length, get_or, set}
use lib.Seq.{get_or-set_same, get_or-set_other}
use Rattle.plan.specs.Lines.{flow_of, row_sum, column_sum}
use Rattle.plan.specs.Below.{sum_below}
use Rattle.plan.proofs.BelowLaws.{sum_ext, sum_mono, sum_grow, sum_term, sum_swap}
use Rattle.plan.proofs.LineLaws.{flow_below, flow_row, flow_column}
use Rattle.regulator.specs.Sums.{larger_sum, LineSums}
use Rattle.regulator.proofs.SumLaws.{sum_gap}

-- a place's row and column are below n
pub place_below : (n p : ℕ) → 1 ≤ n → p < n * n → (p / n < n) × (p % n < n)
place_below n p some h = ((div-lt_iff_lt-mul {k = n} {x = p} {y = n} some).1 h, mod-lt p some)

-- no rate is above the sum of its row

pub rate_in_row : (l : List ℕ) (n i j : ℕ) → j < n → get_or l (flow_of n i j) 0 ≤ row_sum l n i
unfolding row_sum
rate_in_row l n i j h = sum_term (λ k. get_or l (flow_of n i k) 0) n j h

pub place_in_row : (l : List ℕ) (n p : ℕ) → 1 ≤ n → get_or l p 0 ≤ row_sum l n (p / n)
place_in_row l n p some = rw (div-add-mod' p n) at (rate_in_row l n (p / n) (p % n) (mod-lt p some))

-- the code's larger sum, from the kept sums
pub larger_kept : (l : List ℕ) (n i j : ℕ) (rows columns : List ℕ) → LineSums l n rows columns → i < n → j < n
    → max (get_or rows i 0) (get_or columns j 0) ≡ larger_sum l n i j
larger_kept l n i j rows columns s hi hj = rw (s.row i hi, s.column j hj)

-- lists of which one is nowhere below the other

pub row_mono : (l m : List ℕ) (n i : ℕ) → ((p : ℕ) → get_or l p 0 ≤ get_or m p 0) → row_sum l n i ≤ row_sum m n i
unfolding row_sum
row_mono l m n i h = sum_mono _ _ n (λ j b. h (flow_of n i j))

pub column_mono : (l m : List ℕ) (n j : ℕ) → ((p : ℕ) → get_or l p 0 ≤ get_or m p 0) → column_sum l n j ≤ column_sum m n j
unfolding column_sum
column_mono l m n j h = sum_mono _ _ n (λ i b. h (flow_of n i j))

-- and then no rate grows by more than its row, or its column
pub gain_row : (l m : List ℕ) (n i j : ℕ) → ((p : ℕ) → get_or l p 0 ≤ get_or m p 0) → j < n → get_or m (flow_of n i j) 0 + row_sum l n i ≤ get_or l (flow_of n i j) 0 + row_sum m n i
unfolding row_sum
gain_row l m n i j h = sum_gap (λ b. get_or l (flow_of n i b) 0) (λ b. get_or m (flow_of n i b) 0) n j (λ b hb. h (flow_of n i b))

pub gain_column : (l m : List ℕ) (n i j : ℕ) → ((p : ℕ) → get_or l p 0 ≤ get_or m p 0) → i < n → get_or m (flow_of n i j) 0 + column_sum l n j ≤ get_or l (flow_of n i j) 0 + column_sum m n j
unfolding column_sum
gain_column l m n i j h = sum_gap (λ a. get_or l (flow_of n a j) 0) (λ a. get_or m (flow_of n a j) 0) n i (λ a ha. h (flow_of n a j))

-- rows and columns add up to the same total
pub same_total : (l : List ℕ) (n : ℕ) → sum_below (row_sum l n) n ≡ sum_below (column_sum l n) n
unfolding row_sum column_sum
same_total l n = sum_swap (λ i j. get_or l (flow_of n i j) 0) n n

-- The rate of the flow (i, j) grows by g.
module _ (l : List ℕ) (n i j g : ℕ) (square : length l ≡ n * n) (hi : i < n) (hj : j < n) where
  abbrev grown : List ℕ
  grown = set l (flow_of n i j) (get_or l (flow_of n i j) 0 + g)

  pub grown_here : get_or grown (flow_of n i j) 0 ≡ get_or l (flow_of n i j) 0 + g
  grown_here = get_or-set_same l (flow_of n i j) _ 0 (omega (arith, flow_below n i j hi hj))

  -- another row
  pub elsewhere_row : (a b : ℕ) → b < n → (a ≡ i → ⊥) → get_or grown (flow_of n a b) 0 ≡ get_or l (flow_of n a b) 0
  elsewhere_row a b hb ne = get_or-set_other l (flow_of n i j) (flow_of n a b) _ 0 (λ e. ne (sym (flow_row n a b hb) ∙ ap (λ (p : ℕ). p / n) e ∙ flow_row n i j hj))

  -- another column
  elsewhere_column : (a b : ℕ) → b < n → (b ≡ j → ⊥) → get_or grown (flow_of n a b) 0 ≡ get_or l (flow_of n a b) 0
  elsewhere_column a b hb ne = get_or-set_other l (flow_of n i j) (flow_of n a b) _ 0 (λ e. ne (sym (flow_column n a b hb) ∙ ap (λ (p : ℕ). p % n) e ∙ flow_column n i j hj))

  pub row_grown : row_sum grown n i ≡ row_sum l n i + g
  unfolding row_sum
  row_grown = sum_grow (λ b. get_or l (flow_of n i b) 0) (λ b. get_or grown (flow_of n i b) 0) n j g hj grown_here (λ b hb ne. elsewhere_column i b hb ne)

  pub row_kept : (a : ℕ) → (a ≡ i → ⊥) → row_sum grown n a ≡ row_sum l n a
  unfolding row_sum
  row_kept a ne = sum_ext _ _ n (λ b hb. elsewhere_row a b hb ne)

  pub column_grown : column_sum grown n j ≡ column_sum l n j + g
  unfolding column_sum
  column_grown = sum_grow (λ a. get_or l (flow_of n a j) 0) (λ a. get_or grown (flow_of n a j) 0) n i g hi grown_here (λ a ha ne. elsewhere_row a j hj ne)

  pub column_kept : (b : ℕ) → b < n → (b ≡ j → ⊥) → column_sum grown n b ≡ column_sum l n b
  unfolding column_sum
  column_kept b hb ne = sum_ext _ _ n (λ a ha. elsewhere_column a b hb ne)
