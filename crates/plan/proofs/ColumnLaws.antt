-- The sum that acceptance compares when a column's turn comes, beside the list's numbers, place by place.
use Prim.Native.Nat.{ℕ, ◌*◌, ◌<◌}
use mathlib.Core.Path.{◌≡◌, refl, ap, sym, ◌∙◌}
use mathlib.Core.List.{List}
use lib.ListN.{get_or}
use borrow.Author.Tests.{eq-eqb, ne_eqb}
use Rattle.plan.specs.Below.{sum_below}
use Rattle.plan.specs.Lines.{flow_of, column_sum}
use Rattle.plan.specs.Columns.{part_of_column, EveryColumn}
use Rattle.plan.proofs.BelowLaws.{sum_ext, sum_one, sum_rows}
use Rattle.plan.proofs.LineLaws.{flow_column, column_line}

module _ (rates : List ℕ) (n j : ℕ) (below : j < n) where
  -- what row i has for the column, at each of its places
  abbrev in_row : ℕ → ℕ → ℕ
  in_row i k = part_of_column rates n j (flow_of n i k)

  off_column : (i k : ℕ) → k < n → (k ≡ j → ⊥) → in_row i k ≡ 0
  off_column i k l other = rw (flow_column n i k l, ne_eqb k j other) refl

  on_column : (i : ℕ) → in_row i j ≡ get_or rates (flow_of n i j) 0
  on_column i = rw (eq-eqb _ _ (flow_column n i j below)) refl

  row_part : (i : ℕ) → sum_below (in_row i) n ≡ get_or rates (flow_of n i j) 0
  row_part i = sum_one (in_row i) n j below (off_column i) ∙ on_column i

  column_parts : sum_below (part_of_column rates n j) (n * n) ≡ column_sum rates n j
  unfolding column_sum
  column_parts = sum_rows (part_of_column rates n j) n n ∙ sum_ext _ _ n (λ i l. row_part i)

pub every_column : EveryColumn
every_column rates n j square below =
    record {
      compared = column_line rates n j;
      each_once = column_line rates n j ∙ sym (ap (sum_below (part_of_column rates n j)) square ∙ column_parts rates n j below);
    }
