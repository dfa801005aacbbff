-- "A plan is accepted exactly when N and T are in range, the list has N × N numbers, and no row sum and
-- no column sum exceeds T." Order: "1 to 5, all rows before all columns".
use Rattle.std.specs.Prelude.{ℕ, ◌*◌, ◌<◌, ◌≤◌, Bool, not, List, ◌≡◌, length, leb, Ok}
use Rattle.refusal.specs.Chain.{refuse_if}
use Rattle.refusal.specs.declared.Refusal.TheVariants.{PortsOutOfRange, FrameOutOfRange, ListLength, RowAboveFrame, ColumnAboveFrame}
use Rattle.refusal.specs.Verdict.{Verdict}
use Rattle.plan.specs.Below.{all_below}
use Rattle.plan.specs.Lines.{row_sum, column_sum, is_square}
use Rattle.plan.specs.Range.{most_ports, most_slots, ports_in_range, frame_in_range}

-- none of the n sums exceeds t
abbrev pub within_frame : (ℕ → ℕ) → ℕ → ℕ → Bool
within_frame sum n t = all_below (λ k. leb (sum k) t) n

unfoldable pub accept_of : ℕ → ℕ → List ℕ → Verdict
accept_of n t rates =
    refuse_if (not (ports_in_range n)) PortsOutOfRange
    (refuse_if (not (frame_in_range t)) FrameOutOfRange
    (refuse_if (not (is_square n rates)) ListLength
    (refuse_if (not (within_frame (row_sum rates n) n t)) RowAboveFrame
    (refuse_if (not (within_frame (column_sum rates n) n t)) ColumnAboveFrame
    (Ok tt)))))

-- What is known of an accepted plan. proofs/AcceptLaws.antt has that these are the accepted ones, and no others.
pub record IsPlan (n t : ℕ) (rates : List ℕ) : Type 0 where
  pub some_port : 1 ≤ n
  pub few_ports : n ≤ most_ports
  pub some_slot : 1 ≤ t
  pub few_slots : t ≤ most_slots
  pub square : length rates ≡ n * n
  pub rows : (i : ℕ) → i < n → row_sum rates n i ≤ t
  pub columns : (j : ℕ) → j < n → column_sum rates n j ≤ t
